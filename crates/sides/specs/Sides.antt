-- One pass of the marks against a pair (a, b): the marks strictly left of a to b, those strictly right, and whether a third mark lies on
-- the segment (rules 1, 3 and 5).
--   is_mark m i        i is the number of a mark
--   left_mark m p q k  p, q and k are marks, and k lies strictly left of p to q
--   left_set m p q     the marks strictly left of p to q; none where p or q is no mark, or both are one
--   Passed, Found      what a pass of some marks finds, and of all
--   kind_by x          rule 5, from what a pass has found
use Rattle.std.specs.Prelude.{◌≡◌, Bool, true, false, cond, List, ℕ, zero, suc, ltb, ℤ}
use Rattle.plane.specs.Marks.{count, mark}
use Rattle.plane.specs.Side.{left_of}
use Rattle.plane.specs.Edge.{clear, empty_edge}
use Rattle.plane.specs.declared.hull.Kind.{Kind}
use Rattle.plane.specs.declared.hull.Kind.TheVariants.{Blocked, Hull, Inner}
use Rattle.sets.specs.declared.Set.{Set}
use Rattle.sides.specs.declared.Sides.{Sides}
use Rattle.sets.specs.Sets.{word, set_of, none}

unfoldable pub is_mark : List ℤ → ℕ → Bool
is_mark m i = ltb i (count m)

unfoldable pub left_mark : List ℤ → ℕ → ℕ → ℕ → Bool
left_mark m p q k =
    cond (is_mark m p) (cond (is_mark m q) (cond (is_mark m k) (left_of (mark m p) (mark m q) (mark m k)) false) false) false

unfoldable pub left_set : List ℤ → ℕ → ℕ → Set
left_set m p q = set_of (left_mark m p q)

-- every number from k to k + j - 1 has f
unfoldable pub all_in : ℕ → ℕ → (ℕ → Bool) → Bool
all_in k zero f = true
all_in k (suc j) f = cond (all_in (suc k) j f) (f k) false

-- what a pass of the marks k to k + j - 1 against the pair (a, b) finds: those left, those right, and whether the edge is clear of them
pub record Passed (m : List ℤ) (a b k j : ℕ) (x : Sides ℕ) : Type 0 where
  pub lefts : x.left ≡ word (left_mark m a b) k j
  pub rights : x.right ≡ word (left_mark m b a) k j
  pub free : x.clear ≡ all_in k j (clear m a b)

-- what a pass of all marks finds
pub record Found (m : List ℤ) (a b : ℕ) (x : Sides Set) : Type 0 where
  pub lefts : x.left ≡ left_set m a b
  pub rights : x.right ≡ left_set m b a
  pub free : x.clear ≡ empty_edge m a b

unfoldable pub kind_by : Sides Set → Kind
kind_by x = cond x.clear (cond (none x.left) Hull (cond (none x.right) Hull Inner)) Blocked
