-- The sets that the search works on, for the contracts of this crate and of crate rounds. No contract of an entry point mentions them. A set
-- of edges K is a test of two marks, the smaller number first.
--   near_mark m K p i            p and i are marks, and their edge belongs to K
--   near_set m K p               the marks that p has an edge of K to
--   row_at d p, put_row d p s    the row of p among the rows d; the rows with s for that one
--   Rows m K d                   the rows are those of each mark
--   below i S                    the pairs of S whose numbers are below i
--   Clean m st                   a byte that is not 0 stands for an empty edge
--   candidate m K p q a b i      i has an edge of K to p and to q, and lies left of a to b
--   right_candidate m K p q r i  i is such a mark on the right of p to q, and no mark lies inside pqr
--   goes_with m p q r s          no mark lies inside pqs, and pq holds against rs
--   cross_mark m K p q r s       the edge of r and s belongs to K and crosses pq, where r lies left of p to q
--   crossed_from m K p q r       some such edge
--   Apart p q r                  r is neither p nor q, and all three are small
use Rattle.std.specs.Prelude.{◌≡◌, Bool, true, false, not, cond, List, ℕ, ◌≤◌, ◌<◌, eqb, ltb, ℤ, length, get_or, set}
use Rattle.std.specs.Int.Signed.{le_z}
use Rattle.plane.specs.Numbers.{all_to}
use Rattle.plane.specs.Marks.{mark, IsMark}
use Rattle.pairs.specs.Pairs.{pair_number}
use Rattle.plane.specs.Weight.{weight}
use Rattle.plane.specs.Edge.{empty_edge}
use Rattle.sets.specs.declared.Set.{Set}
use Rattle.sets.specs.Sets.{set_of, lacks, both}
use Rattle.sides.specs.Sides.{is_mark, left_mark}
use Rattle.masks.specs.Table.{empty_set, none_left, split_mark}
use Rattle.striking.specs.Status.{remaining}
use Rattle.certificates.specs.Certificate.{joined}

unfoldable pub near_mark : List ℤ → (ℕ → ℕ → Bool) → ℕ → ℕ → Bool
near_mark m K p i = cond (is_mark m p) (cond (is_mark m i) (cond (eqb p i) false (joined K p i)) false) false

unfoldable pub near_set : List ℤ → (ℕ → ℕ → Bool) → ℕ → Set
near_set m K p = set_of (near_mark m K p)

abbrev pub row_at : List Set → ℕ → Set
row_at d p = get_or d p empty_set

abbrev pub put_row : List Set → ℕ → Set → List Set
put_row d p s = set d p s

pub record Rows (m : List ℤ) (K : ℕ → ℕ → Bool) (d : List Set) : Type 0 where
  pub size : length d ≡ 128
  pub each : (p : ℕ) → p < 128 → row_at d p ≡ near_set m K p

unfoldable pub below : ℕ → (ℕ → Bool) → ℕ → Bool
below i S j = cond (ltb j i) (S j) false

pub record Clean (m : List ℤ) (st : List ℕ) : Type 0 where
  pub edges : (a b : ℕ) → a < b → IsMark m b → remaining st (pair_number a b) ≡ true → empty_edge m a b ≡ true

unfoldable pub candidate : List ℤ → (ℕ → ℕ → Bool) → ℕ → ℕ → ℕ → ℕ → ℕ → Bool
candidate m K p q a b = both (both (near_mark m K p) (near_mark m K q)) (left_mark m a b)

unfoldable pub right_candidate : List ℤ → (ℕ → ℕ → Bool) → ℕ → ℕ → ℕ → ℕ → Bool
right_candidate m K p q r i = cond (none_left m p q r) (candidate m K p q q p i) false

unfoldable pub goes_with : List ℤ → ℕ → ℕ → ℕ → ℕ → Bool
goes_with m p q r s =
    cond (cond (split_mark m p q r s) (le_z (weight (mark m p) (mark m q)) (weight (mark m r) (mark m s))) true) (none_left m q p s) false

unfoldable pub cross_mark : List ℤ → (ℕ → ℕ → Bool) → ℕ → ℕ → ℕ → ℕ → Bool
cross_mark m K p q r = both (both (near_mark m K r) (left_mark m q p)) (split_mark m p q r)

unfoldable pub crossed_from : List ℤ → (ℕ → ℕ → Bool) → ℕ → ℕ → ℕ → Bool
crossed_from m K p q r = not (all_to 128 (lacks (cross_mark m K p q r)))

pub record Apart (p q r : ℕ) : Type 0 where
  pub off_p : p ≡ r → ⊥
  pub off_q : q ≡ r → ⊥
  pub p_small : p ≤ 128
  pub q_small : q ≤ 128
  pub r_small : r ≤ 128
