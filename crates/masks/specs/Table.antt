-- The table of left sets: 16,384 sets, one for each ordered pair of numbers below 128, and the tests on it.
--   place p q             where the table has the set of (p, q)
--   entry t p q           what the table t has for (p, q)
--   Table m t             t has every left set of the plate m, and so is determined
--   Filled m t i          t has the left sets of the pairs whose number is below i, in both orders, and is empty elsewhere
--   put_entry t p q s     t with s for (p, q)
--   in_three m p q r k    mark k is strictly left of p to q, of q to r and of r to p
--   none_left m p q r     no mark is
--   split_mark m p q r i  p and q lie strictly on opposite sides of the line from r to i; all four are marks
use Rattle.std.specs.Prelude.{◌≡◌, Bool, false, cond, List, ℕ, ◌+◌, ◌*◌, ◌<◌, ltb, ℤ, length, get_or, set}
use Rattle.plane.specs.Numbers.{all_to}
use Rattle.plane.specs.Marks.{mark}
use Rattle.plane.specs.Side.{area2, opposite}
use Rattle.pairs.specs.Pairs.{pair_of}
use Rattle.sets.specs.declared.Set.{Set}
use Rattle.sets.specs.Sets.{lacks, both}
use Rattle.sides.specs.Sides.{is_mark, left_mark, left_set}

abbrev pub place : ℕ → ℕ → ℕ
place p q = p * 128 + q

abbrev pub empty_set : Set
empty_set = record { low = 0; high = 0 }

unfoldable pub entry : List Set → ℕ → ℕ → Set
entry t p q = get_or t (place p q) empty_set

pub record Table (m : List ℤ) (t : List Set) : Type 0 where
  pub size : length t ≡ 16384
  pub each : (p q : ℕ) → p < 128 → q < 128 → entry t p q ≡ left_set m p q

-- ---- the table while it is filled, pair by pair
pub record Filled (m : List ℤ) (t : List Set) (i : ℕ) : Type 0 where
  pub size : length t ≡ 16384
  pub each : (p q : ℕ) → p < 128 → q < 128 → entry t p q ≡ cond (ltb (pair_of p q) i) (left_set m p q) empty_set

abbrev pub put_entry : List Set → ℕ → ℕ → Set → List Set
put_entry t p q s = set t (place p q) s

-- ---- tests on three entries, and on four
abbrev pub in_three : List ℤ → ℕ → ℕ → ℕ → ℕ → Bool
in_three m p q r = both (both (left_mark m p q) (left_mark m q r)) (left_mark m r p)

unfoldable pub none_left : List ℤ → ℕ → ℕ → ℕ → Bool
none_left m p q r = all_to 128 (lacks (in_three m p q r))

unfoldable pub split_mark : List ℤ → ℕ → ℕ → ℕ → ℕ → Bool
split_mark m p q r i =
    cond (is_mark m p) (cond (is_mark m q) (cond (is_mark m r) (cond (is_mark m i)
    (opposite (area2 (mark m r) (mark m i) (mark m p)) (area2 (mark m r) (mark m i) (mark m q)))
    false) false) false) false
