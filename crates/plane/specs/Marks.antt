-- "Marks arrive as a lent list of signed 32-bit numbers x0, y0, x1, y1, and so on. n is half its length, 0 to 128. Each number lies from
-- -10,000 to 10,000. No two marks are equal."
--   count m         n
--   mark m i        the point of mark i; (0, 0) past the end
--   IsMark m i      i is the number of a mark
--   every_mark m f  f holds of every mark
--   Plate m         m is a list as 01 has it; what every rule may take for granted
use Rattle.std.specs.Prelude.{◌≡◌, Bool, false, cond, List, ℕ, ◌+◌, ◌*◌, ◌/◌, ◌≤◌, ◌<◌, eqb, length, get_or, ℤ, pos, negsuc, nat_abs}
use Rattle.plane.specs.declared.marks.Point.{Point}
use Rattle.plane.specs.Numbers.{all_to}

abbrev pub count : List ℤ → ℕ
count m = length m / 2

unfoldable pub mark : List ℤ → ℕ → Point
mark m i = record { x = get_or m (2 * i) (pos 0); y = get_or m (2 * i + 1) (pos 0) }

abbrev pub IsMark : List ℤ → ℕ → Type 0
IsMark m i = i < count m

abbrev pub every_mark : List ℤ → (ℕ → Bool) → Bool
every_mark m f = all_to (count m) f

-- two numbers are one; two points are one
unfoldable pub same_number : ℤ → ℤ → Bool
same_number (pos a) (pos b) = eqb a b
same_number (pos a) (negsuc b) = false
same_number (negsuc a) (pos b) = false
same_number (negsuc a) (negsuc b) = eqb a b

unfoldable pub same_point : Point → Point → Bool
same_point p q = cond (same_number p.x q.x) (same_number p.y q.y) false

-- z is at most B from 0
pub record Near (B : ℕ) (z : ℤ) : Type 0 where
  pub near : nat_abs z ≤ B

-- both coordinates lie from -10,000 to 10,000
pub record InRange (p : Point) : Type 0 where
  pub near_x : Near 10000 p.x
  pub near_y : Near 10000 p.y

-- a number past the end is 0, and so in range
pub record Plate (m : List ℤ) : Type 0 where
  pub even : length m ≡ count m * 2
  pub few : count m ≤ 128
  pub near : (k : ℕ) → Near 10000 (get_or m k (pos 0))
  pub apart : (i j : ℕ) → i < j → IsMark m j → mark m i ≡ mark m j → ⊥
