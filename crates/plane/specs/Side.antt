-- Rule 1. "Side: for p, q, r the sign of (qx-px)(ry-py) - (qy-py)(rx-px). Plus is left of p to q, minus is right, zero is on the line.
-- The side test answers -1, 0 or 1."
--   area2 p q r                       the number in that sentence: the doubled area of the triangle p q r, plus where it turns left
--   side p q r                        what the side test answers
--   is_left s, is_right s, is_on s    how an answer s is read: by its sign
--   left_of, right_of, on_line p q r  where r lies to the line from p to q
--   same_side s t, opposite s t       of two answers: both strictly on one side; strictly on opposite sides
use Rattle.std.specs.Prelude.{Bool, true, false, cond, zero, suc, ℤ, pos, negsuc, ◌-ℤ◌, ◌*ℤ◌}
use Rattle.std.specs.Int.Signed.{lt_z}
use Rattle.plane.specs.declared.marks.Point.{Point}

unfoldable pub area2 : Point → Point → Point → ℤ
area2 p q r = (q.x -ℤ p.x) *ℤ (r.y -ℤ p.y) -ℤ (q.y -ℤ p.y) *ℤ (r.x -ℤ p.x)

unfoldable pub sign : ℤ → ℤ
sign (pos zero) = pos 0
sign (pos (suc n)) = pos 1
sign (negsuc n) = negsuc 0

unfoldable pub side : Point → Point → Point → ℤ
side p q r = sign (area2 p q r)

unfoldable pub is_left : ℤ → Bool
is_left s = lt_z (pos 0) s

unfoldable pub is_right : ℤ → Bool
is_right s = lt_z s (pos 0)

unfoldable pub is_on : ℤ → Bool
is_on (pos zero) = true
is_on (pos (suc n)) = false
is_on (negsuc n) = false

abbrev pub left_of : Point → Point → Point → Bool
left_of p q r = is_left (area2 p q r)

abbrev pub right_of : Point → Point → Point → Bool
right_of p q r = is_right (area2 p q r)

abbrev pub on_line : Point → Point → Point → Bool
on_line p q r = is_on (area2 p q r)

unfoldable pub same_side : ℤ → ℤ → Bool
same_side s t = cond (is_left s) (is_left t) (cond (is_right s) (is_right t) false)

unfoldable pub opposite : ℤ → ℤ → Bool
opposite s t = cond (is_left s) (is_right t) (cond (is_right s) (is_left t) false)
