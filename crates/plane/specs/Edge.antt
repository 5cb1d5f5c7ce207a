-- Rule 3. "A pair is an empty edge if no third mark lies on the segment."
--   dot k a b         (a - k) · (b - k), which is not above 0 for the points k of the line that lie from a to b
--   between a b k     of a point k of the line through a and b: it lies from a to b, both included
--   on_segment a b k  k lies on the segment from a to b, both included
--   clear m a b k     mark k is an end of (a, b), or off the segment
--   empty_edge m a b  rule 3
use Rattle.std.specs.Prelude.{Bool, true, false, not, cond, List, ℕ, eqb, ℤ, pos, ◌+ℤ◌, ◌-ℤ◌, ◌*ℤ◌}
use Rattle.std.specs.Int.Signed.{le_z}
use Rattle.plane.specs.declared.marks.Point.{Point}
use Rattle.plane.specs.Marks.{mark, every_mark}
use Rattle.plane.specs.Side.{on_line}

unfoldable pub dot : Point → Point → Point → ℤ
dot k a b = (a.x -ℤ k.x) *ℤ (b.x -ℤ k.x) +ℤ (a.y -ℤ k.y) *ℤ (b.y -ℤ k.y)

unfoldable pub between : Point → Point → Point → Bool
between a b k = le_z (dot k a b) (pos 0)

unfoldable pub on_segment : Point → Point → Point → Bool
on_segment a b k = cond (on_line a b k) (between a b k) false

unfoldable pub clear : List ℤ → ℕ → ℕ → ℕ → Bool
clear m a b k = cond (eqb k a) true (cond (eqb k b) true (not (on_segment (mark m a) (mark m b) (mark m k))))

unfoldable pub empty_edge : List ℤ → ℕ → ℕ → Bool
empty_edge m a b = every_mark m (clear m a b)
