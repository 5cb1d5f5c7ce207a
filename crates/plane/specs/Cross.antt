-- Rule 4. "Two empty edges cross if each has its ends strictly on opposite sides of the other's line. Sharing an end is no crossing."
--   crosses a b c d  rule 4 for the edges ab and cd
use Rattle.std.specs.Prelude.{Bool, false, cond}
use Rattle.plane.specs.declared.marks.Point.{Point}
use Rattle.plane.specs.Side.{area2, opposite}

unfoldable pub crosses : Point → Point → Point → Point → Bool
crosses a b c d = cond (opposite (area2 a b c) (area2 a b d)) (opposite (area2 c d a) (area2 c d b)) false
