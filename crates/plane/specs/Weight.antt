-- Rule 2. "Weight of a pair: dx² + dy², at most 800,000,000. No root is taken."
use Rattle.std.specs.Prelude.{ℤ, ◌+ℤ◌, ◌-ℤ◌, ◌*ℤ◌}
use Rattle.plane.specs.declared.marks.Point.{Point}

unfoldable pub weight : Point → Point → ℤ
weight a b = (b.x -ℤ a.x) *ℤ (b.x -ℤ a.x) +ℤ (b.y -ℤ a.y) *ℤ (b.y -ℤ a.y)
