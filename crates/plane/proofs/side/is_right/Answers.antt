-- `side::is_right` meets its contract. Assumes nothing.
use mathlib.Core.Path.{ap}
use lib.IntN.{ℤ, pos}
use lib.Signed.{lt_z}
use Rattle.plane.specs.Side.{is_right}
use Rattle.plane.proofs.Laws.Bounds.{back}
use Rattle.plane.proofs.side.is_right.Goals as goal

pub returns : goal.returns
unfolding is_right
returns c = record { right = ap (λ (z : ℤ). lt_z z (pos 0)) (back c.ranges.s) }
