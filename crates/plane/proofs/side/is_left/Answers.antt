-- `side::is_left` meets its contract. Assumes nothing.
use mathlib.Core.Path.{ap}
use lib.IntN.{ℤ, pos}
use lib.Signed.{lt_z}
use Rattle.plane.specs.Side.{is_left}
use Rattle.plane.proofs.Laws.Bounds.{back}
use Rattle.plane.proofs.side.is_left.Goals as goal

pub returns : goal.returns
unfolding is_left
returns c = record { left = ap (λ (z : ℤ). lt_z (pos 0) z) (back c.ranges.s) }
