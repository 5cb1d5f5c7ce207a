-- `edge::is_between` meets its contract. Assumes nothing.
use mathlib.Core.Path.{◌∙◌, ap}
use lib.IntN.{ℤ, pos}
use lib.Signed.{le_z}
use Rattle.plane.specs.Edge.{between}
use Rattle.plane.proofs.Laws.Bounds.{back}
use Rattle.plane.proofs.edge.is_between.Goals as goal

pub returns : goal.returns
unfolding between
returns c = record { between = ap (λ (z : ℤ). le_z z (pos 0)) (back (record { sfits = c.dot.type_inv }) ∙ c.dot.ensures.product) }
