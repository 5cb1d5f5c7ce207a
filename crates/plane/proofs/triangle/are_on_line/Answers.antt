-- `triangle::are_on_line` meets its contract. Assumes nothing.
use mathlib.Core.Path.{◌∙◌}
use Rattle.plane.proofs.Laws.Asked.{read, side_at, asked_on}
use Rattle.plane.proofs.triangle.are_on_line.Goals as goal

pub returns : goal.returns
returns c = record {
  on =
      asked_on _ _ _ (read (record { sfits = c.side.type_inv }) (c.side.ensures.sided ∙
      side_at c.point.ensures c.point-2.ensures c.point-3.ensures)) c.is_on.ensures.on;
}
