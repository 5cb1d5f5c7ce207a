-- `edge::is_on_segment` meets its contract. Assumes nothing.
use mathlib.Core.Path.{◌∙◌, sym}
use Rattle.plane.specs.Edge.{on_segment}
use Rattle.plane.proofs.Laws.Asked.{read, asked_on}
use Rattle.plane.proofs.Laws.Tells.{cond_yes, cond_no}
use Rattle.plane.proofs.edge.is_on_segment.Goals as goal

pub returns-then-is_on : goal.returns-then-is_on
unfolding on_segment
returns-then-is_on c = record {
  on =
      c.is_between.ensures.between ∙
      sym (cond_yes _ _ (sym (asked_on _ _ _ (read (record { sfits = c.side.type_inv }) c.side.ensures.sided) c.is_on.ensures.on) ∙ c.if-is_on.true));
}

pub returns-else-is_on : goal.returns-else-is_on
unfolding on_segment
returns-else-is_on c = record {
  on =
      c.if-is_on.false ∙
      sym (cond_no _ _ (sym (asked_on _ _ _ (read (record { sfits = c.side.type_inv }) c.side.ensures.sided) c.is_on.ensures.on) ∙ c.if-is_on.false));
}
