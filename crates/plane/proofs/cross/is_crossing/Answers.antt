-- `cross::is_crossing` meets its contract: what the side test answers is opposite where the areas are. Assumes nothing.
use mathlib.Core.Path.{◌∙◌, sym}
use Rattle.plane.specs.Cross.{crosses}
use Rattle.plane.proofs.Laws.Asked.{read, asked_opposite}
use Rattle.plane.proofs.Laws.Tells.{cond_yes, cond_no}
use Rattle.plane.proofs.cross.is_crossing.Goals as goal

pub returns-then-is_opposite : goal.returns-then-is_opposite
unfolding crosses
returns-then-is_opposite c =
    let first = asked_opposite _ _ _ _ _ _ (read (record { sfits = c.side.type_inv }) c.side.ensures.sided) (read (record { sfits = c.side-2.type_inv }) c.side-2.ensures.sided) c.is_opposite.ensures.opposite in
    record {
      crossing =
          asked_opposite _ _ _ _ _ _ (read (record { sfits = c.side-then-is_opposite.type_inv }) c.side-then-is_opposite.ensures.sided) (read (record { sfits = c.side-then-is_opposite-2.type_inv }) c.side-then-is_opposite-2.ensures.sided)
          c.is_opposite-then-is_opposite.ensures.opposite ∙ sym (cond_yes _ _ (sym first ∙ c.if-is_opposite.true));
    }

pub returns-else-is_opposite : goal.returns-else-is_opposite
unfolding crosses
returns-else-is_opposite c =
    let first = asked_opposite _ _ _ _ _ _ (read (record { sfits = c.side.type_inv }) c.side.ensures.sided) (read (record { sfits = c.side-2.type_inv }) c.side-2.ensures.sided) c.is_opposite.ensures.opposite in
    record { crossing = c.if-is_opposite.false ∙ sym (cond_no _ _ (sym first ∙ c.if-is_opposite.false)) }
