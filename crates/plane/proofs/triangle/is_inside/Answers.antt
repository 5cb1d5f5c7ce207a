-- `triangle::is_inside` meets its contract: strictly inside is on one side of all three. Assumes nothing.
use mathlib.Core.Path.{◌∙◌, sym}
use Rattle.plane.proofs.Laws.Asked.{read, asked_same}
use Rattle.plane.proofs.Laws.Triangle.{inside_same}
use Rattle.plane.proofs.Laws.Tells.{cond_yes, cond_no}
use Rattle.plane.proofs.triangle.is_inside.Goals as goal

pub returns-then-is_same_side : goal.returns-then-is_same_side
returns-then-is_same_side c =
    let first = asked_same _ _ _ _ _ _ (read (record { sfits = c.side-s.type_inv }) c.side-s.ensures.sided) (read (record { sfits = c.side.type_inv }) c.side.ensures.sided) c.is_same_side.ensures.same in
    record {
      inside =
          asked_same _ _ _ _ _ _ (read (record { sfits = c.side-s.type_inv }) c.side-s.ensures.sided) (read (record { sfits = c.side-then-is_same_side.type_inv }) c.side-then-is_same_side.ensures.sided) c.is_same_side-then-is_same_side.ensures.same ∙
          sym (inside_same _ _ _ _ ∙ cond_yes _ _ (sym first ∙ c.if-is_same_side.true));
    }

pub returns-else-is_same_side : goal.returns-else-is_same_side
returns-else-is_same_side c =
    let first = asked_same _ _ _ _ _ _ (read (record { sfits = c.side-s.type_inv }) c.side-s.ensures.sided) (read (record { sfits = c.side.type_inv }) c.side.ensures.sided) c.is_same_side.ensures.same in
    record { inside = c.if-is_same_side.false ∙ sym (inside_same _ _ _ _ ∙ cond_no _ _ (sym first ∙ c.if-is_same_side.false)) }
