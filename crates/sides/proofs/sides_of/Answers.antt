-- `sides::sides_of` meets its contract. The two halves of the marks make the two words of each set, and the edge is clear where both halves leave it so. Assumes nothing.
use mathlib.Core.Path.{◌∙◌, sym}
use Rattle.plane.proofs.Laws.Tells.{cond_yes, cond_no}
use Rattle.sides.proofs.Laws.{two_halves}
use Rattle.sides.proofs.sides_of.Goals as goal

pub returns-then-x-clause-found : goal.returns-then-x-clause-found
returns-then-x-clause-found c =
    two_halves c.count-n.ensures.plate c.count-n.ensures.counted c.min-h.ensures c.pass_over-x.ensures.passed
    c.pass_over-y.ensures.passed (sym (cond_yes _ _ c.if-x.true))

pub returns-else-x-clause-found : goal.returns-else-x-clause-found
returns-else-x-clause-found c =
    two_halves c.count-n.ensures.plate c.count-n.ensures.counted c.min-h.ensures c.pass_over-x.ensures.passed
    c.pass_over-y.ensures.passed (c.if-x.false ∙ sym (cond_no _ _ c.if-x.false))
