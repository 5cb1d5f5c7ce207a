-- `read::number` meets its contract: what it answers has as many digits as the part at most. Assumes nothing.
use Rattle.std.proofs.Common.{sym, ap, ◌∙◌, arith}
use Rattle.std.specs.Bool.{then_some}
use Rattle.reading.specs.Text.{value_of}
use Rattle.reading.proofs.Text.{digits_small, number_is}
use Rattle.reading.proofs.read.number.Goals as goal

pub returns-in_default-2-clause-small : goal.returns-in_default-2-clause-small
returns-in_default-2-clause-small c = digits_small _ _ _ c.digits.ensures.spelled c.if-most-part.false

pub returns-in_default-2-clause-number : goal.returns-in_default-2-clause-number
returns-in_default-2-clause-number c =
    c.digits.ensures.spelled ∙ ap (λ b. then_some b (value_of c.args.part.now)) (sym (number_is _ _ c.if-most-part.false (grind arith) (λ l e. grind arith)))
