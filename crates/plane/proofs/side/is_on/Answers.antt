-- `side::is_on` meets its contract: bits 0 are the number 0. Assumes nothing.
use Rattle.plane.proofs.Laws.Bits.{bits_on}
use Rattle.plane.proofs.side.is_on.Goals as goal

pub returns : goal.returns
returns c = record { on = bits_on c.args.s c.ranges.s }
