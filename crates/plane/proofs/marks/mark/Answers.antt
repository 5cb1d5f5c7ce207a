-- `marks::mark` meets its contract: it reads two numbers of the list. Assumes nothing.
use Rattle.plane.specs.Marks.{mark}
use Rattle.std.proofs.Common.{rules}
use Rattle.plane.proofs.marks.mark.Goals as goal

pub returns : goal.returns
unfolding mark
returns c = record { placed = search rules }
