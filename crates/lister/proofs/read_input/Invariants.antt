-- The invariant of the loop of `read_input`: it never counts past the buffer. Each turn leaves less room.
use Rattle.std.proofs.Common.{◌-◌, ◌≤◌, length}
use Rattle.lister.proofs.read_input.Given as goal

abbrev pub invariant-loop-n : goal.invariant-loop-n
invariant-loop-n g l = l.n ≤ length l.text

abbrev pub decreases-loop-n : goal.decreases-loop-n
decreases-loop-n g l = length l.text - l.n
