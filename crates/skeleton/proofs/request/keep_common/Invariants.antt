-- The invariant of the loop of `request::keep_common`: the bytes below i are the common ones.
use lib.ListN.{get_or}
use Rattle.skeleton.specs.Common.{common_byte}
use Rattle.rounds.proofs.Filling.{Filling}
use Rattle.skeleton.proofs.request.keep_common.Given as goal

abbrev pub invariant-loop-i : goal.invariant-loop-i
invariant-loop-i l = Filling (λ j. common_byte (get_or l.initial.own j 0) (get_or l.st j 0)) l.i l.initial.own l.own
