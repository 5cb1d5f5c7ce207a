-- The invariant of the loop of `rounds::show`: the pairs that came have their statuses, and the same pairs remain.
use Rattle.std.proofs.Common.{length, ◌≡◌, drop}
use Rattle.plane.specs.Marks.{count}
use Rattle.pairs.specs.Pairs.{all_pairs}
use Rattle.striking.specs.Status.{remaining, status_byte}
use Rattle.certificates.specs.Plate.{plate}
use Rattle.rounds.specs.Run.{Ready}
use Rattle.rounds.proofs.Filling.{Filling}
use Rattle.rounds.proofs.show.Given as goal

abbrev pub invariant-loop-p : goal.invariant-loop-p
invariant-loop-p l = record {
  pairs : l.p-iterator ≡ drop (length l.yielded) (all_pairs (count l.lefts));
  ready : Ready l.lefts l.st l.rows;
  bytes : Filling (status_byte (plate l.lefts) (remaining l.initial.st)) (length l.yielded) l.initial.st l.st;
}
