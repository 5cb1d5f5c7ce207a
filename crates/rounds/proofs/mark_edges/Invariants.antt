-- The invariant of the loop of `rounds::mark_edges`: the bytes and the table are written for the pairs that came.
use Rattle.std.proofs.Common.{length, ◌≡◌, ◌≤◌, drop}
use mathlib.Core.Bool.{cond}
use Rattle.plane.specs.Marks.{count}
use Rattle.pairs.specs.Pairs.{pair_count, all_pairs}
use Rattle.masks.specs.Table.{Filled}
use Rattle.certificates.specs.Plate.{plate}
use Rattle.rounds.proofs.Filling.{Filling}
use Rattle.rounds.proofs.mark_edges.Given as goal

abbrev pub invariant-loop-p : goal.invariant-loop-p
invariant-loop-p l = record {
  pairs : l.p-iterator ≡ drop (length l.yielded) (all_pairs (count l.m));
  most : length l.yielded ≤ pair_count (count l.m);
  bytes : Filling (λ j. cond ((plate l.m).edge j) 1 0) (length l.yielded) l.initial.st l.st;
  table : Filled l.m l.t (length l.yielded);
}
