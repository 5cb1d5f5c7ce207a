-- The invariant of the loop of `Search::round`: the pairs that came have had their turns.
use Rattle.std.proofs.Common.{length, ◌≡◌, ◌≤◌, drop}
use mathlib.Core.Bool.{false}
use Rattle.plane.specs.Marks.{count}
use Rattle.pairs.specs.Pairs.{pair_count, all_pairs}
use Rattle.striking.specs.Search.{going, visits}
use Rattle.certificates.specs.Plate.{plate}
use Rattle.rounds.specs.Run.{as_state}
use Rattle.rounds.specs.Search.{place, marks, remains, IsReady}
use Rattle.rounds.proofs.search.Search.round.Given as goal

abbrev pub invariant-loop-p : goal.invariant-loop-p
invariant-loop-p l = record {
  pairs : l.p-iterator ≡ drop (length l.yielded) (all_pairs (count (marks l.initial.self)));
  most : length l.yielded ≤ pair_count (count (marks l.initial.self));
  same : place l.self ≡ place l.initial.self;
  ready : IsReady l.self;
  visited :
      as_state l.run (remains l.self) ≡
      visits (plate (marks l.initial.self)) l.budget (length l.yielded) (going false l.exams (remains l.initial.self));
}
