-- The invariant of the loop of `Search::rounds`: the rounds that are left end as the whole search does, with fuel to spare.
use mathlib.Core.Path.{◌≡◌}
use Prim.Native.Nat.{ℕ, suc, ◌-◌, ◌≤◌}
use Rattle.striking.specs.Search.{rounds, search_from}
use Rattle.certificates.specs.Plate.{plate}
use Rattle.rounds.specs.Search.{place, marks, remains, IsReady}
use Rattle.rounds.proofs.search.Search.rounds.Given as goal

abbrev pub invariant-loop-run : goal.invariant-loop-run
invariant-loop-run l = record {
  within : l.exams ≤ l.budget;
  same : place l.self ≡ place l.initial.self;
  ready : IsReady l.self;
  fuel : ℕ;
  enough : l.budget - l.exams ≤ fuel;
  ends :
      rounds (plate (marks l.initial.self)) l.budget (suc fuel) l.exams (remains l.self) ≡
      search_from (plate (marks l.initial.self)) l.budget 0 (remains l.initial.self);
}

abbrev pub decreases-loop-run : goal.decreases-loop-run
decreases-loop-run l = l.budget - l.exams
