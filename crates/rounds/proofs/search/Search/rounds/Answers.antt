-- `Search::rounds` meets its contract. The invariant: the rounds that are left end as the whole search does, with fuel to spare. Assumes nothing.
use mathlib.Core.Path.{◌≡◌, refl, ap, ◌∙◌}
use mathlib.Core.Bool.{false}
use Prim.Native.Nat.{ℕ, suc, ◌-◌, ◌≤◌, ◌<◌}
use native.Mathlib.Omega.{arith}
use borrow.Author.Tests.{not-true, not-false}
use Rattle.plane.specs.Marks.{count}
use Rattle.pairs.specs.Pairs.{pair_count}
use Rattle.striking.specs.Search.{going, visits, search_from}
use Rattle.certificates.specs.Plate.{plate}
use Rattle.rounds.specs.Run.{as_state, as_final, outcome_by}
use Rattle.rounds.specs.Search.{Place, marks, remains}
use Rattle.rounds.proofs.Turns.{rounds_over, rounds_done, rounds_again, round_cost}
use Rattle.std.proofs.Common.{rules}
use Rattle.rounds.proofs.search.Search.rounds.Goals as goal
use Rattle.rounds.proofs.search.Search.rounds.Goals.{After-round-run}

falls : (n e d : ℕ) → e < d → d ≤ n → n - d < n - e
falls n e d h k = omega arith

fuel_left : (n e d f : ℕ) → e < d → d ≤ n → n - e ≤ f → suc (f - 1) ≡ f
fuel_left n e d f h k l = omega arith

fuel_enough : (n e d f : ℕ) → e < d → d ≤ n → n - e ≤ f → n - d ≤ f - 1
fuel_enough n e d f h k l = omega arith

-- what the round left, over the marks of the search
left :
    (c : After-round-run) →
    let m = marks c.args.self.now in
    as_state c.round-run.result (remains c.round-run.new.self) ≡
    visits (plate m) c.args.budget (pair_count (count m)) (going false c.loop-run.exams (remains c.loop-run.self))
left c =
    c.round-run.ensures.visited ∙
    ap (λ (x : Place). visits (plate x.marks) c.args.budget (pair_count (count x.marks)) (going false c.loop-run.exams (remains c.loop-run.self)))
    c.loop-run.invariant.same

pub loop-run-init : goal.loop-run-init
unfolding search_from
loop-run-init c = record { within = search rules; same = refl; ready = c.requires; fuel = c.args.budget; enough = omega arith; ends = refl }

pub returns-in_default : goal.returns-in_default
unfolding plate
returns-in_default c =
    let i = c.loop-run.invariant in
    record {
      searched = rounds_over _ _ i.fuel _ _ _ _ (left (goal.at.returns-in_default c).After-round-run) c.in_default.not-Going ∙ i.ends;
      place = c.round-run.ensures.place ∙ i.same;
      ready = c.round-run.ensures.ready;
    }

pub returns-then-not-run-clause-searched : goal.returns-then-not-run-clause-searched
unfolding plate as_final outcome_by
returns-then-not-run-clause-searched c =
    let i = c.loop-run.invariant in
    rounds_done _ _ i.fuel _ _ _ _ (left (goal.at.returns-then-not-run-clause-searched c).After-round-run) c.in-Going.is
    (not-true _ c.if-not-run.true) ∙
    i.ends

pub loop-run-smaller : goal.loop-run-smaller
unfolding plate
loop-run-smaller c =
    let i = c.loop-run.invariant in
    let g =
    round_cost _ _ i.fuel _ _ _ _ (left (goal.at.loop-run-smaller c).After-round-run) c.in-Going.is i.within
    (not-false _ c.if-not-run.false) in
    falls _ _ _ g.0 g.1

pub loop-run-preserved : goal.loop-run-preserved
unfolding plate
loop-run-preserved c =
    let i = c.loop-run.invariant in
    let z = left (goal.at.loop-run-preserved c).After-round-run in
    let g = round_cost _ _ i.fuel _ _ _ _ z c.in-Going.is i.within (not-false _ c.if-not-run.false) in
    let e : suc (i.fuel - 1) ≡ i.fuel = fuel_left _ _ _ _ g.0 g.1 i.enough in
    record {
      within = g.1;
      same = c.round-run.ensures.place ∙ i.same;
      ready = c.round-run.ensures.ready;
      fuel = i.fuel - 1;
      enough = fuel_enough _ _ _ _ g.0 g.1 i.enough;
      ends = rw e (rounds_again _ _ i.fuel _ _ _ _ z c.in-Going.is (not-false _ c.if-not-run.false) ∙ i.ends);
    }
