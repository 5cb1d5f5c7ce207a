-- `Search::round` meets its contract: each turn is the next pair's. Assumes nothing.
use Rattle.std.proofs.Common.{rules, arith, length, ◌≡◌, sym, ap, ◌∙◌, refl}
use mathlib.Core.Bool.{false}
use mathlib.Core.Path.{subst}
use Prim.Native.Nat.{ℕ}
use lib.ListN.{length-append}
use Rattle.plane.specs.Marks.{count}
use Rattle.pairs.specs.Pairs.{pair_count, pair_number, all_pairs}
use Rattle.striking.specs.Search.{going, visit, visits}
use Rattle.certificates.specs.Plate.{plate}
use Rattle.certificates.specs.Rule9.{IsPair}
use Rattle.rounds.specs.Run.{as_state, state_by}
use Rattle.rounds.specs.Search.{Place, marks, remains}
use Rattle.rounds.proofs.Turns.{visits_none, visits_more}
use Rattle.rounds.proofs.Pairs.{PairTurn, pair_turn, pairs_over}
use Rattle.rounds.proofs.search.Search.round.Goals as goal
use Rattle.rounds.proofs.search.Search.round.Goals.{In-Some}

turn : (c : In-Some) → PairTurn (marks c.args.self.now) (length c.loop-p.yielded) c.in-Some.p c.next.new.self
turn c = pair_turn (marks c.args.self.now) _ c.loop-p.invariant.pairs c.in-Some.ensures.steps

pub loop-p-init : goal.loop-p-init
unfolding as_state state_by
loop-p-init c = record {
  pairs = c.into_iter-p-iterator.ensures.into_iter_gives ∙ c.of-p-items.ensures.all ∙ ap all_pairs c.count.ensures.counted;
  most = search rules;
  same = refl;
  ready = c.requires;
  visited = sym (visits_none _ _ _);
}

pub visit-run-requires-clause-pair : goal.visit-run-requires-clause-pair
visit-run-requires-clause-pair c =
    subst (λ (x : Place). IsPair x.marks c.in-Some.p.a c.in-Some.p.b) (sym c.loop-p.invariant.same)
    (turn (goal.at.visit-run-requires-clause-pair c).In-Some).pair

pub loop-p-preserved : goal.loop-p-preserved
loop-p-preserved c =
    let l = c.loop-p in
    let t = turn (goal.at.loop-p-preserved c).In-Some in
    let k = length l.yielded in
    rw length-append (record {
      pairs = t.left;
      most = omega (arith, t.below);
      same = c.visit-run.ensures.place ∙ l.invariant.same;
      ready = c.visit-run.ensures.ready;
      visited =
          c.visit-run.ensures.visited ∙
          ap (λ (x : Place). visit (plate x.marks) c.args.budget (pair_number c.in-Some.p.a c.in-Some.p.b) (as_state l.run (remains l.self)))
          l.invariant.same ∙
          ap (λ (i : ℕ). visit (plate (marks c.args.self.now)) c.args.budget i (as_state l.run (remains l.self))) (sym t.here.number) ∙
          ap (visit (plate (marks c.args.self.now)) c.args.budget k) l.invariant.visited ∙ sym (visits_more _ _ k _);
    })

pub returns-clause-visited : goal.returns-clause-visited
returns-clause-visited c =
    let m = marks c.args.self.now in
    let l = c.loop-p in
    let k = length l.yielded in
    let over = pairs_over m k l.invariant.pairs c.in-None.ensures.steps.0 in
    let most = l.invariant.most in
    let e : k ≡ pair_count (count m) = omega arith in
    l.invariant.visited ∙ ap (λ (i : ℕ). visits (plate m) c.args.budget i (going false c.args.exams (remains c.args.self.now))) e
