-- `rounds::show` meets its contract: each turn writes the status of the next pair, and the same pairs remain. Assumes nothing.
use Rattle.std.proofs.Common.{rules, arith, length, ◌≡◌, sym, ap, ◌∙◌}
use mathlib.Core.Bool.{Bool}
use mathlib.Core.Path.{subst}
use Prim.Native.Nat.{ℕ, ◌+◌}
use lib.ListN.{set, length-append, length-set}
use Rattle.pairs.specs.Pairs.{pair_number, all_pairs}
use Rattle.striking.specs.Status.{remaining, status_byte, statuses}
use Rattle.certificates.specs.Plate.{plate}
use Rattle.rounds.proofs.Filling.{Filling, filling_none, filling_next, filling_end}
use Rattle.rounds.proofs.Readiness.{ready_place, ready_same, status_remaining}
use Rattle.rounds.proofs.Pairs.{PairTurn, pair_turn, pairs_over}
use Rattle.rounds.proofs.show.Goals as goal
use Rattle.rounds.proofs.show.Goals.{In-Some}

turn : (c : In-Some) → PairTurn c.args.lefts.now (length c.loop-p.yielded) c.in-Some.p c.next.new.self
turn c = pair_turn c.args.lefts.now _ c.loop-p.invariant.pairs c.in-Some.ensures.steps

pub status_byte-requires-clause-pair : goal.status_byte-requires-clause-pair
status_byte-requires-clause-pair c = (turn (goal.at.status_byte-requires-clause-pair c).In-Some).pair

pub pair_number-requires-clause-a_lt_b : goal.pair_number-requires-clause-a_lt_b
pair_number-requires-clause-a_lt_b c = (turn (goal.at.pair_number-requires-clause-a_lt_b c).In-Some).pair.up

pub pair_number-requires-clause-b_bound : goal.pair_number-requires-clause-b_bound
pair_number-requires-clause-b_bound c =
    let h = (turn (goal.at.pair_number-requires-clause-b_bound c).In-Some).pair.marks in
    let few = c.requires.accepted.few in
    omega arith

pub bounds-st-pair_number : goal.bounds-st-pair_number
bounds-st-pair_number c =
    let h = ready_place c.loop-p.invariant.ready (turn (goal.at.bounds-st-pair_number c).In-Some).pair in
    omega (arith, h, c.pair_number.ensures.numbered)

pub loop-p-preserved : goal.loop-p-preserved
loop-p-preserved c =
    let l = c.loop-p in
    let t = turn (goal.at.loop-p-preserved c).In-Some in
    let y = plate c.args.lefts.now in
    let r = remaining c.args.st.now in
    let k = length l.yielded in
    let i = pair_number c.in-Some.p.a c.in-Some.p.b in
    let v : c.status_byte.result ≡ status_byte y r k =
    c.status_byte.ensures.status ∙ ap (λ (s : ℕ → Bool). status_byte y s i) (status_remaining _ l.invariant.bytes) ∙
    ap (status_byte y r) (sym t.here.number) in
    let f : Filling (status_byte y r) (k + 1) c.args.st.now (set l.st c.pair_number.result c.status_byte.result) =
    subst (λ (j : ℕ). Filling (status_byte y r) (k + 1) c.args.st.now (set l.st j c.status_byte.result))
    (t.here.number ∙ sym c.pair_number.ensures.numbered)
    (filling_next l.invariant.bytes _ (omega (arith, t.below, c.requires.long)) v) in
    rw length-append (record {
      pairs = t.left;
      ready = ready_same (length-set _ _ _) (status_remaining _ f ∙ sym (status_remaining _ l.invariant.bytes)) l.invariant.ready;
      bytes = f;
    })

pub returns : goal.returns
unfolding statuses plate
returns c = record {
  shown =
      filling_end c.loop-p.invariant.bytes _ c.requires.long
      (pairs_over c.args.lefts.now _ c.loop-p.invariant.pairs c.in-None.ensures.steps.0);
}
