-- `rounds::mark_edges` meets its contract: each turn writes the byte and the two sets of the next pair. Assumes nothing.
use Rattle.std.proofs.Common.{rules, length, ◌≡◌, sym, ap, ◌∙◌, arith}
use mathlib.Core.Bool.{cond}
use mathlib.Core.Path.{subst}
use Prim.Native.Nat.{ℕ, ◌+◌}
use lib.ListN.{set, length-append}
use Rattle.plane.specs.Marks.{count}
use Rattle.masks.specs.Table.{Filled}
use Rattle.masks.proofs.Laws.Table.{fill_end}
use Rattle.pairs.specs.Pairs.{pair_count, all_pairs}
use Rattle.striking.specs.Status.{all_edges}
use Rattle.certificates.specs.Plate.{plate}
use Rattle.rounds.specs.Run.{edge_byte}
use Rattle.rounds.proofs.Filling.{Filling, filling_none, filling_next, filling_end}
use Rattle.rounds.proofs.Readiness.{edge_byte_lem, filled_next}
use Rattle.rounds.proofs.Pairs.{PairTurn, pair_turn, pairs_over}
use Rattle.rounds.proofs.mark_edges.Goals as goal
use Rattle.rounds.proofs.mark_edges.Goals.{In-Some}

turn : (c : In-Some) → PairTurn c.args.m.now (length c.loop-p.yielded) c.in-Some.p c.next.new.self
turn c = pair_turn c.args.m.now _ c.loop-p.invariant.pairs c.in-Some.ensures.steps

pub loop-p-init : goal.loop-p-init
loop-p-init c = record {
  pairs = c.into_iter-p-iterator.ensures.into_iter_gives ∙ c.of-p-items.ensures.all ∙ ap all_pairs c.count.ensures.counted;
  most = search rules;
  bytes = filling_none _ _;
  table = c.requires.filled_before;
}

pub store_pair-requires-clause-a_lt_b : goal.store_pair-requires-clause-a_lt_b
store_pair-requires-clause-a_lt_b c = (turn (goal.at.store_pair-requires-clause-a_lt_b c).In-Some).here.up

pub store_pair-requires-clause-b_is_mark : goal.store_pair-requires-clause-b_is_mark
store_pair-requires-clause-b_is_mark c = (turn (goal.at.store_pair-requires-clause-b_is_mark c).In-Some).here.mark

pub store_pair-requires-clause-filled_before : goal.store_pair-requires-clause-filled_before
store_pair-requires-clause-filled_before c =
    subst (λ (x : ℕ). Filled c.args.m.now c.loop-p.t x) (turn (goal.at.store_pair-requires-clause-filled_before c).In-Some).here.number
    c.loop-p.invariant.table

pub pair_number-requires-clause-a_lt_b : goal.pair_number-requires-clause-a_lt_b
pair_number-requires-clause-a_lt_b c = (turn (goal.at.pair_number-requires-clause-a_lt_b c).In-Some).here.up

pub pair_number-requires-clause-b_bound : goal.pair_number-requires-clause-b_bound
pair_number-requires-clause-b_bound c =
    let h = (turn (goal.at.pair_number-requires-clause-b_bound c).In-Some).here.mark in
    omega arith

pub bounds-st-pair_number : goal.bounds-st-pair_number
bounds-st-pair_number c =
    let t = turn (goal.at.bounds-st-pair_number c).In-Some in
    omega (arith, c.pair_number.ensures.numbered, t.here.number, t.below, c.loop-p.invariant.bytes.size, c.requires.st_len)

pub loop-p-preserved : goal.loop-p-preserved
loop-p-preserved c =
    let m = c.args.m.now in
    let l = c.loop-p in
    let t = turn (goal.at.loop-p-preserved c).In-Some in
    let k = length l.yielded in
    rw length-append (record {
      pairs = t.left;
      most = omega (arith, t.below);
      bytes =
          subst (λ (i : ℕ). Filling (λ j. cond ((plate m).edge j) 1 0) (k + 1) c.args.st.now (set l.st i c.edge_byte.result))
          (t.here.number ∙ sym c.pair_number.ensures.numbered)
          (filling_next l.invariant.bytes _ (omega (arith, t.below, c.requires.st_len))
          (c.edge_byte.ensures.byte ∙ ap edge_byte c.store_pair.ensures.kind ∙ edge_byte_lem t.here));
      table = filled_next t.here.number c.store_pair.ensures.filled;
    })

pub returns-clause-edges : goal.returns-clause-edges
unfolding all_edges plate
returns-clause-edges c =
    filling_end c.loop-p.invariant.bytes _ c.requires.st_len
    (pairs_over c.args.m.now _ c.loop-p.invariant.pairs c.in-None.ensures.steps.0)

pub returns-clause-filled : goal.returns-clause-filled
returns-clause-filled c =
    let m = c.args.m.now in
    let k = length c.loop-p.yielded in
    let over = pairs_over m k c.loop-p.invariant.pairs c.in-None.ensures.steps.0 in
    let most = c.loop-p.invariant.most in
    let e : k ≡ pair_count (count m) = omega arith in
    fill_end (subst (λ (x : ℕ). Filled m c.loop-p.t x) e c.loop-p.invariant.table)
