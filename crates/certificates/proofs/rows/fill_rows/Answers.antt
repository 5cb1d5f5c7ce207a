-- `rows::fill_rows` meets its contract: each turn adds the edge of the next pair, if it has one, and the turns end with the pairs. No pair is
-- below 0, and past the last byte there is none to add. Assumes nothing.
use Rattle.std.proofs.Common.{length, ◌≡◌, ◌≤◌, sym, ap, ◌∙◌, arith}
use mathlib.Core.Logic.{inl, inr}
use mathlib.Core.Path.{subst}
use Prim.Native.Nat.{ℕ, ◌+◌}
use lib.ListN.{get_or, length-append}
use Rattle.std.specs.Iterator.Adapters.{zip_first, zip_second}
use Rattle.std.specs.Slice.Iter.{iter_rest}
use Rattle.plane.specs.Marks.{count}
use Rattle.pairs.specs.Pairs.{pair_count, all_pairs}
use Rattle.pairs.proofs.Turns.{all_pairs_length, turn_of, pair_is, none_left}
use Rattle.striking.specs.Status.{remaining}
use Rattle.striking.proofs.Remaining.{remaining_yes}
use Rattle.certificates.specs.Plate.{edges_of}
use Rattle.certificates.specs.Rows.{Rows, below}
use Rattle.certificates.proofs.Near.{rows_start, rows_end, rows_skipped}
use Rattle.certificates.proofs.Places.{Place, place}
use Rattle.certificates.proofs.rows.fill_rows.Goals as goal
use Rattle.certificates.proofs.rows.fill_rows.Goals.{In-Some}

here : (c : In-Some) → Place c.args.m.now (length c.loop-p.yielded) c.in-Some.p
here c =
    let all = all_pairs (count c.args.m.now) in
    let k = length c.loop-p.yielded in
    let h = turn_of all k (sym c.loop-p.invariant.pairs ∙ c.in-Some.ensures.steps.0) in
    place c.args.m.now k (pair_is _ k h) (omega (arith, h.below, all_pairs_length (count c.args.m.now)))

-- the byte of the turn
byte_is : (c : In-Some) → c.in-Some.field-0-1.now ≡ get_or c.args.st.now (length c.loop-p.yielded) 0
byte_is c = (turn_of c.args.st.now (length c.loop-p.yielded) (sym c.loop-p.invariant.bytes ∙ c.in-Some.ensures.steps.1)).item 0

pub loop-p-init : goal.loop-p-init
loop-p-init c =
    let z = c.zip-p-items.ensures in
    let e = c.into_iter-p-iterator.ensures.into_iter_gives in
    record {
      can = (tt, tt);
      ends = tt;
      pairs = ap zip_first e ∙ z.first ∙ c.of.ensures.all ∙ ap all_pairs c.count.ensures.counted;
      bytes = ap (λ i. iter_rest (zip_second i)) e ∙ z.second.0;
      rows = rows_start _ c.requires.d_value;
    }

pub join-requires-clause-rows : goal.join-requires-clause-rows
join-requires-clause-rows c =
    let a = c.args in
    let n = (here (goal.at.join-requires-clause-rows c).In-Some).number in
    subst (λ (i : ℕ). Rows a.m.now (edges_of a.m.now (below i (remaining a.st.now))) c.loop-p.d) n c.loop-p.invariant.rows

pub join-requires-clause-a_lt_b : goal.join-requires-clause-a_lt_b
join-requires-clause-a_lt_b c = (here (goal.at.join-requires-clause-a_lt_b c).In-Some).up

pub join-requires-clause-b_is_mark : goal.join-requires-clause-b_is_mark
join-requires-clause-b_is_mark c = (here (goal.at.join-requires-clause-b_is_mark c).In-Some).mark

pub join-requires-clause-remains : goal.join-requires-clause-remains
join-requires-clause-remains c =
    let n = (here (goal.at.join-requires-clause-remains c).In-Some).number in
    ap (remaining c.args.st.now) (sym n) ∙
    remaining_yes c.args.st.now _ (λ e. c.if-byte-ne0.true (byte_is (goal.at.join-requires-clause-remains c).In-Some ∙ e))

pub loop-p-preserved-then-byte-ne0 : goal.loop-p-preserved-then-byte-ne0
loop-p-preserved-then-byte-ne0 c =
    let a = c.args in
    let k = length c.loop-p.yielded in
    let n = (here (goal.at.loop-p-preserved-then-byte-ne0 c).In-Some).number in
    let h = turn_of (all_pairs (count a.m.now)) k (sym c.loop-p.invariant.pairs ∙ c.in-Some.ensures.steps.0) in
    let g = turn_of a.st.now k (sym c.loop-p.invariant.bytes ∙ c.in-Some.ensures.steps.1) in
    rw length-append (record {
      can = (tt, tt);
      ends = tt;
      pairs = h.left;
      bytes = g.left;
      rows =
          subst (λ (i : ℕ). Rows a.m.now (edges_of a.m.now (below (i + 1) (remaining a.st.now))) c.join.new.d) (sym n)
          c.join.ensures.joined;
    })

pub loop-p-preserved : goal.loop-p-preserved
loop-p-preserved c =
    let a = c.args in
    let k = length c.loop-p.yielded in
    let h = turn_of (all_pairs (count a.m.now)) k (sym c.loop-p.invariant.pairs ∙ c.in-Some.ensures.steps.0) in
    let g = turn_of a.st.now k (sym c.loop-p.invariant.bytes ∙ c.in-Some.ensures.steps.1) in
    rw length-append (record {
      can = (tt, tt);
      ends = tt;
      pairs = h.left;
      bytes = g.left;
      rows =
          rows_skipped a.st.now k (sym (byte_is (goal.at.loop-p-preserved c).In-Some) ∙ c.if-byte-ne0.false)
          c.loop-p.invariant.rows;
    })

pub returns : goal.returns
returns c =
    let k = length c.loop-p.yielded in
    let n = count c.args.m.now in
    let all : pair_count n ≤ k =
    elim c.in-None.ensures.steps as (λ x. pair_count n ≤ k) [
      | inl e ↦ omega (arith, all_pairs_length n, none_left (all_pairs n) k (ap length (sym c.loop-p.invariant.pairs ∙ e.1.0)))
      | inr e ↦ omega (arith, c.requires.st_len, none_left c.args.st.now k (ap length (sym c.loop-p.invariant.bytes) ∙ e.1.0))
    ] in
    record { filled = rows_end _ k (omega (arith, c.requires.st_len)) c.loop-p.invariant.rows }
