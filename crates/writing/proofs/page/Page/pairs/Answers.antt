-- `Page::pairs` meets its contract: each turn puts the line of the next pair, and the turns end with the pairs. Assumes nothing.
use Rattle.std.proofs.Common.{length, ◌≡◌, ◌≤◌, sym, ap, ◌∙◌, arith}
use mathlib.Core.Logic.{inl, inr}
use lib.ListN.{length-append}
use Rattle.pairs.specs.Pairs.{pair_count, all_pairs}
use Rattle.pairs.proofs.Turns.{all_pairs_length, turn_of, none_left}
use Rattle.writing.specs.Listing.{pair_texts}
use Rattle.writing.specs.Sheet.{put, sheet}
use Rattle.writing.proofs.Pairs.{line_fits, line_put}
use Rattle.writing.proofs.page.Page.pairs.Goals as goal

pub pair-requires : goal.pair-requires
pair-requires c =
    let l = c.loop-p in
    let k = length l.yielded in
    let s = c.in-Some.ensures.steps in
    let h = turn_of (all_pairs c.args.n) k (sym l.invariant.pairs ∙ s.0) in
    let g = turn_of c.args.st.now k (sym l.invariant.bytes ∙ s.1) in
    rw l.invariant.lines (line_fits c.args.n k c.args.st.now h g (sheet c.args.self.now) c.requires.room)

pub loop-p-preserved : goal.loop-p-preserved
loop-p-preserved c =
    let l = c.loop-p in
    let k = length l.yielded in
    let s = c.in-Some.ensures.steps in
    let h = turn_of (all_pairs c.args.n) k (sym l.invariant.pairs ∙ s.0) in
    let g = turn_of c.args.st.now k (sym l.invariant.bytes ∙ s.1) in
    rw length-append (record {
      can = (tt, tt);
      ends = tt;
      pairs = h.left;
      bytes = g.left;
      most = omega (arith, h.below, all_pairs_length c.args.n);
      lines = rw (c.pair.ensures.put, l.invariant.lines) (line_put c.args.n k c.args.st.now h g (sheet c.args.self.now));
    })

pub returns : goal.returns
returns c =
    let l = c.loop-p in
    let k = length l.yielded in
    let all : pair_count c.args.n ≤ k =
    elim c.in-None.ensures.steps as (λ x. pair_count c.args.n ≤ k) [
      | inl e ↦ omega (arith, all_pairs_length c.args.n, none_left (all_pairs c.args.n) k (ap length (sym l.invariant.pairs ∙ e.1.0)))
      | inr e ↦ omega (arith, c.requires.st_len, none_left c.args.st.now k (ap length (sym l.invariant.bytes) ∙ e.1.0))
    ] in
    let e : k ≡ pair_count c.args.n = omega (arith, l.invariant.most) in
    record { put = l.invariant.lines ∙ ap (λ j. put (sheet c.args.self.now) (pair_texts c.args.st.now j)) e }
