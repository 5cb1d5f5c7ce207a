-- `read::store` meets its contract. The invariant: what is left is the text from line k + 1 on, and the numbers of the first k marks
-- stand at the list's start. A mark takes four bytes at least, so that 2,048 numbers are room enough. Assumes nothing.
use Rattle.std.proofs.Common.{◌≡◌, true, List, ℕ, ℤ, ◌+◌, ◌/◌, ◌<◌, length, sym, ap, ◌∙◌, subst, arith, below_more}
use Rattle.plane.proofs.Laws.Bounds.{rd}
use Rattle.reading.specs.Text.{feed, Cut}
use Rattle.reading.specs.Read.{is_mark, rest_of, x_of, y_of}
use Rattle.reading.proofs.Tests.{given_is}
use Rattle.reading.proofs.Text.{cut-length}
use Rattle.reading.proofs.Lines.{next_rest, over_no, mark_good}
use Rattle.reading.proofs.Marks.{mark-length, x_reads, y_reads, stored_mark}
use Rattle.reading.proofs.read.store.Goals as goal
use Rattle.reading.proofs.read.store.Goals.{In-Some}

-- a mark's line is cut off
next : (c : In-Some) → Cut feed (rest_of c.args.text.now (c.loop-line.count / 2 + 1)) c.in-Some.line.now c.in-Some.after.now
next c = subst (λ (p : List ℕ). Cut feed p c.in-Some.line.now c.in-Some.after.now) c.loop-line.invariant.left c.in-Some.ensures.cut

there : (c : In-Some) → 0 < length (rest_of c.args.text.now (c.loop-line.count / 2 + 1))
there c = omega (arith, cut-length _ _ _ _ (next c))

marked : (c : In-Some) → is_mark c.in-Some.line.now ≡ true
marked c = rw ((next c).left) (mark_good _ c.requires.readable _ (there c))

pub loop-line-preserved : goal.loop-line-preserved
loop-line-preserved c =
    let l = c.loop-line.invariant in
    let s = (goal.at.loop-line-preserved c).In-Some in
    let n = next s in
    let p = given_is _ _ _ c.mark.ensures.mark (marked s) _ c.unwrap-x.ensures in
    let m = mark-length _ (marked s) in
    let w = cut-length _ _ _ _ c.in-Some.ensures.cut in
    let k : (c.loop-line.count + 2) / 2 ≡ c.loop-line.count / 2 + 1 = omega arith in
    rw k (record {
      even = omega arith;
      left = n.right ∙ sym (next_rest _ _);
      taken = omega arith;
      stored =
          stored_mark _ _ _ _ _ _ _ l.even l.stored (omega arith)
          (ap (λ (u : ℤ × ℤ). rd u.0) p ∙ x_reads _ (marked s) ∙ ap x_of n.left)
          (ap (λ (u : ℤ × ℤ). rd u.1) p ∙ y_reads _ (marked s) ∙ ap y_of n.left);
      passed = below_more _ _ l.passed (over_no _ _ (there s));
    })
