-- `read::first_bad` meets its contract. The invariant: what is left is the text from line n on, and the lines passed are not bad.
-- Assumes nothing.
use Rattle.std.proofs.Common.{◌≡◌, List, ℕ, ◌<◌, length, sym, ◌∙◌, subst, arith, below_more, false-eqb}
use Rattle.std.proofs.lemmas.Option.{MatchOption-at_some}
use Rattle.reading.specs.Text.{feed, Cut}
use Rattle.reading.specs.Read.{rest_of, is_good}
use Rattle.reading.proofs.Lines.{next_rest, good_cut, bad_not, first_is}
use Rattle.reading.proofs.read.first_bad.Goals as goal
use Rattle.reading.proofs.read.first_bad.Goals.{In-loop-rest, After-is_good}

-- there is a line n
there : (c : In-loop-rest) → 0 < length (rest_of c.args.text.now c.loop-rest.n)
there c = rw (← c.loop-rest.invariant.left) (omega (arith, false-eqb _ _ c.loop-rest-test.ensures))

-- line n is cut off, and what is asked of the part is asked of it
cut : (c : After-is_good) → Cut feed (rest_of c.args.text.now c.loop-rest.n) c.in-Some.line.now c.in-Some.after.now
cut c =
    subst (λ (p : List ℕ). Cut feed p c.in-Some.line.now c.in-Some.after.now) c.loop-rest.invariant.left
    (MatchOption-at_some _ _ _ c.in-Some.is c.split_once.ensures.cut)

asked : (c : After-is_good) → c.is_good.result ≡ is_good c.args.text.now c.loop-rest.n
asked c = c.is_good.ensures.good ∙ good_cut _ _ _ _ (cut c)

pub returns-then-not-is_good : goal.returns-then-not-is_good
returns-then-not-is_good c =
    let g = goal.at.returns-then-not-is_good c in
    record {
      first = first_is _ _ (there g.In-loop-rest) (sym (asked g.After-is_good) ∙ c.if-not-is_good.true) c.loop-rest.invariant.passed;
    }

pub loop-rest-preserved : goal.loop-rest-preserved
loop-rest-preserved c =
    let g = goal.at.loop-rest-preserved c in
    record {
      left = (cut g.After-is_good).right ∙ sym (next_rest _ _);
      passed =
          below_more _ _ c.loop-rest.invariant.passed
          (bad_not _ _ (there g.In-loop-rest) (sym (asked g.After-is_good) ∙ c.if-not-is_good.false));
    }
