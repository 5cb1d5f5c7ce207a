-- `request::check_request` meets its contract: a later row is asked where no earlier one applies. Assumes nothing.
use mathlib.Core.Path.{◌≡◌, ◌∙◌, ap, ap₂}
use mathlib.Core.List.{List}
use Prim.Native.Nat.{ℕ}
use lib.IntN.{ℤ}
use Rattle.std.proofs.lemmas.Result.{err_from_is_err_and}
use Rattle.std.specs.Prelude.{Err}
use Rattle.refusals.specs.Check.{Verdict}
use Rattle.skeleton.specs.Answers.{or_else, search_refusal, byte_row, pair_row, request_refusal}
use Rattle.skeleton.proofs.request.check_request.Goals as goal

-- what is asked comes to this, where the first two tests come to v and w
rows : (m : List ℤ) (st : List ℕ) (a b : ℕ) {v w : Verdict} → v ≡ search_refusal m st → w ≡ byte_row st → or_else v (or_else w (pair_row m a b)) ≡ request_refusal m st a b
unfolding request_refusal
rows m st a b e f = ap₂ (λ (v w : Verdict). or_else v (or_else w (pair_row m a b))) e f

pub returns-in_err-check_search : goal.returns-in_err-check_search
unfolding or_else request_refusal
returns-in_err-check_search c =
    let p = err_from_is_err_and c.from_residual.result c.from_residual.ensures.1 in
    record {
      answered =
          p.1 ∙ ap Err p.2 ∙
          ap (λ (v : Verdict). or_else v (or_else (byte_row c.args.st.now) (pair_row c.args.m.now c.args.a c.args.b)))
          c.in_err-check_search.ensures.answered;
    }

pub returns-in_err-check_bytes : goal.returns-in_err-check_bytes
unfolding or_else
returns-in_err-check_bytes c =
    let p = err_from_is_err_and c.from_residual-in_err-check_bytes.result c.from_residual-in_err-check_bytes.ensures.1 in
    record {
      answered =
          p.1 ∙ ap Err p.2 ∙
          rows c.args.m.now c.args.st.now c.args.a c.args.b c.in_ok-check_search.ensures.answered
          c.in_err-check_bytes.ensures.answered;
    }

pub returns : goal.returns
unfolding or_else
returns c = record {
  answered =
      c.check_pair.ensures.answered ∙
      rows c.args.m.now c.args.st.now c.args.a c.args.b c.in_ok-check_search.ensures.answered
      c.in_ok-check_bytes.ensures.answered;
}
