-- `search::check_search` meets its contract: a later row is asked where no earlier one applies. Assumes nothing.
use mathlib.Core.Path.{sym, ◌∙◌, ap}
use Rattle.std.proofs.lemmas.Result.{err_from_is_err_and}
use Rattle.std.specs.Prelude.{Err}
use Rattle.refusals.specs.Check.{Verdict}
use Rattle.refusals.proofs.Laws.{accepted_plate}
use Rattle.skeleton.specs.Answers.{or_else, buffer_row, search_refusal}
use Rattle.skeleton.proofs.search.check_search.Goals as goal

pub returns-in_err-check_list : goal.returns-in_err-check_list
unfolding search_refusal or_else
returns-in_err-check_list c =
    let p = err_from_is_err_and c.from_residual.result c.from_residual.ensures.1 in
    record {
      answered =
          p.1 ∙ ap Err p.2 ∙
          ap (λ (v : Verdict). or_else v (buffer_row c.args.m.now c.args.st.now)) c.in_err-check_list.ensures.answered;
    }

pub check_buffer-requires : goal.check_buffer-requires
check_buffer-requires c = (accepted_plate _ (sym c.in_ok-check_list.ensures.answered)).few

pub returns : goal.returns
unfolding search_refusal or_else
returns c = record {
  answered =
      c.check_buffer.ensures.answered ∙
      ap (λ (v : Verdict). or_else v (buffer_row c.args.m.now c.args.st.now)) c.in_ok-check_list.ensures.answered;
}
