-- `search::search` meets its contract. Assumes nothing.
use mathlib.Core.Path.{sym, ap, ◌∙◌}
use Rattle.std.proofs.lemmas.Result.{err_from_is_err_and}
use Rattle.std.specs.Prelude.{Err}
use mathlib.Core.List.{List}
use lib.IntN.{ℤ}
use Rattle.plane.specs.Marks.{count}
use Rattle.pairs.specs.Pairs.{pair_count}
use Rattle.refusals.specs.Check.{Verdict}
use Rattle.striking.specs.Search as striking
use Rattle.certificates.specs.Plate.{plate}
use Rattle.skeleton.specs.Answers.{told, outcome_after, outcome_of, bytes_after, status_after}
use Rattle.skeleton.proofs.Table.{accepted_long, accepted_list}
use Rattle.skeleton.proofs.search.search.Goals as goal

pub returns-in_err-check_search : goal.returns-in_err-check_search
unfolding outcome_of outcome_after status_after bytes_after
returns-in_err-check_search c =
    let p = err_from_is_err_and c.from_residual.result c.from_residual.ensures.1 in
    let e = c.in_err-check_search.ensures.answered in
    record {
      outcome =
          p.1 ∙ ap Err p.2 ∙
          ap (λ (v : Verdict). outcome_after v (striking.search_result (plate c.args.m.now) c.args.budget)) e;
      status = ap (λ (v : Verdict). bytes_after v c.args.st.now (striking.search_result (plate c.args.m.now) c.args.budget)) e;
    }

pub of-requires : goal.of-requires
of-requires c = accepted_list _ _ (sym c.in_ok-check_search.ensures.answered)

pub search_plate-requires : goal.search_plate-requires
search_plate-requires c =
    accepted_long _ _ (sym c.in_ok-check_search.ensures.answered) ∙ ap (λ (m : List ℤ). pair_count (count m)) (sym c.of.ensures)

pub returns : goal.returns
unfolding outcome_of outcome_after status_after bytes_after
returns c =
    let e = c.in_ok-check_search.ensures.answered in
    record {
      outcome =
          c.search_plate.ensures.outcome ∙
          ap (λ (m : List ℤ). let r = striking.search_result (plate m) c.args.budget in told r.outcome r.examinations) c.of.ensures ∙
          ap (λ (v : Verdict). outcome_after v (striking.search_result (plate c.args.m.now) c.args.budget)) e;
      status =
          c.search_plate.ensures.status ∙ ap (λ (m : List ℤ). (striking.search_result (plate m) c.args.budget).status) c.of.ensures ∙
          ap (λ (v : Verdict). bytes_after v c.args.st.now (striking.search_result (plate c.args.m.now) c.args.budget)) e;
    }
