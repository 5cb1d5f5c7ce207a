-- `request::request` meets its contract. Assumes nothing.
use mathlib.Core.Path.{sym, ap, ◌∙◌, subst}
use mathlib.Core.List.{List}
use lib.IntN.{ℤ}
use Rattle.plane.specs.Marks.{count}
use Rattle.pairs.specs.Pairs.{pair_count}
use Rattle.certificates.specs.Rule9.{IsPair}
use Rattle.std.proofs.lemmas.Result.{err_from_is_err_and}
use Rattle.std.specs.Prelude.{Ok, Err}
use Rattle.refusals.specs.Check.{Verdict}
use Rattle.skeleton.specs.declared.request.Reply.{Reply}
use Rattle.striking.specs.Status.{remaining}
use Rattle.certificates.specs.Plate.{edges_of}
use Rattle.skeleton.specs.Answers.{unless_refused, answer_in, answer_of}
use Rattle.skeleton.proofs.Table.{accepted_list, accepted_long, accepted_request}
use Rattle.skeleton.proofs.request.request.Goals as goal

pub returns-in_err-check_request : goal.returns-in_err-check_request
unfolding answer_of unless_refused
returns-in_err-check_request c =
    let p = err_from_is_err_and c.from_residual.result c.from_residual.ensures.1 in
    record {
      answered =
          p.1 ∙ ap Err p.2 ∙
          ap
          (λ (v : Verdict). unless_refused v (answer_in c.args.m.now (edges_of c.args.m.now (remaining c.args.st.now)) c.args.a c.args.b))
          c.in_err-check_request.ensures.answered;
    }

pub of-requires : goal.of-requires
of-requires c = accepted_list _ _ (accepted_request _ _ _ _ (sym c.in_ok-check_request.ensures.answered)).0

pub certify-requires : goal.certify-requires
certify-requires c =
    let e = accepted_request _ _ _ _ (sym c.in_ok-check_request.ensures.answered) in
    let m = sym c.of.ensures in
    record {
      st_len = accepted_long _ _ e.0 ∙ ap (λ (x : List ℤ). pair_count (count x)) m;
      pair = subst (λ (x : List ℤ). IsPair x c.args.a c.args.b) m e.1;
    }

pub returns : goal.returns
unfolding answer_of unless_refused
returns c = record {
  answered =
      ap (λ (r : Reply). Ok r) (c.certify.ensures.answered ∙
      ap (λ (x : List ℤ). answer_in x (edges_of x (remaining c.args.st.now)) c.args.a c.args.b) c.of.ensures) ∙
      ap
      (λ (v : Verdict). unless_refused v (answer_in c.args.m.now (edges_of c.args.m.now (remaining c.args.st.now)) c.args.a c.args.b))
      c.in_ok-check_request.ensures.answered;
}
