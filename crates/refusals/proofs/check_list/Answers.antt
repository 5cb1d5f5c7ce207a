-- `refusals::check_list` meets its contract: it asks in the order of the table. Assumes nothing.
use mathlib.Core.Path.{sym, ◌∙◌, ap, subst}
use Prim.Native.Nat.{ℕ, ◌≤◌, ◌<◌}
use borrow.Author.Tests.{eq-eqb, ne_eqb, lt-ltb, le-ltb}
use Rattle.std.specs.Prelude.{Err}
use Rattle.refusals.specs.declared.Refusal.TheVariants.{TooManyMarks, OutOfRange, EqualMarks}
use Rattle.refusals.specs.Check.{verdict}
use Rattle.plane.proofs.Laws.Tells.{cond_yes, cond_no}
use Rattle.refusals.proofs.First.{found_some, found_past}
use Rattle.refusals.proofs.check_list.Goals as goal

pub returns-then-m-eq1 : goal.returns-then-m-eq1
unfolding verdict
returns-then-m-eq1 c = record { answered = sym (cond_yes _ _ (eq-eqb _ _ c.if-m-eq1.true)) }

pub returns-then-n-gt128 : goal.returns-then-n-gt128
unfolding verdict
returns-then-n-gt128 c = record {
  answered =
      ap (λ (k : ℕ). Err (TooManyMarks k)) c.count-n.ensures.counted ∙
      sym (cond_no _ _ (ne_eqb _ _ c.if-m-eq1.false) ∙ cond_yes _ _
      (lt-ltb _ _ (subst (λ (k : ℕ). 128 < k) c.count-n.ensures.counted c.if-n-gt128.true)));
}

pub returns-in-Some : goal.returns-in-Some
unfolding verdict
returns-in-Some c =
    let k = found_some (sym c.in-Some.is ∙ c.first_out.ensures.first) in
    record {
      answered =
          ap (λ (k : ℕ). Err (OutOfRange k)) k.0 ∙
          sym (cond_no _ _ (ne_eqb _ _ c.if-m-eq1.false) ∙ cond_no _ _
          (le-ltb _ _ (subst (λ (k : ℕ). k ≤ 128) c.count-n.ensures.counted c.if-n-gt128.false)) ∙ cond_yes _ _ (lt-ltb _ _ k.1));
    }

pub returns-in-Some-first_twin : goal.returns-in-Some-first_twin
unfolding verdict
returns-in-Some-first_twin c =
    let k = found_past (sym c.in_default.is ∙ c.first_out.ensures.first) in
    let j = found_some (sym c.in-Some-first_twin.is ∙ c.first_twin.ensures.first) in
    record {
      answered =
          ap (λ (k : ℕ). Err (EqualMarks k)) j.0 ∙
          sym (cond_no _ _ (ne_eqb _ _ c.if-m-eq1.false) ∙ cond_no _ _
          (le-ltb _ _ (subst (λ (k : ℕ). k ≤ 128) c.count-n.ensures.counted c.if-n-gt128.false)) ∙ cond_no _ _ (le-ltb _ _ k)
          ∙ cond_yes _ _ (lt-ltb _ _ j.1));
    }

pub returns : goal.returns
unfolding verdict
returns c =
    let k = found_past (sym c.in_default.is ∙ c.first_out.ensures.first) in
    let j = found_past (sym c.in_default-first_twin.is ∙ c.first_twin.ensures.first) in
    record {
      answered =
          sym (cond_no _ _ (ne_eqb _ _ c.if-m-eq1.false) ∙ cond_no _ _
          (le-ltb _ _ (subst (λ (k : ℕ). k ≤ 128) c.count-n.ensures.counted c.if-n-gt128.false)) ∙ cond_no _ _ (le-ltb _ _ k)
          ∙ cond_no _ _ (le-ltb _ _ j));
    }
