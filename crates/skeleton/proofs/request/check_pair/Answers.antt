-- `request::check_pair` meets its contract. Assumes nothing.
use mathlib.Core.Path.{sym, ◌∙◌, subst}
use Prim.Native.Nat.{ℕ, ◌<◌, ◌≤◌}
use borrow.Author.Tests.{lt-ltb, le-ltb}
use Rattle.skeleton.specs.Answers.{pair_row}
use Rattle.plane.proofs.Laws.Tells.{cond_yes, cond_no}
use Rattle.skeleton.proofs.request.check_pair.Goals.{else-a-b-via-then-a-b+else-b-count, else-a-b-via-else-a-b}
use Rattle.skeleton.proofs.request.check_pair.Goals as goal

pub returns-then-b-count : goal.returns-then-b-count
unfolding pair_row
returns-then-b-count c = record {
  answered =
      sym (cond_yes _ _ (lt-ltb _ _ c.if-a-b.true) ∙ cond_yes _ _
      (lt-ltb _ _ (subst (λ (k : ℕ). c.args.b < k) c.count.ensures.counted c.if-b-count.true)));
}

pub returns : goal.returns
unfolding pair_row
returns c = record {
  answered = elim c.else-a-b.branch [
    | else-a-b-via-then-a-b+else-b-count w ↦
        sym (cond_yes _ _ (lt-ltb _ _ w.if-a-b.true) ∙ cond_no _ _
        (le-ltb _ _ (subst (λ (k : ℕ). k ≤ c.args.b) w.count.ensures.counted w.if-b-count.false)))
    | else-a-b-via-else-a-b w ↦ sym (cond_no _ _ (le-ltb _ _ w.if-a-b.false))
  ];
}
