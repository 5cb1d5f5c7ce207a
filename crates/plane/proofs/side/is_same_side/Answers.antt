-- `side::is_same_side` meets its contract: it asks in the order of the definition. Assumes nothing.
use mathlib.Core.Path.{◌∙◌, sym, ap}
use Rattle.plane.specs.Side.{is_left, is_right, same_side}
use Rattle.plane.proofs.Laws.Bounds.{back}
use Rattle.plane.proofs.Laws.Tells.{cond_yes, cond_no}
use Rattle.plane.proofs.side.is_same_side.Goals as goal

pub returns-then-is_left : goal.returns-then-is_left
unfolding same_side
returns-then-is_left c = record {
  same =
      c.is_left-then-is_left.ensures.left ∙ ap is_left (back c.ranges.t) ∙
      sym (cond_yes _ _ (ap is_left (sym (back c.ranges.s)) ∙ sym c.is_left.ensures.left ∙ c.if-is_left.true));
}

pub returns-then-is_right : goal.returns-then-is_right
unfolding same_side
returns-then-is_right c = record {
  same =
      c.is_right-then-is_right.ensures.right ∙ ap is_right (back c.ranges.t) ∙
      sym (cond_no _ _ (ap is_left (sym (back c.ranges.s)) ∙ sym c.is_left.ensures.left ∙ c.if-is_left.false) ∙
      cond_yes _ _ (ap is_right (sym (back c.ranges.s)) ∙ sym c.is_right.ensures.right ∙ c.if-is_right.true));
}

pub returns-else-is_right : goal.returns-else-is_right
unfolding same_side
returns-else-is_right c = record {
  same =
      c.if-is_right.false ∙
      sym (cond_no _ _ (ap is_left (sym (back c.ranges.s)) ∙ sym c.is_left.ensures.left ∙ c.if-is_left.false) ∙
      cond_no _ _ (ap is_right (sym (back c.ranges.s)) ∙ sym c.is_right.ensures.right ∙ c.if-is_right.false));
}
