-- `hull::kind_of` meets its contract. The invariant: the marks passed leave the edge clear, and `left` and `right` say whether one of
-- them lies strictly left, strictly right. Assumes nothing.
use mathlib.Core.Path.{◌≡◌, refl, sym, ◌∙◌, ap, ap₂}
use mathlib.Core.Bool.{Bool, true, false, not, cond, ◌||◌}
use native.Mathlib.Omega.{arith}
use borrow.Author.Tests.{not-true, not-false}
use Rattle.plane.specs.Marks.{count, mark}
use Rattle.plane.specs.Edge.{empty_edge}
use Rattle.plane.specs.Side.{side}
use Rattle.plane.specs.Hull.{not_left, not_right}
use Rattle.plane.proofs.Laws.Numbers.{all_none, all_more, all_no, all_upto, some_turn}
use Rattle.plane.proofs.Laws.Bounds.{rd}
use Rattle.plane.proofs.Laws.Asked.{read, side_at, asked_left, asked_right, asked_on}
use Rattle.plane.proofs.Laws.Tells.{not_not}
use Rattle.plane.proofs.Laws.Hull.{kind_blocked, kind_left, kind_right, kind_inner}
use Rattle.std.proofs.Common.{rules}
use Rattle.plane.proofs.hull.kind_of.Goals as goal

either : (x y : Bool) → (x || y) ≡ cond x true y
either true y = refl
either false y = refl

pub loop-k-init : goal.loop-k-init
loop-k-init c = (all_none _, sym (ap not (all_none _)), sym (ap not (all_none _)))

pub is_blocking-requires-clause-on_value : goal.is_blocking-requires-clause-on_value
is_blocking-requires-clause-on_value c =
    asked_on _ _ _ (read (record { sfits = c.side-s.type_inv }) (c.side-s.ensures.sided ∙
    side_at c.point.ensures c.point-in-loop-k.ensures c.point-in-loop-k-2.ensures)) c.is_on.ensures.on

pub returns-then-is_blocking : goal.returns-then-is_blocking
unfolding empty_edge
returns-then-is_blocking c = record {
  kind =
      sym
      (kind_blocked _ _ _ (all_no _ c.loop-k.k _ (search rules) (not-true _ (sym c.is_blocking.ensures.blocking ∙ c.if-is_blocking.true))));
}

pub loop-k-preserved : goal.loop-k-preserved
unfolding not_left not_right
loop-k-preserved c =
    let m = c.args.m.now in
    let e : rd c.side-s.result ≡ side (mark m c.args.a) (mark m c.args.b) (mark m c.loop-k.k) =
    read (record { sfits = c.side-s.type_inv }) (c.side-s.ensures.sided ∙
    side_at c.point.ensures c.point-in-loop-k.ensures c.point-in-loop-k-2.ensures) in (
      all_more _ _ c.loop-k.invariant.0 (not-false _ (sym c.is_blocking.ensures.blocking ∙ c.if-is_blocking.false)),
      either c.loop-k.left c.is_left-left.result ∙ ap₂ (λ x y. cond x true y) c.loop-k.invariant.1 (asked_left _ _ _ e c.is_left-left.ensures.left) ∙
          some_turn _ c.loop-k.k _ refl,
      either c.loop-k.right c.is_right-right.result ∙ ap₂ (λ x y. cond x true y) c.loop-k.invariant.2 (asked_right _ _ _ e c.is_right-right.ensures.right) ∙
          some_turn _ c.loop-k.k _ refl,
    )

pub returns-then-right : goal.returns-then-right
unfolding empty_edge
returns-then-right c =
    let e : c.loop-k.k ≡ count c.args.m.now = omega arith in
    record {
      kind =
          sym (kind_inner _ _ _ (all_upto _ e c.loop-k.invariant.0)
          (all_upto _ e (sym (not_not _) ∙ ap not (sym c.loop-k.invariant.1 ∙ c.if-left.true)))
          (all_upto _ e (sym (not_not _) ∙ ap not (sym c.loop-k.invariant.2 ∙ c.if-right.true))));
    }

pub returns-else-left : goal.returns-else-left
unfolding empty_edge
returns-else-left c =
    let e : c.loop-k.k ≡ count c.args.m.now = omega arith in
    record {
      kind =
          elim c.else-left.branch [
            | goal.else-left-via-then-left+else-right w ↦ sym (kind_right _ _ _ (all_upto _ e c.loop-k.invariant.0)
                (all_upto _ e (sym (not_not _) ∙ ap not (sym c.loop-k.invariant.2 ∙ w.if-right.false))))
            | goal.else-left-via-else-left w ↦ sym (kind_left _ _ _ (all_upto _ e c.loop-k.invariant.0)
                (all_upto _ e (sym (not_not _) ∙ ap not (sym c.loop-k.invariant.1 ∙ w.if-left.false))))
          ];
    }
