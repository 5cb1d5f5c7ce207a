-- `sides::pass_over` meets its contract. The invariant: the marks from k on are passed. A mark more is a digit below the others. Assumes nothing.
use mathlib.Core.Path.{◌≡◌, sym, ◌∙◌}
use Prim.Native.Nat.{◌-◌}
use native.Mathlib.Omega.{arith}
use borrow.Author.Tests.{not-true, not-false}
use Rattle.plane.specs.Marks.{mark}
use Rattle.plane.specs.Side.{side}
use Rattle.plane.proofs.Laws.Bounds.{rd}
use Rattle.plane.proofs.Laws.Asked.{read, side_at, asked_left, asked_right}
use Rattle.sides.proofs.Laws.{pass_none, pass_down, room, stays, stops}
use Rattle.sides.proofs.pass_over.Goals as goal
use Rattle.sides.proofs.pass_over.Goals.{After-push-right}

pub loop-k-init : goal.loop-k-init
loop-k-init c = (c.requires.lo_le_hi, pass_none _ _ _ _)

pub push-left-requires : goal.push-left-requires
push-left-requires c = room _ _ _ c.loop-k.invariant.1.lefts (omega arith)

pub push-right-requires : goal.push-right-requires
push-right-requires c = room _ _ _ c.loop-k.invariant.1.rights (omega arith)

-- the side of the mark that is passed
sided :
    (c : After-push-right) →
    let m = c.args.m.now in
    rd c.side-s.result ≡ side (mark m c.args.a) (mark m c.args.b) (mark m (c.loop-k.k - 1))
sided c =
    read (record { sfits = c.side-s.type_inv }) (c.side-s.ensures.sided ∙
    side_at c.point-p.ensures c.point-q.ensures c.point.ensures)

pub blocks-requires-clause-s_value : goal.blocks-requires-clause-s_value
blocks-requires-clause-s_value c = sided c

pub loop-k-preserved-then-blocks : goal.loop-k-preserved-then-blocks
loop-k-preserved-then-blocks c =
    let e = sided (goal.at.loop-k-preserved-then-blocks c).After-push-right in (
      omega arith,
      pass_down c.loop-k.k c.args.hi (omega arith) (omega arith) (omega arith) c.requires.a_is_mark
          c.requires.b_is_mark c.loop-k.invariant.1 (asked_left _ _ _ e c.is_left.ensures.left)
          (asked_right _ _ _ e c.is_right.ensures.right) c.push-left.ensures.pushed c.push-right.ensures.pushed
          (stops _ _ (not-true _ (sym c.blocks-in-loop-k.ensures.blocking ∙ c.if-blocks.true))),
    )

pub loop-k-preserved : goal.loop-k-preserved
loop-k-preserved c =
    let e = sided (goal.at.loop-k-preserved c).After-push-right in (
      omega arith,
      pass_down c.loop-k.k c.args.hi (omega arith) (omega arith) (omega arith) c.requires.a_is_mark
          c.requires.b_is_mark c.loop-k.invariant.1 (asked_left _ _ _ e c.is_left.ensures.left)
          (asked_right _ _ _ e c.is_right.ensures.right) c.push-left.ensures.pushed c.push-right.ensures.pushed
          (stays _ _ (not-false _ (sym c.blocks-in-loop-k.ensures.blocking ∙ c.if-blocks.false))),
    )

pub returns : goal.returns
returns c =
    let e : c.loop-k.k ≡ c.args.lo = omega arith in
    record { passed = rw e at c.loop-k.invariant.1 }
