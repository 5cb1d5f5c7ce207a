-- `request::keep_common` meets its contract. The invariant: the bytes below i are the common ones. Assumes nothing.
use mathlib.Core.Path.{refl, ap, ◌∙◌}
use Prim.Native.Nat.{ℕ}
use native.Mathlib.Omega.{arith}
use lib.ListN.{get_or}
use Rattle.skeleton.specs.Common.{common_byte, common}
use Rattle.rounds.proofs.Filling.{filling_none, filling_next, filling_end}
use Rattle.skeleton.proofs.request.keep_common.Goals as goal

pub loop-i-init : goal.loop-i-init
loop-i-init c = filling_none _ _

pub loop-i-preserved : goal.loop-i-preserved
loop-i-preserved c =
    filling_next c.loop-i.invariant _ (omega arith)
    (c.common_byte.ensures.kept ∙ ap (λ (x : ℕ). common_byte x (get_or c.args.st.now c.loop-i.i 0)) (c.loop-i.invariant.rest _ (omega arith)))

pub returns : goal.returns
unfolding common
returns c = record { kept = filling_end c.loop-i.invariant _ refl (omega arith) }
