-- `request::common_byte` meets its contract. Assumes nothing.
use mathlib.Core.Path.{sym}
use borrow.Author.Tests.{eq-eqb, ne_eqb}
use Rattle.skeleton.specs.Common.{common_byte}
use Rattle.plane.proofs.Laws.Tells.{cond_yes, cond_no}
use Rattle.skeleton.proofs.request.common_byte.Goals as goal

pub returns-then-y-eq0 : goal.returns-then-y-eq0
unfolding common_byte
returns-then-y-eq0 c = record { kept = sym (cond_yes _ _ (eq-eqb _ _ c.if-y-eq0.true)) }

pub returns-else-y-eq0 : goal.returns-else-y-eq0
unfolding common_byte
returns-else-y-eq0 c = record { kept = sym (cond_no _ _ (ne_eqb _ _ c.if-y-eq0.false)) }
