-- `is_pair` meets its contract. Assumes nothing.
use mathlib.Core.Path.{sym, ◌∙◌}
use borrow.Author.Tests.{lt-ltb, le-ltb}
use Rattle.plane.proofs.Laws.Tells.{cond_yes, cond_no}
use Rattle.driver.specs.Driver.{is_pair}
use Rattle.driver.proofs.is_pair.Goals as goal

pub returns-then-a-b : goal.returns-then-a-b
unfolding is_pair
returns-then-a-b c = record { pair = sym (cond_yes _ _ (lt-ltb _ _ c.if-a-b.true)) }

pub returns-else-a-b : goal.returns-else-a-b
unfolding is_pair
returns-else-a-b c = let e = le-ltb _ _ c.if-a-b.false in record { pair = e ∙ sym (cond_no _ _ e) }
