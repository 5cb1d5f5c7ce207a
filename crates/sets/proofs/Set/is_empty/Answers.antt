-- `Set::is_empty` meets its contract. A word that is not 0 has a lowest digit, and that is a member. Assumes nothing.
use mathlib.Core.Path.{◌∙◌}
use borrow.Author.Tests.{ne_eqb}
use Rattle.sets.proofs.Laws.Sets.{Fits, none_low, none_high}
use Rattle.std.proofs.Common.{rules}
use Rattle.sets.proofs.Set.is_empty.Goals as goal
use Rattle.sets.proofs.Set.is_empty.Goals.{Start}

fits : (c : Start) → Fits c.args.self
fits c = record { low_fits = search rules; high_fits = search rules }

pub returns-then-self-eq0 : goal.returns-then-self-eq0
returns-then-self-eq0 c = record { none = none_high _ (fits (goal.at.returns-then-self-eq0 c).Start) c.if-self-eq0.true }

pub returns-else-self-eq0 : goal.returns-else-self-eq0
returns-else-self-eq0 c = record {
  none = ne_eqb _ 0 c.if-self-eq0.false ∙ none_low _ (fits (goal.at.returns-else-self-eq0 c).Start) c.if-self-eq0.false;
}
