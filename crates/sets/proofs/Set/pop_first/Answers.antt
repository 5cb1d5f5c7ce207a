-- `Set::pop_first` meets its contract. The lowest digit of the low word, or of the high word where the low one is 0, is the first, and
-- `x & (x - 1)` takes it away. Assumes nothing.
use mathlib.Core.Path.{sym, ◌∙◌}
use native.Mathlib.Omega.{arith}
use Rattle.sets.proofs.Laws.Pop.{pop_low, left_low, high_left, pop_high, left_high, pop_none, left_none}
use Rattle.sets.proofs.Laws.Sets.{Fits}
use Rattle.std.proofs.Common.{rules}
use Rattle.sets.proofs.Set.pop_first.Goals as goal
use Rattle.sets.proofs.Set.pop_first.Goals.{Start}

fits : (c : Start) → Fits c.args.self.now
fits c = record { low_fits = search rules; high_fits = search rules }

pub returns-then-is_empty : goal.returns-then-is_empty
returns-then-is_empty c =
    let e = sym c.is_empty.ensures.none ∙ c.if-is_empty.true in
    record { first = pop_none _ e; rest = left_none _ e }

pub returns-then-self-ne0 : goal.returns-then-self-ne0
returns-then-self-ne0 c =
    let h = fits (goal.at.returns-then-self-ne0 c).Start in
    record { first = pop_low _ h c.if-self-ne0.true; rest = left_low _ h c.if-self-ne0.true }

pub overflow_sub-self-else-self-ne0 : goal.overflow_sub-self-else-self-ne0
overflow_sub-self-else-self-ne0 c =
    let h = fits (goal.at.overflow_sub-self-else-self-ne0 c).Start in
    let n = high_left _ h c.if-self-ne0.false (sym c.is_empty.ensures.none ∙ c.if-is_empty.false) in
    omega arith

pub returns-else-self-ne0 : goal.returns-else-self-ne0
returns-else-self-ne0 c =
    let h = fits (goal.at.returns-else-self-ne0 c).Start in
    let n = sym c.is_empty.ensures.none ∙ c.if-is_empty.false in
    record { first = pop_high _ h c.if-self-ne0.false n; rest = left_high _ h c.if-self-ne0.false n }
