-- `Set::with` meets its contract. The word that k belongs to gets the digit 2 ^ k, or 2 ^ (k - 64); the other word has no digit for k. Assumes nothing.
use Rattle.sets.proofs.Laws.Sets.{Fits, add_low, add_high}
use Rattle.std.proofs.Common.{rules}
use Rattle.sets.proofs.Set.with.Goals as goal
use Rattle.sets.proofs.Set.with.Goals.{Start}

fits : (c : Start) → Fits c.args.self
fits c = record { low_fits = search rules; high_fits = search rules }

pub returns-then-k-lt64 : goal.returns-then-k-lt64
returns-then-k-lt64 c = record { added = add_low _ _ (fits (goal.at.returns-then-k-lt64 c).Start) c.if-k-lt64.true }

pub returns-else-k-lt64 : goal.returns-else-k-lt64
returns-else-k-lt64 c = record {
  added = add_high _ _ (fits (goal.at.returns-else-k-lt64 c).Start) c.if-k-lt64.false c.requires;
}
