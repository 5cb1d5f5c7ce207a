-- `Set::union` meets its contract. `|` of two words is the word of the digits that either has. Assumes nothing.
use Rattle.sets.proofs.Laws.Sets.{either-set}
use Rattle.std.proofs.Common.{rules}
use Rattle.sets.proofs.Set.union.Goals as goal

pub returns : goal.returns
returns c = record {
  either =
      either-set _ _ (record { low_fits = search rules; high_fits = search rules })
      (record { low_fits = search rules; high_fits = search rules });
}
