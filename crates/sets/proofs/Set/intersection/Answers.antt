-- `Set::intersection` meets its contract. `&` of two words is the word of the digits that both have. Assumes nothing.
use Rattle.sets.proofs.Laws.Sets.{both-set}
use Rattle.std.proofs.Common.{rules}
use Rattle.sets.proofs.Set.intersection.Goals as goal

pub returns : goal.returns
returns c = record {
  both =
      both-set _ _ (record { low_fits = search rules; high_fits = search rules })
      (record { low_fits = search rules; high_fits = search rules });
}
