-- `Search::remains` meets its contract. Assumes nothing.
use mathlib.Core.Path.{ap}
use Rattle.striking.specs.Status.{remaining}
use Rattle.rounds.specs.Search.{remains}
use Rattle.rounds.proofs.search.Search.remains.Goals as goal

pub returns : goal.returns
unfolding remaining
returns c = record { remains = ap (remaining (remains c.args.self.now)) c.pair_number.ensures.numbered }
