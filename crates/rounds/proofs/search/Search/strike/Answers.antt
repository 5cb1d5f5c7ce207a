-- `Search::strike` leaves the search ready: the rows lose the edge that the byte loses. Assumes nothing.
use mathlib.Core.Path.{sym, subst}
use mathlib.Core.List.{List}
use Prim.Native.Nat.{ℕ}
use lib.IntN.{ℤ}
use lib.ListN.{set}
use Rattle.pairs.specs.Pairs.{pair_number}
use Rattle.striking.specs.Status.{remaining}
use Rattle.certificates.specs.Plate.{edges_of}
use Rattle.certificates.specs.Rows.{Rows}
use Rattle.rounds.specs.Run.{Ready}
use Rattle.rounds.specs.Search.{marks, remains}
use Rattle.rounds.proofs.Readiness.{ready_struck}
use Rattle.rounds.proofs.search.Search.strike.Goals as goal

pub returns-clause-ready : goal.returns-clause-ready
returns-clause-ready c =
    let s = c.args.self.now in
    let i = pair_number c.args.p.a c.args.p.b in
    subst (λ (k : ℕ). Ready (marks s) (set (remains s) k 0) c.part.new.d) (sym c.pair_number.ensures.numbered)
    (ready_struck i c.requires.ready_before
    (subst (λ (m : List ℤ). Rows m (edges_of m (remaining (set (remains s) i 0))) c.part.new.d) c.list-list.ensures
    c.part.ensures.parted))
