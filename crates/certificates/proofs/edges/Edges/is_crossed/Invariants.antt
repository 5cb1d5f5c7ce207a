-- The invariant of the loop of `Edges::is_crossed`: of the marks left of p to q, those no longer in the set have no edge that crosses
-- (p, q). An edge that crosses has one end on the left, so at the end there is none.
use Rattle.sets.specs.Sets.{members_rest}
use Rattle.striking.specs.Status.{remaining}
use Rattle.certificates.specs.Plate.{edges_of}
use Rattle.certificates.proofs.Crossing.{Passed}
use Rattle.certificates.proofs.edges.Edges.is_crossed.Given as goal

abbrev pub invariant-loop-r : goal.invariant-loop-r
invariant-loop-r l = Passed l.self.marks (edges_of l.self.marks (remaining l.self.statuses)) l.p l.q (members_rest l.r-iterator)
