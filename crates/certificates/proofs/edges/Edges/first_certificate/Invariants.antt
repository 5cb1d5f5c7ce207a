-- The invariant of the loops of `Edges::first_certificate`: nothing is found yet, the members that are left are candidates, and every other mark picks nothing. So
-- the first match is the first certificate, and where the left candidates are used up there is none.
use mathlib.Core.Path.{◌≡◌}
use Rattle.std.specs.Prelude.{None}
use Rattle.sets.specs.Sets.{members_rest}
use Rattle.striking.specs.Status.{remaining}
use Rattle.certificates.specs.Certificate.{pick_fitting, pick_right}
use Rattle.certificates.specs.Plate.{edges_of}
use Rattle.certificates.specs.Rows.{candidate, right_candidate}
use Rattle.certificates.proofs.Open.{Open}
use Rattle.certificates.proofs.edges.Edges.first_certificate.Given as goal

abbrev pub invariant-loop-s : goal.invariant-loop-s
invariant-loop-s l =
    (l.found ≡ None) × Open l.self.marks (members_rest l.s-iterator)
    (right_candidate l.self.marks (edges_of l.self.marks (remaining l.self.statuses)) l.p l.q l.r)
    (pick_fitting l.self.marks (edges_of l.self.marks (remaining l.self.statuses)) l.p l.q l.r)

abbrev pub invariant-search : goal.invariant-search
invariant-search l =
    (l.found ≡ None) × Open l.self.marks (members_rest l.r-iterator)
    (candidate l.self.marks (edges_of l.self.marks (remaining l.self.statuses)) l.p l.q l.p l.q)
    (pick_right l.self.marks (edges_of l.self.marks (remaining l.self.statuses)) l.p l.q)
