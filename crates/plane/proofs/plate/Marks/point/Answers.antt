-- `plate::Marks::point` meets its contract: the points of marks are in range. Assumes nothing.
use mathlib.Core.Path.{sym, subst}
use Rattle.plane.specs.Marks.{InRange}
use Rattle.plane.proofs.Laws.Bounds.{mark_in_range}
use Rattle.plane.proofs.plate.Marks.point.Goals as goal

pub of-requires : goal.of-requires
of-requires c = subst InRange (sym c.mark.ensures.placed) (mark_in_range c.self.invariant _)
