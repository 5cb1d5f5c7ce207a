-- The invariant of the loop of `hull::kind_of`: the marks passed leave the edge clear, and `left` and `right` say whether one of
-- them lies strictly left, strictly right.
use mathlib.Core.Path.{◌≡◌}
use mathlib.Core.Bool.{true, not}
use Rattle.plane.specs.Numbers.{all_to}
use Rattle.plane.specs.Edge.{clear}
use Rattle.plane.specs.Hull.{not_left, not_right}
use Rattle.plane.proofs.hull.kind_of.Given as goal

abbrev pub invariant-loop-k : goal.invariant-loop-k
invariant-loop-k l =
    (all_to l.k (clear l.m l.a l.b) ≡ true) × (l.left ≡ not (all_to l.k (not_left l.m l.a l.b))) ×
    (l.right ≡ not (all_to l.k (not_right l.m l.a l.b)))
