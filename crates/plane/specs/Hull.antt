-- Rule 5. "A hull edge is an empty edge with at least one side on which no mark lies strictly. Every other empty edge is inner. If all
-- marks lie on one line, every empty edge is a hull edge."
--   not_left m a b k, not_right m a b k  mark k is not strictly left, not strictly right of a to b
--   one_sided m a b                      at least one side of a to b has no mark strictly on it
--   hull_edge m a b, inner_edge m a b    rule 5
--   kind_of m a b                        which of the three the pair is
use Rattle.std.specs.Prelude.{Bool, true, false, not, cond, List, ℕ, ℤ}
use Rattle.plane.specs.declared.hull.Kind.{Kind}
use Rattle.plane.specs.declared.hull.Kind.TheVariants.{Blocked, Hull, Inner}
use Rattle.plane.specs.Marks.{mark, every_mark}
use Rattle.plane.specs.Side.{left_of, right_of}
use Rattle.plane.specs.Edge.{empty_edge}

unfoldable pub not_left : List ℤ → ℕ → ℕ → ℕ → Bool
not_left m a b k = not (left_of (mark m a) (mark m b) (mark m k))

unfoldable pub not_right : List ℤ → ℕ → ℕ → ℕ → Bool
not_right m a b k = not (right_of (mark m a) (mark m b) (mark m k))

unfoldable pub one_sided : List ℤ → ℕ → ℕ → Bool
one_sided m a b = cond (every_mark m (not_left m a b)) true (every_mark m (not_right m a b))

unfoldable pub hull_edge : List ℤ → ℕ → ℕ → Bool
hull_edge m a b = cond (empty_edge m a b) (one_sided m a b) false

unfoldable pub inner_edge : List ℤ → ℕ → ℕ → Bool
inner_edge m a b = cond (empty_edge m a b) (not (one_sided m a b)) false

unfoldable pub kind_of : List ℤ → ℕ → ℕ → Kind
kind_of m a b = cond (empty_edge m a b) (cond (one_sided m a b) Hull Inner) Blocked
