-- Rule 6. "Three marks not on one line form an empty triangle if the three sides are empty edges and no mark lies strictly inside."
--   inside p q r k          k lies strictly inside the triangle p q r: left of p to q, q to r and r to p, or right of all three
--   outside m p q r k       mark k does not
--   hollow m p q r          no mark lies strictly inside
--   empty_triangle m p q r  rule 6
use Rattle.std.specs.Prelude.{Bool, false, not, cond, List, ℕ, ℤ}
use Rattle.plane.specs.declared.marks.Point.{Point}
use Rattle.plane.specs.Marks.{mark, every_mark}
use Rattle.plane.specs.Side.{left_of, right_of, on_line}
use Rattle.plane.specs.Edge.{empty_edge}

unfoldable pub inside : Point → Point → Point → Point → Bool
inside p q r k =
    cond (left_of p q k) (cond (left_of q r k) (left_of r p k) false)
    (cond (right_of p q k) (cond (right_of q r k) (right_of r p k) false) false)

unfoldable pub outside : List ℤ → ℕ → ℕ → ℕ → ℕ → Bool
outside m p q r k = not (inside (mark m p) (mark m q) (mark m r) (mark m k))

unfoldable pub hollow : List ℤ → ℕ → ℕ → ℕ → Bool
hollow m p q r = every_mark m (outside m p q r)

unfoldable pub empty_triangle : List ℤ → ℕ → ℕ → ℕ → Bool
empty_triangle m p q r =
    cond (on_line (mark m p) (mark m q) (mark m r)) false
    (cond (empty_edge m p q) (cond (empty_edge m q r) (cond (empty_edge m r p) (hollow m p q r) false) false) false)
