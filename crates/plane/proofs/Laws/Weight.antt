-- Rule 2's laws: a weight is the same from either end, not below 0, and at most 800,000,000. Assumes nothing.
use mathlib.Core.Path.{◌≡◌, sym, ap}
use mathlib.Core.List.{[], ◌∷◌}
use lib.IntN.{ℤ, pos, neg_ℤ, ◌+ℤ◌, ◌-ℤ◌, ◌*ℤ◌}
use Rattle.plane.specs.declared.marks.Point.{Point}
use Rattle.plane.specs.Marks.{Near, InRange}
use Rattle.plane.specs.Weight.{weight}
use Rattle.plane.proofs.Whole.Order.{Pos, NonNeg, Sign, plus, null, minus, sign, add_nn, add_pos_nn, add_nn_pos, mul_pos, square_nn, pos_eq, pos_not_zero}
use Rattle.plane.proofs.Whole.Integers.{eq_of_sub}
use Rattle.plane.proofs.Whole.Points.{number, X, Y, neg, ◌⊕◌, ◌⊖◌, ◌⊗◌, geo}
use Rattle.plane.proofs.Laws.Bounds.{add_in, sub_in, mul_in}
use Rattle.plane.proofs.Laws.Marks.{point_eq}

pub weight_swap : (a b : Point) → weight a b ≡ weight b a
unfolding weight
weight_swap a b =
    geo (a ∷ b ∷ [])
    ((X 1 ⊖ X 0) ⊗ (X 1 ⊖ X 0) ⊕ (Y 1 ⊖ Y 0) ⊗ (Y 1 ⊖ Y 0))
    ((X 0 ⊖ X 1) ⊗ (X 0 ⊖ X 1) ⊕ (Y 0 ⊖ Y 1) ⊗ (Y 0 ⊖ Y 1)) tt

pub weight_not_negative : (a b : Point) → NonNeg (weight a b)
unfolding weight
weight_not_negative a b = add_nn (square_nn (b.x -ℤ a.x)) (square_nn (b.y -ℤ a.y))

pub weight_small : {a b : Point} → InRange a → InRange b → Near 800000000 (weight a b)
unfolding weight
weight_small h k =
    let dx = sub_in k.near_x h.near_x in
    let dy = sub_in k.near_y h.near_y in
    add_in (mul_in dx dx) (mul_in dy dy)

-- two points that differ have a weight above 0
pub weight_positive : (a b : Point) → ¬ (a ≡ b) → Pos (weight a b)
unfolding weight
weight_positive a b d = go (sign (b.x -ℤ a.x)) (sign (b.y -ℤ a.y))
  where
    square : (z : ℤ) → ¬ (z ≡ pos 0) → Pos (z *ℤ z)
    square z n = split (sign z)
      where
        split : Sign z → Pos (z *ℤ z)
        split (plus h) = mul_pos h h
        split (null h) = absurd (n h)
        split (minus h) = pos_eq (mul_pos h h) (geo (number z ∷ []) (neg (X 0) ⊗ neg (X 0)) (X 0 ⊗ X 0) tt)

    go : Sign (b.x -ℤ a.x) → Sign (b.y -ℤ a.y) → Pos ((b.x -ℤ a.x) *ℤ (b.x -ℤ a.x) +ℤ (b.y -ℤ a.y) *ℤ (b.y -ℤ a.y))
    go (null e) (null f) = absurd (d (sym (point_eq (eq_of_sub b.x a.x e) (eq_of_sub b.y a.y f))))
    go (plus h) s = add_pos_nn (mul_pos h h) (square_nn (b.y -ℤ a.y))
    go (minus h) s = add_pos_nn (square (b.x -ℤ a.x) (λ e. pos_not_zero h (ap neg_ℤ e))) (square_nn (b.y -ℤ a.y))
    go (null e) (plus h) = add_nn_pos (square_nn (b.x -ℤ a.x)) (mul_pos h h)
    go (null e) (minus h) = add_nn_pos (square_nn (b.x -ℤ a.x)) (square (b.y -ℤ a.y) (λ e. pos_not_zero h (ap neg_ℤ e)))
