-- Rule 1's laws. Where a point lies to a line, as records over three points, so that a law's points are implicit and no sign is negative:
-- `L p q r`: r strictly left of p to q; `N p q r`: left or on the line; `Z p q r`: on the line. Right of p to q is left of q to p.
-- Assumes nothing.
use mathlib.Core.Path.{◌≡◌, refl, sym, ◌∙◌, ap, subst}
use mathlib.Core.List.{[], ◌∷◌}
use Prim.Native.Nat.{zero, suc, zero-le, suc-le-suc}
use borrow.Author.Tests.{lt-ltb, le-ltb}
use lib.Dec.{T, lt→ltb}
use lib.IntN.{ℤ, pos, negsuc, neg_ℤ}
use lib.Signed.{le_z_yes, lt_z_yes}
use Rattle.plane.specs.declared.marks.Point.{Point}
use Rattle.plane.specs.Side.{area2, sign, side, is_left, is_right, is_on, left_of, right_of, on_line, same_side, opposite}
use Rattle.plane.proofs.Whole.Order.{Pos, NonNeg, Sign, plus, null, minus, pos→nn, pos_eq, nn_eq, pos_not_zero, not_both}
use Rattle.plane.proofs.Whole.Order as order
use Rattle.plane.proofs.Whole.Points.{area2_cycle, area2_swap, D, lit, geo}
use Rattle.plane.proofs.Laws.Tells.{Tells, tells_map}

pub record L (p q r : Point) : Type 0 where
  pub l : Pos (area2 p q r)

pub record N (p q r : Point) : Type 0 where
  pub n : NonNeg (area2 p q r)

pub record Z (p q r : Point) : Type 0 where
  pub z : area2 p q r ≡ pos 0

-- ---- the three sides, and the two halves
pub data Where (p q r : Point) : Type 0 where
  left : L p q r → Where p q r
  on : Z p q r → Where p q r
  right : L q p r → Where p q r

pub data Half (p q r : Point) : Type 0 where
  over : L p q r → Half p q r
  under : N q p r → Half p q r

pub where? : {p q r : Point} → Where p q r
where? {p} {q} {r} = go (order.sign (area2 p q r))
  where
    go : Sign (area2 p q r) → Where p q r
    go (plus h) = left (record { l = h })
    go (null h) = on (record { z = h })
    go (minus h) = right (record { l = pos_eq h (area2_swap p q r) })

-- ---- turn the three points, weaken, exchange two
pub rot : {p q r : Point} → L p q r → L q r p
rot {p} {q} {r} h = record { l = pos_eq h.l (area2_cycle p q r) }

pub rot² : {p q r : Point} → L p q r → L r p q
rot² h = rot (rot h)

pub nrot : {p q r : Point} → N p q r → N q r p
nrot {p} {q} {r} h = record { n = nn_eq h.n (area2_cycle p q r) }

pub nrot² : {p q r : Point} → N p q r → N r p q
nrot² h = nrot (nrot h)

pub zrot : {p q r : Point} → Z p q r → Z q r p
zrot {p} {q} {r} h = record { z = sym (area2_cycle p q r) ∙ h.z }

pub zrot² : {p q r : Point} → Z p q r → Z r p q
zrot² h = zrot (zrot h)

pub zswap : {p q r : Point} → Z p q r → Z q p r
zswap {p} {q} {r} h = record { z = sym (area2_swap p q r) ∙ ap neg_ℤ h.z }

pub weak : {p q r : Point} → L p q r → N p q r
weak h = record { n = pos→nn h.l }

pub flat : {p q r : Point} → Z p q r → N p q r
flat {p} {q} {r} h = record { n = subst (λ z. NonNeg z) (sym h.z) (le_z_yes tt) }

-- ---- what cannot be
pub clash : {A : Type 0} {p q r : Point} → L p q r → N q p r → A
clash {A} {p} {q} {r} h k = absurd (not_both h.l (nn_eq k.n (sym (area2_swap p q r))))

pub off : {A : Type 0} {p q r : Point} → L p q r → Z p q r → A
off h k = absurd (pos_not_zero h.l k.z)

-- two of the points are one
pub same : {A : Type 0} {p q : Point} → L p p q → A
same {A} {p} {q} h = absurd (pos_not_zero h.l (geo (p ∷ q ∷ []) (D 0 0 1) (lit (pos 0)) tt))

pub zsame : {p q : Point} → Z p p q
zsame {p} {q} = record { z = geo (p ∷ q ∷ []) (D 0 0 1) (lit (pos 0)) tt }

-- ---- decisions
pub half : {p q r : Point} → Half p q r
half {p} {q} {r} = go where?
  where
    go : Where p q r → Half p q r
    go (left h) = over h
    go (on h) = under (flat (zswap h))
    go (right h) = under (weak h)

-- strictly left, or on the line
pub data Edge? (p q r : Point) : Type 0 where
  inner : L p q r → Edge? p q r
  border : Z p q r → Edge? p q r

pub border? : {p q r : Point} → N p q r → Edge? p q r
border? {p} {q} {r} h = go where?
  where
    go : Where p q r → Edge? p q r
    go (left k) = inner k
    go (on k) = border k
    go (right k) = clash k h

-- ---- what the tests tell
left_tells : (z : ℤ) → Tells (is_left z) (Pos z)
unfolding is_left
left_tells z = record { to = λ t. lt_z_yes t; from = λ h. h.lt }

right_tells : (z : ℤ) → Tells (is_right z) (Pos (neg_ℤ z))
unfolding is_right
right_tells (pos zero) = record { to = λ t. absurd t; from = λ h. h.lt }
right_tells (pos (suc n)) = record { to = λ t. absurd (subst T (le-ltb (suc n) 0 zero-le) t); from = λ h. absurd h.lt }
right_tells (negsuc n) = record { to = λ t. lt_z_yes (lt→ltb 0 (suc n) (suc-le-suc zero-le)); from = λ h. tt }

pub on_tells : (z : ℤ) → Tells (is_on z) (z ≡ pos 0)
unfolding is_on
on_tells (pos zero) = record { to = λ t. refl; from = λ e. tt }
on_tells (pos (suc n)) = record { to = λ t. absurd t; from = λ e. subst (λ s. T (is_on s)) (sym e) tt }
on_tells (negsuc n) = record { to = λ t. absurd t; from = λ e. subst (λ s. T (is_on s)) (sym e) tt }

module _ {p q r : Point} where
  pub left_of_tells : Tells (left_of p q r) (L p q r)
  left_of_tells = tells_map (λ h. record { l = h }) (λ h. h.l) (left_tells (area2 p q r))

  pub right_of_tells : Tells (right_of p q r) (L q p r)
  right_of_tells = tells_map (λ h. record { l = pos_eq h (area2_swap p q r) }) (λ h. pos_eq h.l (sym (area2_swap p q r))) (right_tells (area2 p q r))

  pub on_line_tells : Tells (on_line p q r) (Z p q r)
  on_line_tells = tells_map (λ h. record { z = h }) (λ h. h.z) (on_tells (area2 p q r))

-- ---- an answer of the side test is read as the area would be: the one place that knows what the side test answers
sign_left : (z : ℤ) → is_left (sign z) ≡ is_left z
unfolding is_left sign
sign_left (pos zero) = refl
sign_left (pos (suc n)) = sym (lt-ltb 0 (suc n) (suc-le-suc zero-le))
sign_left (negsuc n) = refl

sign_right : (z : ℤ) → is_right (sign z) ≡ is_right z
unfolding is_right sign
sign_right (pos zero) = refl
sign_right (pos (suc n)) = sym (le-ltb (suc n) 0 zero-le)
sign_right (negsuc n) = refl

sign_on : (z : ℤ) → is_on (sign z) ≡ is_on z
unfolding is_on sign
sign_on (pos zero) = refl
sign_on (pos (suc n)) = refl
sign_on (negsuc n) = refl

module _ (p q r : Point) where
  pub side_left : is_left (side p q r) ≡ left_of p q r
  unfolding side
  side_left = sign_left (area2 p q r)

  pub side_right : is_right (side p q r) ≡ right_of p q r
  unfolding side
  side_right = sign_right (area2 p q r)

  pub side_on : is_on (side p q r) ≡ on_line p q r
  unfolding side
  side_on = sign_on (area2 p q r)

module _ (p q r p' q' r' : Point) where
  pub side_same : same_side (side p q r) (side p' q' r') ≡ same_side (area2 p q r) (area2 p' q' r')
  unfolding same_side
  side_same = simp (side_left p q r, side_left p' q' r', side_right p q r, side_right p' q' r')

  pub side_opposite : opposite (side p q r) (side p' q' r') ≡ opposite (area2 p q r) (area2 p' q' r')
  unfolding opposite
  side_opposite = simp (side_left p q r, side_left p' q' r', side_right p q r, side_right p' q' r')

-- ---- rule 1: the side test keeps its answer when its points rotate, and changes its sign when two are exchanged
sign_neg : (z : ℤ) → sign (neg_ℤ z) ≡ neg_ℤ (sign z)
unfolding sign
sign_neg (pos zero) = refl
sign_neg (pos (suc n)) = refl
sign_neg (negsuc n) = refl

module _ (p q r : Point) where
  pub side_rotate : side q r p ≡ side p q r
  unfolding side
  side_rotate = ap sign (sym (area2_cycle p q r))

  pub side_swap : side q p r ≡ neg_ℤ (side p q r)
  unfolding side
  side_swap = ap sign (sym (area2_swap p q r)) ∙ sign_neg (area2 p q r)

-- the other two exchanges
module _ (p q r : Point) where
  pub side_swap_last : side p r q ≡ neg_ℤ (side p q r)
  side_swap_last = side_rotate q p r ∙ side_swap p q r

  pub side_swap_outer : side r q p ≡ neg_ℤ (side p q r)
  side_swap_outer = side_rotate p r q ∙ side_swap_last
