-- Rule 3's segment, `On a b k`: k is on the line through a and b, and (a - k) · (b - k) is not above 0. And what that says by sides
-- alone: with a point c off the line, "strictly between" is: left of c's two sides. Nothing else of the plane needs coordinates.
-- Assumes nothing.
use mathlib.Core.Path.{◌≡◌}
use mathlib.Core.List.{[], ◌∷◌}
use Prim.Native.Nat.{ℕ}
use lib.IntN.{pos, negsuc}
use lib.Signed.{◌≤ℤ◌, le_z_yes}
use Rattle.plane.specs.declared.marks.Point.{Point}
use Rattle.plane.specs.Edge.{dot, between, on_segment}
use Rattle.plane.proofs.Whole.Order.{sub→le}
use Rattle.plane.proofs.Whole.Points.{X, Y, D, GExpr, lit, neg, ◌⊕◌, ◌⊖◌, ◌⊗◌, geo}
use Rattle.plane.proofs.Whole.Signs.{hyp, hyp≥, hyp0, hyp≤, sq, ◌⊹◌, ◌⊛◌, conclude, divide≥, equate, at_most, refute}
use Rattle.plane.proofs.Laws.Marks.{point_eq}
use Rattle.plane.proofs.Laws.Tells.{Tells, tells_map, tells_and, tells_same}
use Rattle.plane.proofs.Laws.Side.{L, N, Z, Half, over, under, half, rot, zrot, zrot², zswap, Edge?, inner, border, border?, on_line_tells}

pub record On (a b k : Point) : Type 0 where
  pub line : Z a b k
  pub between : dot k a b ≤ℤ pos 0

-- its expression, by the numbers of the points
abbrev dot_e : ℕ → ℕ → ℕ → GExpr
dot_e k i j = (X i ⊖ X k) ⊗ (X j ⊖ X k) ⊕ (Y i ⊖ Y k) ⊗ (Y j ⊖ Y k)

-- ---- two lines that are not parallel meet once
pub meet : {a b c k : Point} → L a b c → Z a b k → Z a c k → k ≡ a
meet {a} {b} {c} {k} h e f =
    point_eq
    (equate (a ∷ b ∷ c ∷ k ∷ []) (hyp (D 0 1 2) h.l) (hyp0 (X 2 ⊖ X 0) (D 0 1 3) e.z ⊹ hyp0 (X 0 ⊖ X 1) (D 0 2 3) f.z) (X 3) (X 0) tt)
    (equate (a ∷ b ∷ c ∷ k ∷ []) (hyp (D 0 1 2) h.l) (hyp0 (Y 2 ⊖ Y 0) (D 0 1 3) e.z ⊹ hyp0 (Y 0 ⊖ Y 1) (D 0 2 3) f.z) (Y 3) (Y 0) tt)

-- ---- by sides: with c left of a b, a point of the line with c left of a k and of k b is on the segment.
-- With D = [abc], α = [akc], β = [kbc], w = [abk], A, B, C the ways from k: D² (A·B) + α β |b - a|² = w ((2 (α + β) + w) A·B - α A·C - β B·C)
pub on_of : {a b c k : Point} → L a b c → Z a b k → N a k c → N k b c → On a b k
unfolding dot
on_of {a} {b} {c} {k} h e f g = record {
  line = e;
  between = sub→le (divide≥ (a ∷ b ∷ c ∷ k ∷ [])
      (hyp (D 0 1 2) h.l ⊛ hyp (D 0 1 2) h.l)
      (hyp≥ (D 0 3 2) f.n ⊛ hyp≥ (D 3 1 2) g.n ⊛ (sq (X 1 ⊖ X 0) ⊹ sq (Y 1 ⊖ Y 0))
      ⊹ hyp0 (neg ((lit (pos 2) ⊗ (D 0 3 2 ⊕ D 3 1 2) ⊕ D 0 1 3) ⊗ dot_e 3 0 1 ⊖ D 0 3 2 ⊗ dot_e 3 0 2 ⊖ D 3 1 2 ⊗ dot_e 3 1 2)) (D 0 1 3) e.z)
      (lit (pos 0) ⊖ dot_e 3 0 1) tt);
}

-- and the other way round: c is not right of a k. Were it so, β (α² + (A·C)²) + (-α) (-(A·B)) |C|² = - w (A·C) |C|²
on_near : {a b c k : Point} → L a b c → On a b k → N a k c
unfolding dot
on_near {a} {b} {c} {k} h o = go half
  where
    beta : L k a c → L k b c
    beta f = record { l = conclude (a ∷ b ∷ c ∷ k ∷ []) (hyp (D 0 1 2) h.l ⊹ hyp (D 3 0 2) f.l ⊹ hyp0 (lit (negsuc 0)) (D 0 1 3) o.line.z) (D 3 1 2) tt }

    go : Half k a c → N a k c
    go (under f) = f
    go (over f) = absurd (refute (a ∷ b ∷ c ∷ k ∷ [])
        (hyp (D 3 1 2) (beta f).l ⊛ hyp (D 3 0 2) f.l ⊛ hyp (D 3 0 2) f.l ⊹ hyp (D 3 1 2) (beta f).l ⊛ sq (dot_e 3 0 2)
        ⊹ hyp (D 3 0 2) f.l ⊛ hyp≤ (dot_e 3 0 1) (lit (pos 0)) o.between ⊛ (sq (X 2 ⊖ X 3) ⊹ sq (Y 2 ⊖ Y 3))
        ⊹ hyp0 (dot_e 3 0 2 ⊗ dot_e 3 2 2) (D 0 1 3) o.line.z) tt)

on_far : {a b c k : Point} → L a b c → On a b k → N k b c
unfolding dot
on_far {a} {b} {c} {k} h o = go half
  where
    alpha : L b k c → L a k c
    alpha f = record { l = conclude (a ∷ b ∷ c ∷ k ∷ []) (hyp (D 0 1 2) h.l ⊹ hyp (D 1 3 2) f.l ⊹ hyp0 (lit (negsuc 0)) (D 0 1 3) o.line.z) (D 0 3 2) tt }

    go : Half b k c → N k b c
    go (under f) = f
    go (over f) = absurd (refute (a ∷ b ∷ c ∷ k ∷ [])
        (hyp (D 0 3 2) (alpha f).l ⊛ hyp (D 1 3 2) f.l ⊛ hyp (D 1 3 2) f.l ⊹ hyp (D 0 3 2) (alpha f).l ⊛ sq (dot_e 3 1 2)
        ⊹ hyp (D 1 3 2) f.l ⊛ hyp≤ (dot_e 3 0 1) (lit (pos 0)) o.between ⊛ (sq (X 2 ⊖ X 3) ⊹ sq (Y 2 ⊖ Y 3))
        ⊹ hyp0 (dot_e 3 1 2 ⊗ dot_e 3 2 2) (D 0 1 3) o.line.z) tt)

-- what lies on the segment and is no end of it is strictly between
pub on_inner : {a b c k : Point} → L a b c → On a b k → ¬ (k ≡ a) → L a k c
on_inner {a} {b} {c} {k} h o e = go (border? (on_near h o))
  where
    go : Edge? a k c → L a k c
    go (inner f) = f
    go (border f) = absurd (e (meet h o.line (zswap (zrot² f))))

pub on_outer : {a b c k : Point} → L a b c → On a b k → ¬ (k ≡ b) → L k b c
on_outer {a} {b} {c} {k} h o e = go (border? (on_far h o))
  where
    go : Edge? k b c → L k b c
    go (inner f) = f
    go (border f) = absurd (e (meet (rot h) (zrot f) (zswap o.line)))

-- ---- the segment from either end
pub on_flip : {a b k : Point} → On a b k → On b a k
unfolding dot
on_flip {a} {b} {k} o = record { line = zswap o.line; between = at_most (a ∷ b ∷ k ∷ []) (hyp≤ (dot_e 2 0 1) (lit (pos 0)) o.between) (dot_e 2 1 0) (lit (pos 0)) tt }

-- ---- what the test tells
pub on_segment_tells : (a b k : Point) → Tells (on_segment a b k) (On a b k)
unfolding on_segment between
on_segment_tells a b k =
    tells_map (λ h. record { line = h.0; between = h.1 }) (λ o. (o.line, o.between))
    (tells_and on_line_tells (record { to = λ t. le_z_yes t; from = λ h. h.le }))

pub on_segment_swap : (a b k : Point) → on_segment a b k ≡ on_segment b a k
on_segment_swap a b k = tells_same (on_segment_tells a b k) (on_segment_tells b a k) on_flip on_flip

-- an end lies on the segment
pub on_end : {a b : Point} → On a b a
unfolding dot
on_end {a} {b} =
    record {
      line = record { z = geo (a ∷ b ∷ []) (D 0 1 0) (lit (pos 0)) tt };
      between = at_most (a ∷ b ∷ []) (hyp0 (lit (pos 1)) (dot_e 0 0 1) (geo (a ∷ b ∷ []) (dot_e 0 0 1) (lit (pos 0)) tt)) (dot_e 0 0 1) (lit (pos 0)) tt;
    }
