-- Two edges of one line. c to d goes along a to b or against it, by the sign of (b - a) · (d - c); what lies right of a to b, or on the
-- line, lies so to an edge that goes along it. Assumes nothing.
use mathlib.Core.Path.{◌≡◌, sym, subst}
use mathlib.Core.List.{[], ◌∷◌}
use Prim.Native.Nat.{ℕ}
use lib.IntN.{ℤ, ◌+ℤ◌, ◌-ℤ◌, ◌*ℤ◌}
use lib.Signed.{le_z_yes}
use Rattle.plane.specs.declared.marks.Point.{Point}
use Rattle.plane.specs.Weight.{weight}
use Rattle.plane.proofs.Whole.Order.{NonNeg, Sign, plus, null, minus, sign, pos→nn, nn_eq}
use Rattle.plane.proofs.Whole.Points.{X, Y, D, GExpr, neg, ◌⊕◌, ◌⊖◌, ◌⊗◌, geo}
use Rattle.plane.proofs.Whole.Signs.{hyp, hyp≥, hyp0, ◌⊹◌, ◌⊛◌, divide≥}
use Rattle.plane.proofs.Laws.Side.{N, Z}
use Rattle.plane.proofs.Laws.Weight.{weight_positive}

-- (b - a) · (d - c)
abbrev along : Point → Point → Point → Point → ℤ
along a b c d = (b.x -ℤ a.x) *ℤ (d.x -ℤ c.x) +ℤ (b.y -ℤ a.y) *ℤ (d.y -ℤ c.y)

abbrev along_e : ℕ → ℕ → ℕ → ℕ → GExpr
along_e i j k l = (X j ⊖ X i) ⊗ (X l ⊖ X k) ⊕ (Y j ⊖ Y i) ⊗ (Y l ⊖ Y k)

pub data Along (a b c d : Point) : Type 0 where
  onward : NonNeg (along a b c d) → Along a b c d
  backward : NonNeg (along a b d c) → Along a b c d

pub along? : (a b c d : Point) → Along a b c d
along? a b c d = go (sign (along a b c d))
  where
    go : Sign (along a b c d) → Along a b c d
    go (plus h) = onward (pos→nn h)
    go (null e) = onward (subst (λ z. NonNeg z) (sym e) (le_z_yes tt))
    go (minus h) = backward (nn_eq (pos→nn h) (geo (a ∷ b ∷ c ∷ d ∷ []) (neg (along_e 0 1 2 3)) (along_e 0 1 3 2) tt))

-- with e = b - a, f = d - c, w = r - c: (e · e) (f × w) = (e · f) (e × w) - (e × f) (e · w), and e × f is 0
pub along_side : {a b c d r : Point} → ¬ (a ≡ b) → NonNeg (along a b c d) → Z a b c → Z a b d → N b a r → N d c r
unfolding weight
along_side {a} {b} {c} {d} {r} x u zc zd h =
    record {
      n =
          divide≥ (a ∷ b ∷ c ∷ d ∷ r ∷ [])
          (hyp (along_e 0 1 0 1) (weight_positive a b x))
          (hyp≥ (along_e 0 1 2 3) u ⊛ hyp≥ (D 1 0 4) h.n ⊹ hyp0 (along_e 0 1 2 3 ⊖ along_e 0 1 2 4) (D 0 1 2) zc.z ⊹ hyp0 (along_e 0 1 2 4) (D 0 1 3) zd.z)
          (D 3 2 4) tt;
    }
