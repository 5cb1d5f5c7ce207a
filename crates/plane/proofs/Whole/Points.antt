-- The ring solver over points of the plane. An expression names points by number and has doubled areas as
-- atoms, so that a goal about `area2` is met with `area2` shut:
--
--     four-points : (a b c d : Point) → area2 a b c ≡ area2 d b c +ℤ area2 a d c +ℤ area2 a b d
--     four-points a b c d = geo (a ∷ b ∷ c ∷ d ∷ []) (D 0 1 2) (D 3 1 2 ⊕ D 0 3 2 ⊕ D 0 1 3) tt
--
-- A number takes part as the point `number z`, whose `X` is z: `geo (p ∷ number z ∷ []) (X 1 ⊗ Y 0) ..`.
-- Assumes nothing.
use mathlib.Core.Path.{◌≡◌, refl, sym, ◌∙◌, ap, ap₂}
use mathlib.Core.List.{List, [], ◌∷◌}
use Prim.Native.Nat.{ℕ, zero, suc}
use lib.Dec.{T}
use lib.IntN.{ℤ, pos, neg_ℤ, ◌+ℤ◌, ◌-ℤ◌, ◌*ℤ◌}
use Rattle.plane.proofs.Whole.Ring as R
use Rattle.plane.proofs.Whole.Ring.{Expr, eval, norm, is_nil, solve}
use Rattle.plane.specs.declared.marks.Point.{Point}
use Rattle.plane.specs.Side.{area2}

abbrev pub number : ℤ → Point
number z = record { x = z; y = pos 0 }

infixl 6 ◌⊕◌ ◌⊖◌
infixl 7 ◌⊗◌
-- the coordinates of the point i, the doubled area of three points, and the ring's operations
pub data GExpr : Type 0 where
  X Y : ℕ → GExpr
  D : ℕ → ℕ → ℕ → GExpr
  lit : ℤ → GExpr
  neg : GExpr → GExpr
  ◌⊕◌ ◌⊖◌ ◌⊗◌ : GExpr → GExpr → GExpr

abbrev pub point : List Point → ℕ → Point
point [] n = number (pos 0)
point (p ∷ ps) zero = p
point (p ∷ ps) (suc n) = point ps n

-- what an expression means over the points ps: it computes to the text of the goal
abbrev pub meaning : List Point → GExpr → ℤ
meaning ps (X i) = (point ps i).x
meaning ps (Y i) = (point ps i).y
meaning ps (D i j k) = area2 (point ps i) (point ps j) (point ps k)
meaning ps (lit z) = z
meaning ps (neg a) = neg_ℤ (meaning ps a)
meaning ps (a ⊕ b) = meaning ps a +ℤ meaning ps b
meaning ps (a ⊖ b) = meaning ps a -ℤ meaning ps b
meaning ps (a ⊗ b) = meaning ps a *ℤ meaning ps b

-- ---- the same expression over the coordinates: 2i and 2i + 1 are the point i's
abbrev pub double : ℕ → ℕ → ℕ
double k zero = k
double k (suc i) = suc (suc (double k i))

abbrev pub code : GExpr → Expr
code (X i) = R.var (double 0 i)
code (Y i) = R.var (double 1 i)
code (D i j k) =
    R.◌⊖◌
    (R.◌⊗◌ (R.◌⊖◌ (R.var (double 0 j)) (R.var (double 0 i))) (R.◌⊖◌ (R.var (double 1 k)) (R.var (double 1 i))))
    (R.◌⊗◌ (R.◌⊖◌ (R.var (double 1 j)) (R.var (double 1 i))) (R.◌⊖◌ (R.var (double 0 k)) (R.var (double 0 i))))
code (lit z) = R.lit z
code (neg a) = R.neg (code a)
code (a ⊕ b) = R.◌⊕◌ (code a) (code b)
code (a ⊖ b) = R.◌⊖◌ (code a) (code b)
code (a ⊗ b) = R.◌⊗◌ (code a) (code b)

value : List Point → ℕ → ℤ
value [] n = pos 0
value (p ∷ ps) zero = p.x
value (p ∷ ps) (suc zero) = p.y
value (p ∷ ps) (suc (suc n)) = value ps n

value_x : (ps : List Point) (i : ℕ) → value ps (double 0 i) ≡ (point ps i).x
unfolding value
value_x [] i = refl
value_x (p ∷ ps) zero = refl
value_x (p ∷ ps) (suc i) = value_x ps i

value_y : (ps : List Point) (i : ℕ) → value ps (double 1 i) ≡ (point ps i).y
unfolding value
value_y [] i = refl
value_y (p ∷ ps) zero = refl
value_y (p ∷ ps) (suc i) = value_y ps i

module _ (ps : List Point) where
  code_sound : (e : GExpr) → eval (value ps) (code e) ≡ meaning ps e
  unfolding area2
  code_sound (X i) = value_x ps i
  code_sound (Y i) = value_y ps i
  code_sound (D i j k) = λ t. (value_x ps j t -ℤ value_x ps i t) *ℤ (value_y ps k t -ℤ value_y ps i t) -ℤ (value_y ps j t -ℤ value_y ps i t) *ℤ (value_x ps k t -ℤ value_x ps i t)
  code_sound (lit z) = refl
  code_sound (neg a) = ap neg_ℤ (code_sound a)
  code_sound (a ⊕ b) = ap₂ (λ u v. u +ℤ v) (code_sound a) (code_sound b)
  code_sound (a ⊖ b) = ap₂ (λ u v. u -ℤ v) (code_sound a) (code_sound b)
  code_sound (a ⊗ b) = ap₂ (λ u v. u *ℤ v) (code_sound a) (code_sound b)

  -- two expressions with one normal form mean the same
  pub geo : (a b : GExpr) → T (is_nil (norm (code (a ⊖ b)))) → meaning ps a ≡ meaning ps b
  geo a b t = sym (code_sound a) ∙ solve (value ps) (code a) (code b) t ∙ code_sound b

-- ---- the first equations: the three points in a cycle, two of them exchanged, two of them one
pub area2_cycle : (p q r : Point) → area2 p q r ≡ area2 q r p
area2_cycle p q r = geo (p ∷ q ∷ r ∷ []) (D 0 1 2) (D 1 2 0) tt

pub area2_swap : (p q r : Point) → neg_ℤ (area2 p q r) ≡ area2 q p r
area2_swap p q r = geo (p ∷ q ∷ r ∷ []) (neg (D 0 1 2)) (D 1 0 2) tt

pub area2_same : (p q : Point) → area2 p p q ≡ pos 0
area2_same p q = geo (p ∷ q ∷ []) (D 0 0 1) (lit (pos 0)) tt
