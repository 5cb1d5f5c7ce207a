-- What the code's questions about a side tell: `side` answers a sign, and each question reads it as it would read the area. Assumes nothing.
use mathlib.Core.Path.{◌≡◌, refl, ◌∙◌, ap, ap₂}
use mathlib.Core.Bool.{Bool}
use lib.IntN.{ℤ, pos, negsuc}
use Prim.Native.Nat.{zero, suc}
use native.Mathlib.Omega.{arith}
use mir.Syntax.{w32}
use mir.Val.{SFits}
use Rattle.std.specs.Int.{int_signum}
use Rattle.plane.specs.declared.marks.Point.{Point}
use Rattle.plane.specs.Side.{area2, sign, side, is_left, is_right, is_on, left_of, right_of, on_line, same_side, opposite}
use Rattle.plane.proofs.Laws.Bounds.{back, rd}
use Rattle.plane.proofs.Laws.Side.{side_left, side_right, side_on, side_same, side_opposite}

-- the library's sign is ours
pub signum_sign : (z : ℤ) → int_signum z ≡ sign z
unfolding sign
signum_sign (pos zero) = refl
signum_sign (pos (suc n)) = ap pos (omega arith)
signum_sign (negsuc n) = refl

-- an answer of `side`, as the next call takes it; and at points that are known by other names
pub read : {z s : ℤ} → SFits w32 z → z ≡ s → rd z ≡ s
read f e = back f ∙ e

pub side_at : {p q r p' q' r' : Point} → p ≡ p' → q ≡ q' → r ≡ r' → side p q r ≡ side p' q' r'
side_at f g h i = side (f i) (g i) (h i)

module _ (p q r : Point) {z : ℤ} {b : Bool} (e : z ≡ side p q r) where
  pub asked_left : b ≡ is_left z → b ≡ left_of p q r
  asked_left h = h ∙ ap is_left e ∙ side_left p q r

  pub asked_right : b ≡ is_right z → b ≡ right_of p q r
  asked_right h = h ∙ ap is_right e ∙ side_right p q r

  pub asked_on : b ≡ is_on z → b ≡ on_line p q r
  asked_on h = h ∙ ap is_on e ∙ side_on p q r

module _ (p q r p' q' r' : Point) {y z : ℤ} {b : Bool} (e : y ≡ side p q r) (f : z ≡ side p' q' r') where
  pub asked_same : b ≡ same_side y z → b ≡ same_side (area2 p q r) (area2 p' q' r')
  asked_same h = h ∙ ap₂ same_side e f ∙ side_same p q r p' q' r'

  pub asked_opposite : b ≡ opposite y z → b ≡ opposite (area2 p q r) (area2 p' q' r')
  asked_opposite h = h ∙ ap₂ opposite e f ∙ side_opposite p q r p' q' r'
