-- Sign lemmas by certificates. `Holds ps s e` says of the expression e over the points ps that it is positive (s is `strict`), not negative (`weak`) or zero (`none`).
-- Such facts are added (`⊹`) and multiplied (`⊛`). A sum of products that is, as a polynomial, the goal (`conclude`), or a positive multiple of the goal (`divide`), proves the goal:
--
--     interior p q r t h₁ h₂ h₃ = conclude (p ∷ q ∷ r ∷ t ∷ []) (hyp (D 0 1 3) h₁ ⊹ hyp (D 1 2 3) h₂ ⊹ hyp (D 2 0 3) h₃) (D 0 1 2) tt
--
-- Assumes nothing.
use mathlib.Core.Path.{◌≡◌, sym, ◌∙◌, ap, subst}
use mathlib.Core.List.{List}
use Prim.Native.Nat.{ℕ, suc, zero-le, suc-le-suc}
use lib.Dec.{T, lt→ltb}
use lib.IntN.{ℤ, pos, ◌+ℤ◌, ◌*ℤ◌, *ℤ-zero, zero-*ℤ, +ℤ_idl}
use lib.Signed.{◌≤ℤ◌, ◌<ℤ◌, lt_z_yes, le_z_yes}
use Rattle.plane.proofs.Whole.Integers.{eq_of_sub}
use Rattle.plane.proofs.Whole.Ring.{norm, is_nil}
use Rattle.plane.proofs.Whole.Order.{Pos, NonNeg, pos_eq, nn_eq, pos→nn, add_pos_nn, add_nn_pos, add_nn, mul_pos, mul_nn, cancel_pos, cancel_nn, cancel_zero, pos_not_zero, square_nn, lt→sub, sub→lt, le→sub, sub→le}
use Rattle.plane.proofs.Whole.Points.{GExpr, lit, ◌⊕◌, ◌⊖◌, ◌⊗◌, meaning, code, geo}
use Rattle.plane.specs.declared.marks.Point.{Point}

pub data Sgn : Type 0 where
  strict weak none : Sgn

abbrev pub Sg : Sgn → ℤ → Type 0
Sg strict z = Pos z
Sg weak z = NonNeg z
Sg none z = z ≡ pos 0

-- the sign of a sum and of a product
infixl 6 ◌+ₛ◌
infixl 7 ◌*ₛ◌
abbrev pub ◌+ₛ◌ : Sgn → Sgn → Sgn
strict +ₛ t = strict
weak +ₛ strict = strict
weak +ₛ weak = weak
weak +ₛ none = weak
none +ₛ t = t

abbrev pub ◌*ₛ◌ : Sgn → Sgn → Sgn
strict *ₛ t = t
weak *ₛ strict = weak
weak *ₛ weak = weak
weak *ₛ none = none
none *ₛ t = none

pub record Holds (ps : List Point) (s : Sgn) (e : GExpr) : Type 0 where
  pub sure : Sg s (meaning ps e)

sg_weak : (s : Sgn) (a : ℤ) → Sg s a → NonNeg a
sg_weak strict a h = pos→nn h
sg_weak weak a h = h
sg_weak none a h = subst (λ z. NonNeg z) (sym h) (le_z_yes tt)

sg_add : (s t : Sgn) (a b : ℤ) → Sg s a → Sg t b → Sg (s +ₛ t) (a +ℤ b)
sg_add strict t a b h k = add_pos_nn h (sg_weak t b k)
sg_add weak strict a b h k = add_nn_pos h k
sg_add weak weak a b h k = add_nn h k
sg_add weak none a b h k = add_nn h (sg_weak none b k)
sg_add none t a b h k = subst (λ z. Sg t z) (sym (ap (λ z. z +ℤ b) h ∙ +ℤ_idl b)) k

sg_mul : (s t : Sgn) (a b : ℤ) → Sg s a → Sg t b → Sg (s *ₛ t) (a *ℤ b)
sg_mul strict strict a b h k = mul_pos h k
sg_mul strict weak a b h k = mul_nn (pos→nn h) k
sg_mul strict none a b h k = ap (λ z. a *ℤ z) k ∙ *ℤ-zero a
sg_mul weak strict a b h k = mul_nn h (pos→nn k)
sg_mul weak weak a b h k = mul_nn h k
sg_mul weak none a b h k = ap (λ z. a *ℤ z) k ∙ *ℤ-zero a
sg_mul none t a b h k = ap (λ z. z *ℤ b) h ∙ zero-*ℤ b

infixl 6 ◌⊹◌
infixl 7 ◌⊛◌
-- ---- the facts to start from
-- a hypothesis: positive, not negative; k times what is zero, for any k; an order a < b or a ≤ b as the sign of b - a; an equation a ≡ b, times any k
pub hyp : {ps : List Point} (e : GExpr) → Pos (meaning ps e) → Holds ps strict e
hyp e h = record { sure = h }

pub hyp≥ : {ps : List Point} (e : GExpr) → NonNeg (meaning ps e) → Holds ps weak e
hyp≥ e h = record { sure = h }

pub hyp0 : {ps : List Point} (k e : GExpr) → meaning ps e ≡ pos 0 → Holds ps none (k ⊗ e)
hyp0 {ps} k e h = record { sure = ap (λ z. meaning ps k *ℤ z) h ∙ *ℤ-zero (meaning ps k) }

pub hyp< : {ps : List Point} (a b : GExpr) → meaning ps a <ℤ meaning ps b → Holds ps strict (b ⊖ a)
hyp< a b h = record { sure = lt→sub h }

pub hyp≤ : {ps : List Point} (a b : GExpr) → meaning ps a ≤ℤ meaning ps b → Holds ps weak (b ⊖ a)
hyp≤ a b h = record { sure = le→sub h }

-- the number n + 1, and a square
pub num : {ps : List Point} (n : ℕ) → Holds ps strict (lit (pos (suc n)))
num n = record { sure = lt_z_yes (lt→ltb 0 (suc n) (suc-le-suc zero-le)) }

pub sq : {ps : List Point} (e : GExpr) → Holds ps weak (e ⊗ e)
sq {ps} e = record { sure = square_nn (meaning ps e) }

-- ---- sums and products
pub ◌⊹◌ : {ps : List Point} {s t : Sgn} {e f : GExpr} → Holds ps s e → Holds ps t f → Holds ps (s +ₛ t) (e ⊕ f)
◌⊹◌ {ps} {s} {t} {e} {f} h k = record { sure = sg_add s t (meaning ps e) (meaning ps f) h.sure k.sure }

pub ◌⊛◌ : {ps : List Point} {s t : Sgn} {e f : GExpr} → Holds ps s e → Holds ps t f → Holds ps (s *ₛ t) (e ⊗ f)
◌⊛◌ {ps} {s} {t} {e} {f} h k = record { sure = sg_mul s t (meaning ps e) (meaning ps f) h.sure k.sure }

-- ---- the ends of a proof. Each takes the points, the certificate, the goal as an expression, and `tt`
-- the goal g is, as a polynomial, what the certificate speaks of: g is positive; g is not negative
pub conclude : (ps : List Point) {e : GExpr} → Holds ps strict e → (g : GExpr) → T (is_nil (norm (code (e ⊖ g)))) → Pos (meaning ps g)
conclude ps {e} h g t = pos_eq h.sure (geo ps e g t)

pub conclude≥ : (ps : List Point) {s : Sgn} {e : GExpr} → Holds ps s e → (g : GExpr) → T (is_nil (norm (code (e ⊖ g)))) → NonNeg (meaning ps g)
conclude≥ ps {s} {e} h g t = nn_eq (sg_weak s (meaning ps e) h.sure) (geo ps e g t)

-- m is positive, and m * g is what the certificate speaks of
pub divide : (ps : List Point) {m e : GExpr} → Holds ps strict m → Holds ps strict e → (g : GExpr) → T (is_nil (norm (code (e ⊖ m ⊗ g)))) → Pos (meaning ps g)
divide ps {m} {e} hm h g t = cancel_pos hm.sure h.sure (geo ps e (m ⊗ g) t)

pub divide≥ : (ps : List Point) {s : Sgn} {m e : GExpr} → Holds ps strict m → Holds ps s e → (g : GExpr) → T (is_nil (norm (code (e ⊖ m ⊗ g)))) → NonNeg (meaning ps g)
divide≥ ps {s} {m} {e} hm h g t = cancel_nn hm.sure (sg_weak s (meaning ps e) h.sure) (geo ps e (m ⊗ g) t)

-- an equation from equations: m * (a - b) is what the certificate says is zero (for m = 1, `num 0`)
pub equate : (ps : List Point) {m e : GExpr} → Holds ps strict m → Holds ps none e → (a b : GExpr) → T (is_nil (norm (code (e ⊖ m ⊗ (a ⊖ b))))) → meaning ps a ≡ meaning ps b
equate ps {m} {e} hm h a b t = eq_of_sub (meaning ps a) (meaning ps b) (cancel_zero hm.sure (sym (geo ps e (m ⊗ (a ⊖ b)) t) ∙ h.sure))

-- an order: b - a is what the certificate speaks of
pub less : (ps : List Point) {e : GExpr} → Holds ps strict e → (a b : GExpr) → T (is_nil (norm (code (e ⊖ (b ⊖ a))))) → meaning ps a <ℤ meaning ps b
less ps h a b t = sub→lt (conclude ps h (b ⊖ a) t)

pub at_most : (ps : List Point) {s : Sgn} {e : GExpr} → Holds ps s e → (a b : GExpr) → T (is_nil (norm (code (e ⊖ (b ⊖ a))))) → meaning ps a ≤ℤ meaning ps b
at_most ps h a b t = sub→le (conclude≥ ps h (b ⊖ a) t)

-- what the certificate says is positive is, as a polynomial, zero: the hypotheses contradict one another
pub refute : (ps : List Point) {e : GExpr} → Holds ps strict e → T (is_nil (norm (code (e ⊖ lit (pos 0))))) → ⊥
refute ps {e} h t = pos_not_zero h.sure (geo ps e (lit (pos 0)) t)
