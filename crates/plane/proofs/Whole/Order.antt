-- The ordered ring ℤ: what `lib.Signed` lacks of the laws of `◌≤ℤ◌` and `◌<ℤ◌`.
-- Most lemmas speak of the sign of one number, `Pos z` (0 < z) and `NonNeg z` (0 ≤ z); `lt→sub` .. `sub→le` go between `a < b` and `Pos (b - a)`.
-- Assumes nothing.
use mathlib.Core.Path.{◌≡◌, refl, sym, ◌∙◌, ap, ap₂, subst}
use mathlib.Core.Bool.{Bool, true, false, not}
use Prim.Native.Nat.{ℕ, zero, suc, ◌+◌, ◌*◌, ◌<◌, zero-le, suc-le-suc}
use native.Mathlib.Nat as NatL
use native.Mathlib.Omega.{arith}
use lib.Dec.{T, leb→le, le→leb, ltb→lt, lt→ltb, leb-zero, leb-suc-zero, leb-suc-suc}
use lib.IntN.{ℤ, pos, negsuc, suc_ℤ, pred_ℤ, neg_ℤ, ◌+ℤ◌, ◌-ℤ◌, ◌*ℤ◌, ℤ_ind, suc-pred, +ℤ-suc_ℤ, +ℤ-pred_ℤ, +ℤ_idr, +ℤ_one, -ℤ_one, +ℤ_comm, +ℤ_invr, *ℤ-zero, neg_ℤ-neg_ℤ}
use lib.Signed.{lt_z, le_z, ◌≤ℤ◌, ◌<ℤ◌, lt_z_yes, le_z_yes, lt_z_no, <ℤ_irrefl}
use Rattle.plane.proofs.Whole.Integers.{*ℤ-negℤ}

abbrev pub Pos : ℤ → Type 0
Pos z = pos 0 <ℤ z

abbrev pub NonNeg : ℤ → Type 0
NonNeg z = pos 0 ≤ℤ z

-- ---- the order is unchanged by a shift: as equations between the tests
lt_suc : (a b : ℤ) → lt_z (suc_ℤ a) (suc_ℤ b) ≡ lt_z a b
lt_suc (pos a) (pos b) = leb-suc-suc (suc a) b
lt_suc (pos a) (negsuc zero) = leb-suc-zero (suc a)
lt_suc (pos a) (negsuc (suc b)) = refl
lt_suc (negsuc zero) (pos b) = leb-suc-suc zero b ∙ leb-zero b
lt_suc (negsuc (suc a)) (pos b) = refl
lt_suc (negsuc zero) (negsuc zero) = refl
lt_suc (negsuc zero) (negsuc (suc b)) = sym (leb-suc-zero (suc b))
lt_suc (negsuc (suc a)) (negsuc zero) = sym (leb-suc-suc zero a ∙ leb-zero a)
lt_suc (negsuc (suc a)) (negsuc (suc b)) = sym (leb-suc-suc (suc b) a)

le_suc : (a b : ℤ) → le_z (suc_ℤ a) (suc_ℤ b) ≡ le_z a b
le_suc (pos a) (pos b) = leb-suc-suc a b
le_suc (pos a) (negsuc zero) = leb-suc-zero a
le_suc (pos a) (negsuc (suc b)) = refl
le_suc (negsuc zero) (pos b) = leb-zero (suc b)
le_suc (negsuc (suc a)) (pos b) = refl
le_suc (negsuc zero) (negsuc zero) = refl
le_suc (negsuc zero) (negsuc (suc b)) = sym (leb-suc-zero b)
le_suc (negsuc (suc a)) (negsuc zero) = sym (leb-zero (suc a))
le_suc (negsuc (suc a)) (negsuc (suc b)) = sym (leb-suc-suc b a)

module _ (f : ℤ → ℤ → Bool) (f-suc : (a b : ℤ) → f (suc_ℤ a) (suc_ℤ b) ≡ f a b) where
  shift_pred : (a b : ℤ) → f (pred_ℤ a) (pred_ℤ b) ≡ f a b
  shift_pred a b = sym (f-suc (pred_ℤ a) (pred_ℤ b)) ∙ ap₂ f (suc-pred a) (suc-pred b)

  shift : (a b c : ℤ) → f (a +ℤ c) (b +ℤ c) ≡ f a b
  shift a b c = ℤ_ind (λ z. f (a +ℤ z) (b +ℤ z) ≡ f a b) (ap₂ f (+ℤ_idr a) (+ℤ_idr b)) up down c
    where
      up : (n : ℕ) → f (a +ℤ pos n) (b +ℤ pos n) ≡ f a b → f (a +ℤ (pos n +ℤ pos (suc zero))) (b +ℤ (pos n +ℤ pos (suc zero))) ≡ f a b
      up n h = ap (λ z. f (a +ℤ z) (b +ℤ z)) (+ℤ_one (pos n)) ∙ ap₂ f (+ℤ-suc_ℤ a (pos n)) (+ℤ-suc_ℤ b (pos n)) ∙ f-suc (a +ℤ pos n) (b +ℤ pos n) ∙ h

      down : (n : ℕ) → f (a +ℤ neg_ℤ (pos n)) (b +ℤ neg_ℤ (pos n)) ≡ f a b → f (a +ℤ (neg_ℤ (pos n) +ℤ neg_ℤ (pos (suc zero)))) (b +ℤ (neg_ℤ (pos n) +ℤ neg_ℤ (pos (suc zero)))) ≡ f a b
      down n h = ap (λ z. f (a +ℤ z) (b +ℤ z)) (-ℤ_one (neg_ℤ (pos n))) ∙ ap₂ f (+ℤ-pred_ℤ a (neg_ℤ (pos n))) (+ℤ-pred_ℤ b (neg_ℤ (pos n))) ∙ shift_pred (a +ℤ neg_ℤ (pos n)) (b +ℤ neg_ℤ (pos n)) ∙ h

sub_test : (f : ℤ → ℤ → Bool) → ((a b : ℤ) → f (suc_ℤ a) (suc_ℤ b) ≡ f a b) → (a b : ℤ) → f a b ≡ f (pos 0) (b -ℤ a)
sub_test f h a b = sym (shift f h a b (neg_ℤ a)) ∙ ap (λ z. f z (b -ℤ a)) (+ℤ_invr a)

pub lt→sub : {a b : ℤ} → a <ℤ b → Pos (b -ℤ a)
lt→sub {a} {b} h = lt_z_yes (subst T (sub_test lt_z lt_suc a b) h.lt)

pub sub→lt : {a b : ℤ} → Pos (b -ℤ a) → a <ℤ b
sub→lt {a} {b} h = lt_z_yes (subst T (sym (sub_test lt_z lt_suc a b)) h.lt)

pub le→sub : {a b : ℤ} → a ≤ℤ b → NonNeg (b -ℤ a)
le→sub {a} {b} h = le_z_yes (subst T (sub_test le_z le_suc a b) h.le)

pub sub→le : {a b : ℤ} → NonNeg (b -ℤ a) → a ≤ℤ b
sub→le {a} {b} h = le_z_yes (subst T (sym (sub_test le_z le_suc a b)) h.le)

-- ---- a positive number, an equation, sums, products
pub pos_eq : {a b : ℤ} → Pos a → a ≡ b → Pos b
pos_eq h e = subst (λ z. Pos z) e h

pub nn_eq : {a b : ℤ} → NonNeg a → a ≡ b → NonNeg b
nn_eq h e = subst (λ z. NonNeg z) e h

pub pos→nn : {a : ℤ} → Pos a → NonNeg a
pos→nn {a = pos n} h = le_z_yes (le→leb 0 n zero-le)
pos→nn {a = negsuc n} h = absurd h.lt

pub one_pos : Pos (pos 1)
one_pos = lt_z_yes tt

add_nat : (a b : ℕ) → 0 < a → 0 < a + b
add_nat a b h = omega arith

mul_nat : (a b : ℕ) → 0 < a → 0 < b → 0 < a * b
mul_nat a b h k = NatL.mul-pos h k

pub add_pos_nn : {a b : ℤ} → Pos a → NonNeg b → Pos (a +ℤ b)
add_pos_nn {a = pos a} {b = pos b} h k = lt_z_yes (lt→ltb 0 (a + b) (add_nat a b (ltb→lt 0 a h.lt)))
add_pos_nn {a = pos a} {b = negsuc b} h k = absurd k.le
add_pos_nn {a = negsuc a} {b} h k = absurd h.lt

pub add_pos : {a b : ℤ} → Pos a → Pos b → Pos (a +ℤ b)
add_pos h k = add_pos_nn h (pos→nn k)

pub add_nn_pos : {a b : ℤ} → NonNeg a → Pos b → Pos (a +ℤ b)
add_nn_pos {a} {b} h k = pos_eq (add_pos_nn k h) (+ℤ_comm b a)

pub add_nn : {a b : ℤ} → NonNeg a → NonNeg b → NonNeg (a +ℤ b)
add_nn {a = pos a} {b = pos b} h k = le_z_yes (le→leb 0 (a + b) zero-le)
add_nn {a = pos a} {b = negsuc b} h k = absurd k.le
add_nn {a = negsuc a} {b} h k = absurd h.le

pub mul_pos : {a b : ℤ} → Pos a → Pos b → Pos (a *ℤ b)
mul_pos {a = pos a} {b = pos b} h k = lt_z_yes (lt→ltb 0 (a * b) (mul_nat a b (ltb→lt 0 a h.lt) (ltb→lt 0 b k.lt)))
mul_pos {a = pos a} {b = negsuc b} h k = absurd k.lt
mul_pos {a = negsuc a} {b} h k = absurd h.lt

pub mul_nn : {a b : ℤ} → NonNeg a → NonNeg b → NonNeg (a *ℤ b)
mul_nn {a = pos a} {b = pos b} h k = le_z_yes (le→leb 0 (a * b) zero-le)
mul_nn {a = pos a} {b = negsuc b} h k = absurd k.le
mul_nn {a = negsuc a} {b} h k = absurd h.le

-- ---- the three signs
pub data Sign (z : ℤ) : Type 0 where
  plus : Pos z → Sign z
  null : z ≡ pos 0 → Sign z
  minus : Pos (neg_ℤ z) → Sign z

pub sign : (z : ℤ) → Sign z
sign (pos zero) = null refl
sign (pos (suc n)) = plus (lt_z_yes (lt→ltb 0 (suc n) (suc-le-suc zero-le)))
sign (negsuc n) = minus (lt_z_yes (lt→ltb 0 (suc n) (suc-le-suc zero-le)))

pub pos_not_zero : {z : ℤ} → Pos z → z ≡ pos 0 → ⊥
pos_not_zero h e = <ℤ_irrefl (subst (λ x. pos 0 <ℤ x) e h)

-- not both z and -z are positive; nor is one positive where the other is not negative
pub not_both : {z : ℤ} → Pos z → NonNeg (neg_ℤ z) → ⊥
not_both {z} h k = pos_not_zero (add_pos_nn h k) (+ℤ_invr z)

-- three numbers: a < b, a = b or b < a
pub data Tri (a b : ℤ) : Type 0 where
  less : a <ℤ b → Tri a b
  same : a ≡ b → Tri a b
  more : b <ℤ a → Tri a b

pub tri : (a b : ℤ) → Tri a b
tri a b = go (lt_z a b) refl (lt_z b a) refl
  where
    both : (a b : ℤ) → le_z a b ≡ true → le_z b a ≡ true → a ≡ b
    both (pos a) (pos b) h k = ap pos (NatL.le_antisymm (leb→le a b (subst T (sym h) tt)) (leb→le b a (subst T (sym k) tt)))
    both (pos a) (negsuc b) h k = absurd (subst T (sym h) tt)
    both (negsuc a) (pos b) h k = absurd (subst T (sym k) tt)
    both (negsuc a) (negsuc b) h k = ap negsuc (NatL.le_antisymm (leb→le a b (subst T (sym k) tt)) (leb→le b a (subst T (sym h) tt)))

    to_true : (x : Bool) → T x → x ≡ true
    to_true true t = refl
    to_true false t = absurd t

    go : (x : Bool) → lt_z a b ≡ x → (y : Bool) → lt_z b a ≡ y → Tri a b
    go true e y f = less (lt_z_yes (subst T (sym e) tt))
    go false e true f = more (lt_z_yes (subst T (sym f) tt))
    go false e false f =
        let h : b ≤ℤ a = lt_z_no (subst (λ x. T (not x)) (sym e) tt) in
        let k : a ≤ℤ b = lt_z_no (subst (λ x. T (not x)) (sym f) tt) in
        same (both a b (to_true (le_z a b) k.le) (to_true (le_z b a) h.le))

-- ---- cancel a positive factor: the last step of a proof by a certificate, c ≡ m * g
pub cancel_pos : {m g c : ℤ} → Pos m → Pos c → c ≡ m *ℤ g → Pos g
cancel_pos {m} {g} {c} hm hc e = go (sign g)
  where
    go : Sign g → Pos g
    go (plus h) = h
    go (null h) = absurd (pos_not_zero hc (e ∙ ap (λ z. m *ℤ z) h ∙ *ℤ-zero m))
    go (minus h) = absurd (not_both hc (nn_eq (pos→nn (mul_pos hm h)) (*ℤ-negℤ m g ∙ ap neg_ℤ (sym e))))

pub cancel_nn : {m g c : ℤ} → Pos m → NonNeg c → c ≡ m *ℤ g → NonNeg g
cancel_nn {m} {g} {c} hm hc e = go (sign g)
  where
    go : Sign g → NonNeg g
    go (plus h) = pos→nn h
    go (null h) = subst (λ z. NonNeg z) (sym h) (le_z_yes tt)
    go (minus h) = absurd (not_both (pos_eq (mul_pos hm h) (*ℤ-negℤ m g ∙ ap neg_ℤ (sym e))) (subst (λ z. NonNeg z) (sym (neg_ℤ-neg_ℤ c)) hc))

pub cancel_zero : {m g : ℤ} → Pos m → m *ℤ g ≡ pos 0 → g ≡ pos 0
cancel_zero {m} {g} hm e = go (sign g)
  where
    go : Sign g → g ≡ pos 0
    go (plus h) = absurd (pos_not_zero (mul_pos hm h) e)
    go (null h) = h
    go (minus h) = absurd (pos_not_zero (mul_pos hm h) (*ℤ-negℤ m g ∙ ap neg_ℤ e))

pub square_nn : (z : ℤ) → NonNeg (z *ℤ z)
square_nn (pos n) = le_z_yes (le→leb 0 (n * n) zero-le)
square_nn (negsuc n) = le_z_yes (le→leb 0 (suc n * suc n) zero-le)
