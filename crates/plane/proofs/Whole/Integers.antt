-- The laws of the commutative ring ℤ that `lib.IntN` lacks: distributivity, associativity of the product, negation under the product.
-- Assumes nothing.
use mathlib.Core.Path.{◌≡◌, sym, ◌∙◌, ap, subst}
use Prim.Native.Nat.{ℕ, zero, suc}
use lib.IntN.{ℤ, pos, suc_ℤ, pred_ℤ, neg_ℤ, one, ◌+ℤ◌, ◌-ℤ◌, ◌*ℤ◌, ℤ_ind, +ℤ-suc_ℤ, +ℤ-pred_ℤ, +ℤ_idl, +ℤ_idr, +ℤ_one, -ℤ_one, +ℤ_assoc, +ℤ_comm, +ℤ_invr, +ℤ_invl, -ℤ-+ℤ_cancel, suc_ℤ-*ℤ, pred_ℤ-*ℤ, zero-*ℤ, *ℤ-one, *ℤ_comm}

pub +ℤ-left-comm : (a b c : ℤ) → a +ℤ (b +ℤ c) ≡ b +ℤ (a +ℤ c)
+ℤ-left-comm a b c = sym (+ℤ_assoc a b c) ∙ ap (λ x. x +ℤ c) (+ℤ_comm a b) ∙ +ℤ_assoc b a c

-- (a + b) + (c + d) ≡ (a + c) + (b + d)
pub +ℤ-swap : (a b c d : ℤ) → (a +ℤ b) +ℤ (c +ℤ d) ≡ (a +ℤ c) +ℤ (b +ℤ d)
+ℤ-swap a b c d = +ℤ_assoc a b (c +ℤ d) ∙ ap (λ x. a +ℤ x) (+ℤ-left-comm b c d) ∙ sym (+ℤ_assoc a c (b +ℤ d))

-- Int.add_mul, by induction on the second summand
pub *ℤ-distr : (a b c : ℤ) → (a +ℤ b) *ℤ c ≡ a *ℤ c +ℤ b *ℤ c
*ℤ-distr a b c = ℤ_ind (λ z. (a +ℤ z) *ℤ c ≡ a *ℤ c +ℤ z *ℤ c) base up down b
  where
    base : (a +ℤ pos zero) *ℤ c ≡ a *ℤ c +ℤ pos zero *ℤ c
    base = ap (λ x. x *ℤ c) (+ℤ_idr a) ∙ sym (+ℤ_idr (a *ℤ c)) ∙ ap (λ x. a *ℤ c +ℤ x) (sym (zero-*ℤ c))

    up_s : (z : ℤ) → (a +ℤ z) *ℤ c ≡ a *ℤ c +ℤ z *ℤ c → (a +ℤ suc_ℤ z) *ℤ c ≡ a *ℤ c +ℤ suc_ℤ z *ℤ c
    up_s z h = ap (λ x. x *ℤ c) (+ℤ-suc_ℤ a z) ∙ suc_ℤ-*ℤ (a +ℤ z) c ∙ ap (λ x. x +ℤ c) h ∙ +ℤ_assoc (a *ℤ c) (z *ℤ c) c ∙ ap (λ x. a *ℤ c +ℤ x) (sym (suc_ℤ-*ℤ z c))

    down_s : (z : ℤ) → (a +ℤ z) *ℤ c ≡ a *ℤ c +ℤ z *ℤ c → (a +ℤ pred_ℤ z) *ℤ c ≡ a *ℤ c +ℤ pred_ℤ z *ℤ c
    down_s z h = ap (λ x. x *ℤ c) (+ℤ-pred_ℤ a z) ∙ pred_ℤ-*ℤ (a +ℤ z) c ∙ ap (λ x. x -ℤ c) h ∙ +ℤ_assoc (a *ℤ c) (z *ℤ c) (neg_ℤ c) ∙ ap (λ x. a *ℤ c +ℤ x) (sym (pred_ℤ-*ℤ z c))

    up : (n : ℕ) → (a +ℤ pos n) *ℤ c ≡ a *ℤ c +ℤ pos n *ℤ c → (a +ℤ (pos n +ℤ pos (suc zero))) *ℤ c ≡ a *ℤ c +ℤ (pos n +ℤ pos (suc zero)) *ℤ c
    up n h = subst (λ z. (a +ℤ z) *ℤ c ≡ a *ℤ c +ℤ z *ℤ c) (sym (+ℤ_one (pos n))) (up_s (pos n) h)

    down : (n : ℕ) → (a +ℤ neg_ℤ (pos n)) *ℤ c ≡ a *ℤ c +ℤ neg_ℤ (pos n) *ℤ c → (a +ℤ (neg_ℤ (pos n) +ℤ neg_ℤ (pos (suc zero)))) *ℤ c ≡ a *ℤ c +ℤ (neg_ℤ (pos n) +ℤ neg_ℤ (pos (suc zero))) *ℤ c
    down n h = subst (λ z. (a +ℤ z) *ℤ c ≡ a *ℤ c +ℤ z *ℤ c) (sym (-ℤ_one (neg_ℤ (pos n)))) (down_s (neg_ℤ (pos n)) h)

-- Int.mul_add
pub *ℤ-distl : (a b c : ℤ) → a *ℤ (b +ℤ c) ≡ a *ℤ b +ℤ a *ℤ c
*ℤ-distl a b c = *ℤ_comm a (b +ℤ c) ∙ *ℤ-distr b c a ∙ ap (λ x. x +ℤ c *ℤ a) (*ℤ_comm b a) ∙ ap (λ x. a *ℤ b +ℤ x) (*ℤ_comm c a)

-- what adds up to zero with a is -a
pub neg_unique : (a b : ℤ) → a +ℤ b ≡ pos zero → b ≡ neg_ℤ a
neg_unique a b h = sym (+ℤ_idl b) ∙ ap (λ x. x +ℤ b) (sym (+ℤ_invl a)) ∙ +ℤ_assoc (neg_ℤ a) a b ∙ ap (λ x. neg_ℤ a +ℤ x) h ∙ +ℤ_idr (neg_ℤ a)

-- Int.neg_mul, Int.mul_neg
pub negℤ-*ℤ : (a b : ℤ) → neg_ℤ a *ℤ b ≡ neg_ℤ (a *ℤ b)
negℤ-*ℤ a b = neg_unique (a *ℤ b) (neg_ℤ a *ℤ b) (sym (*ℤ-distr a (neg_ℤ a) b) ∙ ap (λ x. x *ℤ b) (+ℤ_invr a) ∙ zero-*ℤ b)

pub *ℤ-negℤ : (a b : ℤ) → a *ℤ neg_ℤ b ≡ neg_ℤ (a *ℤ b)
*ℤ-negℤ a b = *ℤ_comm a (neg_ℤ b) ∙ negℤ-*ℤ b a ∙ ap neg_ℤ (*ℤ_comm b a)

pub one-*ℤ : (x : ℤ) → pos 1 *ℤ x ≡ x
unfolding one
one-*ℤ x = *ℤ_comm (pos 1) x ∙ *ℤ-one x

-- Int.mul_assoc, by induction on the first factor
pub *ℤ-assoc : (a b c : ℤ) → (a *ℤ b) *ℤ c ≡ a *ℤ (b *ℤ c)
*ℤ-assoc a b c = ℤ_ind (λ z. (z *ℤ b) *ℤ c ≡ z *ℤ (b *ℤ c)) base up down a
  where
    base : (pos zero *ℤ b) *ℤ c ≡ pos zero *ℤ (b *ℤ c)
    base = ap (λ x. x *ℤ c) (zero-*ℤ b) ∙ zero-*ℤ c ∙ sym (zero-*ℤ (b *ℤ c))

    step : (z w : ℤ) → (z *ℤ b) *ℤ c ≡ z *ℤ (b *ℤ c) → (w *ℤ b) *ℤ c ≡ w *ℤ (b *ℤ c) → ((z +ℤ w) *ℤ b) *ℤ c ≡ (z +ℤ w) *ℤ (b *ℤ c)
    step z w h k = ap (λ x. x *ℤ c) (*ℤ-distr z w b) ∙ *ℤ-distr (z *ℤ b) (w *ℤ b) c ∙ ap (λ x. x +ℤ w *ℤ b *ℤ c) h ∙ ap (λ x. z *ℤ (b *ℤ c) +ℤ x) k ∙ sym (*ℤ-distr z w (b *ℤ c))

    o : (x : ℤ) → pos (suc zero) *ℤ x ≡ x
    o x = one-*ℤ x

    h₁ : (pos (suc zero) *ℤ b) *ℤ c ≡ pos (suc zero) *ℤ (b *ℤ c)
    h₁ = ap (λ x. x *ℤ c) (o b) ∙ sym (o (b *ℤ c))

    h₂ : (neg_ℤ (pos (suc zero)) *ℤ b) *ℤ c ≡ neg_ℤ (pos (suc zero)) *ℤ (b *ℤ c)
    h₂ = ap (λ x. x *ℤ c) (negℤ-*ℤ (pos (suc zero)) b) ∙ negℤ-*ℤ (pos (suc zero) *ℤ b) c ∙ ap neg_ℤ h₁ ∙ sym (negℤ-*ℤ (pos (suc zero)) (b *ℤ c))

    up : (n : ℕ) → (pos n *ℤ b) *ℤ c ≡ pos n *ℤ (b *ℤ c) → ((pos n +ℤ pos (suc zero)) *ℤ b) *ℤ c ≡ (pos n +ℤ pos (suc zero)) *ℤ (b *ℤ c)
    up n h = step (pos n) (pos (suc zero)) h h₁

    down : (n : ℕ) → (neg_ℤ (pos n) *ℤ b) *ℤ c ≡ neg_ℤ (pos n) *ℤ (b *ℤ c) → ((neg_ℤ (pos n) +ℤ neg_ℤ (pos (suc zero))) *ℤ b) *ℤ c ≡ (neg_ℤ (pos n) +ℤ neg_ℤ (pos (suc zero))) *ℤ (b *ℤ c)
    down n h = step (neg_ℤ (pos n)) (neg_ℤ (pos (suc zero))) h h₂

pub *ℤ-left-comm : (a b c : ℤ) → a *ℤ (b *ℤ c) ≡ b *ℤ (a *ℤ c)
*ℤ-left-comm a b c = sym (*ℤ-assoc a b c) ∙ ap (λ x. x *ℤ c) (*ℤ_comm a b) ∙ *ℤ-assoc b a c

-- (a * b) * (c * d) ≡ (a * c) * (b * d)
pub *ℤ-swap : (a b c d : ℤ) → (a *ℤ b) *ℤ (c *ℤ d) ≡ (a *ℤ c) *ℤ (b *ℤ d)
*ℤ-swap a b c d = *ℤ-assoc a b (c *ℤ d) ∙ ap (λ x. a *ℤ x) (*ℤ-left-comm b c d) ∙ sym (*ℤ-assoc a c (b *ℤ d))

-- equal when the difference is zero
pub eq_of_sub : (a b : ℤ) → a -ℤ b ≡ pos zero → a ≡ b
eq_of_sub a b h = sym (-ℤ-+ℤ_cancel a b) ∙ ap (λ x. x +ℤ b) h ∙ +ℤ_idl b
