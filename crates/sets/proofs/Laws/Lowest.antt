-- The lowest digit of a word that is not 0: `trailing_zeros` finds it, and `x & (x - 1)` takes it away. By induction on the number of
-- digits: below the lowest set digit x and x - 1 differ throughout, above it nowhere. Assumes nothing.
use mathlib.Core.Path.{◌≡◌, refl, sym, ap, ap₂, ◌∙◌, subst}
use mathlib.Core.Logic.{⊎_elim}
use mathlib.Core.Bool.{Bool, true, false}
use Prim.Native.Nat.{ℕ, zero, suc, ◌+◌, ◌*◌, ◌-◌, ◌/◌, ◌%◌, ◌≤◌, ◌<◌, min}
use native.Mathlib.Nat.{eq-or-lt_of_le, not-suc-le-zero}
use native.Mathlib.Omega.{arith}
use lib.Bits.{bit_and, and_step, and_self}
use lib.Count.{count_trailing_zeros, under}
use Rattle.sets.specs.Sets.{bit, word, without}
use Rattle.sets.proofs.Laws.Numbers.{true_false}
use Rattle.sets.proofs.Laws.Words.{word_none, word_half, word_low, word_same, zero_word, without_at, without_off}

pub record Lowest (g : ℕ → Bool) (k j t : ℕ) : Type 0 where
  pub within : t < j
  pub before : (i : ℕ) → k ≤ i → i < k + t → g i ≡ false
  pub there : g (k + t) ≡ true

low_next : (g : ℕ → Bool) (k j t : ℕ) → g k ≡ false → Lowest g (suc k) j t → Lowest g k (suc j) (suc t)
low_next g k j t e h =
    let z : suc k + t ≡ k + suc t = omega arith in
    record {
      within = let w = h.within in omega arith;
      before = λ i a b. ⊎_elim (λ q. subst (λ (x : ℕ). g x ≡ false) q e) (λ q. h.before i q (omega arith)) (eq-or-lt_of_le a);
      there = ap g (sym z) ∙ h.there;
    }

word_more : (g : ℕ → Bool) (k j : ℕ) → g k ≡ false → word g (suc k) j ≡ 0 → word g k (suc j) ≡ 0
unfolding word
word_more g k j e z = omega (arith, ap bit e)

pub lowest : (g : ℕ → Bool) (d k j : ℕ) → j ≤ d → (word g k j ≡ 0 → ⊥) → Lowest g k j (count_trailing_zeros d (word g k j))
unfolding count_trailing_zeros
lowest g d k zero l n = absurd (n (word_none g k))
lowest g zero k (suc j) l n = absurd (not-suc-le-zero l)
lowest g (suc d) k (suc j) l n = go (g k) refl (lowest g d (suc k) j (omega arith))
  where
    go :
        (b : Bool) → g k ≡ b → ((word g (suc k) j ≡ 0 → ⊥) → Lowest g (suc k) j (count_trailing_zeros d (word g (suc k) j))) →
        Lowest g k (suc j) (under (word g k (suc j) % 2) (count_trailing_zeros d (word g k (suc j) / 2)))
    go true e r =
        rw (word_low g k j, e)
        (record { within = omega arith; before = λ i a b. absurd (let z : ⊥ = omega arith in z); there = ap g (let z : k + 0 ≡ k = omega arith in z) ∙ e })
    go false e r =
        rw (word_low g k j, e, word_half g k j) (low_next g k j (count_trailing_zeros d (word g (suc k) j)) e (r (λ z. n (word_more g k j e z))))

word_pos : (g : ℕ → Bool) (k j t : ℕ) → t < j → g (k + t) ≡ true → word g k j ≡ 0 → ⊥
word_pos g k j t l e z = true_false e (zero_word g k j (k + t) z (omega arith) (omega arith))

positive : (n : ℕ) → (n ≡ 0 → ⊥) → 0 < n
positive zero d = absurd (d refl)
positive (suc n) d = omega arith

pub dropped : (g : ℕ → Bool) (t k j : ℕ) → Lowest g k j t → bit_and (word g k j) (word g k j - 1) ≡ word (without g (k + t)) k j
unfolding word
dropped g t k zero h = absurd (not-suc-le-zero h.within)
dropped g zero k (suc j) h =
    let z : k + 0 ≡ k = omega arith in
    let W = word g (suc k) j in
    let b : bit (g k) ≡ 1 = ap (λ (x : ℕ). bit (g x)) (sym z) ∙ ap bit h.there in
    let w : word g k (suc j) ≡ W * 2 + 1 = ap (λ (x : ℕ). W * 2 + x) b in
    let s : (W * 2 + 1) / 2 ≡ W = omega arith in
    let u : (W * 2 + 1 - 1) / 2 ≡ W = omega arith in
    let v : (W * 2 + 1 - 1) % 2 ≡ 0 = omega arith in
    let o : (W * 2 + 1) % 2 ≡ 1 = omega arith in
    ap (λ (x : ℕ). bit_and x (x - 1)) w
    ∙ and_step (W * 2 + 1) (W * 2 + 1 - 1)
    ∙ ap₂ (λ (x y : ℕ). x * 2 + y) (ap₂ bit_and s u ∙ and_self W) (ap₂ min o v)
    ∙ ap₂ (λ (x : ℕ) (c : Bool). x * 2 + bit c)
    (word_same g (without g (k + 0)) (suc k) j (λ i a c. sym (without_off g (k + 0) i (λ q. omega arith))))
    (sym (without_at g (k + 0) k (omega arith)))
dropped g (suc t) k (suc j) h =
    let z : suc k + t ≡ k + suc t = omega arith in
    let W = word g (suc k) j in
    let e : g k ≡ false = h.before k (omega arith) (omega arith) in
    let h' : Lowest g (suc k) j t =
    record { within = (let l = h.within in omega arith); before = λ i a b. h.before i (omega arith) (omega arith); there = ap g z ∙ h.there } in
    let p : 0 < W = positive W (word_pos g (suc k) j t h'.within h'.there) in
    let w : word g k (suc j) ≡ W * 2 = ap (λ (x : Bool). W * 2 + bit x) e ∙ (let y : W * 2 + 0 ≡ W * 2 = omega arith in y) in
    let s : W * 2 / 2 ≡ W = omega arith in
    let u : (W * 2 - 1) / 2 ≡ W - 1 = omega arith in
    let v : (W * 2 - 1) % 2 ≡ 1 = omega arith in
    let o : W * 2 % 2 ≡ 0 = omega arith in
    ap (λ (x : ℕ). bit_and x (x - 1)) w
    ∙ and_step (W * 2) (W * 2 - 1)
    ∙ ap₂ (λ (x y : ℕ). x * 2 + y) (ap₂ bit_and s u ∙ dropped g t (suc k) j h') (ap₂ min o v)
    ∙ ap₂ (λ (x : ℕ) (c : Bool). word (without g x) (suc k) j * 2 + bit c) z (sym (without_off g (k + suc t) k (λ q. omega arith) ∙ e))
