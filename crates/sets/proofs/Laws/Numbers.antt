-- Two cases of two numbers; what a first number is; tests of every number below n compared. By induction on n. Assumes nothing.
use mathlib.Core.Path.{◌≡◌, refl, sym, ap, ap₂, ◌∙◌, subst}
use mathlib.Core.Logic.{◌⊎◌, inl, inr, ⊎_elim}
use mathlib.Core.Bool.{Bool, true, false, cond}
use Prim.Native.Nat.{ℕ, zero, suc, ◌-◌, ◌≤◌, ◌<◌}
use native.Mathlib.Nat.{eq-or-lt_of_le, eq-zero-or-pos, le_of_suc-le-suc, not-suc-le-zero}
use native.Mathlib.Omega.{arith}
use borrow.Author.Tests.{ltb-true, ltb-false}
use lib.Dec.{T, ltb}
use Rattle.plane.specs.Numbers.{all_to, first_so_far, first_to}

-- ---- cases
pub split : (a b : ℕ) → (a ≤ b) ⊎ (b < a)
split a b = ⊎_elim (λ e. inl (omega arith)) (λ h. inr (omega arith)) (eq-zero-or-pos (a - b))

pub and_true : (b : Bool) → cond b true false ≡ b
and_true true = refl
and_true false = refl

pub and_no : (b : Bool) → cond b false false ≡ false
and_no true = refl
and_no false = refl

pub true_false : {b : Bool} → b ≡ true → b ≡ false → ⊥
true_false e f = subst T (sym e ∙ f) tt

-- ---- k is the first number below n that has f, or n
pub record First (f : ℕ → Bool) (n k : ℕ) : Type 0 where
  pub most : k ≤ n
  pub before : (i : ℕ) → i < k → f i ≡ false
  pub there : k < n → f k ≡ true

pub first_is : (f : ℕ → Bool) (n : ℕ) → First f n (first_to n f)
unfolding first_to first_so_far
first_is f zero = record { most = omega arith; before = λ i l. absurd (not-suc-le-zero l); there = λ l. absurd (not-suc-le-zero l) }
first_is f (suc n) = go (first_to n f) (first_is f n) (ltb (first_to n f) n) refl (f n) refl
  where
    go : (i : ℕ) → First f n i → (a : Bool) → ltb i n ≡ a → (b : Bool) → f n ≡ b → First f (suc n) (cond a i (cond b n (suc n)))
    go i h true e b d = record { most = (let l = h.most in omega arith); before = h.before; there = λ _. h.there (ltb-true i n e) }
    go i h false e true d =
        let l = h.most in
        let g = ltb-false i n e in
        let q : i ≡ n = omega arith in
        record { most = omega arith; before = subst (λ (x : ℕ). (j : ℕ) → j < x → f j ≡ false) q h.before; there = λ _. d }
    go i h false e false d =
        let l = h.most in
        let g = ltb-false i n e in
        record {
          most = omega arith;
          before = λ j u. ⊎_elim (λ q. ap f q ∙ d) (λ v. h.before j (omega arith)) (eq-or-lt_of_le (le_of_suc-le-suc u));
          there = λ u. absurd (let z : ⊥ = omega arith in z);
        }

pub first_found : (f : ℕ → Bool) (n k : ℕ) → k ≡ first_to n f → First f n k
first_found f n k e = subst (First f n) (sym e) (first_is f n)

pub first_same : (f g : ℕ → Bool) (n : ℕ) → ((k : ℕ) → k < n → f k ≡ g k) → first_to n f ≡ first_to n g
unfolding first_to first_so_far
first_same f g zero h = refl
first_same f g (suc n) h =
    ap₂ (λ (i : ℕ) (b : Bool). cond (ltb i n) i (cond b n (suc n))) (first_same f g n (λ k l. h k (omega arith))) (h n (omega arith))

-- ---- every number below n
pub all_true : (f : ℕ → Bool) (n : ℕ) → ((k : ℕ) → k < n → f k ≡ true) → all_to n f ≡ true
unfolding all_to
all_true f zero h = refl
all_true f (suc n) h = ap₂ (λ (a b : Bool). cond a b false) (all_true f n (λ k l. h k (omega arith))) (h n (omega arith))

pub all_same : (f g : ℕ → Bool) (n : ℕ) → ((k : ℕ) → k < n → f k ≡ g k) → all_to n f ≡ all_to n g
unfolding all_to
all_same f g zero h = refl
all_same f g (suc n) h = ap₂ (λ (a b : Bool). cond a b false) (all_same f g n (λ k l. h k (omega arith))) (h n (omega arith))

-- what holds from n on needs no test
pub all_short : (f : ℕ → Bool) (n d : ℕ) → n ≤ d → ((k : ℕ) → n ≤ k → k < d → f k ≡ true) → all_to d f ≡ all_to n f
unfolding all_to
all_short f n zero l h = let e : n ≡ 0 = omega arith in ap (λ (x : ℕ). all_to x f) (sym e)
all_short f n (suc d) l h =
    ⊎_elim
    (λ e. ap (λ (x : ℕ). all_to x f) (sym e))
    (λ u. ap₂ (λ (a b : Bool). cond a b false) (all_short f n d (le_of_suc-le-suc u) (λ k v w. h k v (omega arith))) (h d (le_of_suc-le-suc u) (omega arith)) ∙ and_true (all_to n f))
    (eq-or-lt_of_le l)
