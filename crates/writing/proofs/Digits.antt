-- Laws of `digits`. A number below 10 is one digit, and any other is the digits of its tenth and its last digit: the places that the
-- definition counts never decide, since a tenth is less than the number. Assumes nothing.
use mathlib.Core.Path.{◌≡◌, sym, ap, ◌∙◌}
use mathlib.Core.Bool.{Bool, true, false}
use mathlib.Core.List.{List, [], ◌∷◌, ◌++◌}
use Prim.Native.Nat.{ℕ, zero, suc, ◌/◌, ◌%◌, ◌^◌, ◌≤◌, ◌<◌}
use native.Mathlib.Nat.{not-suc-le-zero, le_refl, pow-suc}
use native.Mathlib.Decide.{dec_lt}
use native.Mathlib.Omega.{arith}
use borrow.Author.Tests.{lt-ltb, le-ltb}
use lib.ListN.{length, length-append}
use Rattle.writing.specs.Digits.{digit, digits_in, digits}

in_one : (k n : ℕ) → n < 10 → digits_in (suc k) n ≡ digit n ∷ []
unfolding digits_in
in_one k n h = ap (λ (t : Bool). elim t as (λ x. List ℕ) [ true ↦ digit n ∷ [] | false ↦ digits_in k (n / 10) ++ (digit (n % 10) ∷ []) ]) (lt-ltb n 10 h)

in_more : (k n : ℕ) → 10 ≤ n → digits_in (suc k) n ≡ digits_in k (n / 10) ++ (digit (n % 10) ∷ [])
unfolding digits_in
in_more k n h = ap (λ (t : Bool). elim t as (λ x. List ℕ) [ true ↦ digit n ∷ [] | false ↦ digits_in k (n / 10) ++ (digit (n % 10) ∷ []) ]) (le-ltb n 10 h)

-- any two counts of places above n give the same digits
enough : (k m n : ℕ) → n < k → n < m → digits_in k n ≡ digits_in m n
enough zero m n h l = absurd (not-suc-le-zero h)
enough (suc k) zero n h l = absurd (not-suc-le-zero l)
enough (suc k) (suc m) n h l = go (λ p q. enough k m (n / 10) p q) (dec_lt n 10)
  where
    go : (n / 10 < k → n / 10 < m → digits_in k (n / 10) ≡ digits_in m (n / 10)) → Dec (n < 10) → digits_in (suc k) n ≡ digits_in (suc m) n
    go tenth (yes u) = in_one k n u ∙ sym (in_one m n u)
    go tenth (no v) =
        let u : 10 ≤ n = omega arith in
        in_more k n u
        ∙ ap (λ (x : List ℕ). x ++ (digit (n % 10) ∷ [])) (tenth (omega arith) (omega arith))
        ∙ sym (in_more m n u)

pub digits_one : (n : ℕ) → n < 10 → digits n ≡ digit n ∷ []
unfolding digits
digits_one n h = in_one n n h

pub digits_more : (n : ℕ) → 10 ≤ n → digits n ≡ digits (n / 10) ++ (digit (n % 10) ∷ [])
unfolding digits
digits_more n h = in_more n n h ∙ ap (λ (x : List ℕ). x ++ (digit (n % 10) ∷ [])) (enough n (suc (n / 10)) (n / 10) (omega arith) (le_refl _))

-- what the goals of `Page::digits` need
pub ruleset spelt = (digits_one, digits_more)

-- a number below the power of ten k + 1 has at most k + 1 digits
pub digits-length : (k n : ℕ) → n < 10 ^ suc k → length (digits n) ≤ suc k
digits-length zero n h = rw (digits_one n h) (omega arith)
digits-length (suc k) n h = go (λ p. digits-length k (n / 10) p) (dec_lt n 10)
  where
    go : (n / 10 < 10 ^ suc k → length (digits (n / 10)) ≤ suc k) → Dec (n < 10) → length (digits n) ≤ suc (suc k)
    go tenth (yes u) = rw (digits_one n u) (omega arith)
    go tenth (no v) =
        let u : 10 ≤ n = omega arith in
        rw (digits_more n u, length-append) (omega (arith, tenth (omega (arith, pow-suc 10 (suc k)))))
