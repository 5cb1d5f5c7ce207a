-- 1 + 2 + .. + n is n (n + 1) / 2, by induction on n. Assumes nothing.
use mathlib.Core.Path.{◌≡◌, refl}
use mathlib.Core.Logic.{⊎_elim}
use Prim.Native.Nat.{ℕ, zero, suc, ◌+◌, ◌*◌, ◌/◌, ◌≤◌}
use native.Mathlib.Nat.{eq-or-lt_of_le, le_of_suc-le-suc, suc-mul, mul-suc}
use native.Mathlib.Numerals.{add-one}
use native.Mathlib.Omega.{arith}

-- 1 + 2 + .. + n
unfoldable pub sum_to : ℕ → ℕ
sum_to zero = 0
sum_to (suc k) = suc k + sum_to k

-- 1 + 2 + .. + (n - 1)
unfoldable pub sum_below : ℕ → ℕ
sum_below zero = 0
sum_below (suc k) = sum_to k

pub sum_suc : (n : ℕ) → sum_to (suc n) ≡ suc n + sum_to n
unfolding sum_to
sum_suc n = refl

pub sum_last : (n : ℕ) → n + sum_below n ≡ sum_to n
unfolding sum_below sum_to
sum_last zero = refl
sum_last (suc n) = refl

pub sum_up : (n m : ℕ) → n ≤ m → sum_to n ≤ sum_to m
unfolding sum_to
sum_up n zero l = let e : n ≡ 0 = omega arith in rw e (omega arith)
sum_up n (suc m) l =
    ⊎_elim (λ e. rw e (omega arith)) (λ l'. let k = sum_up n m (le_of_suc-le-suc l') in omega arith) (eq-or-lt_of_le l)

sum_twice : (n : ℕ) → 2 * sum_to n ≡ n * (n + 1)
unfolding sum_to
sum_twice zero = refl
sum_twice (suc n) =
    let e = sum_twice n in
    rw (add-one (suc n))
    (omega (arith, suc-mul n (suc (suc n)), mul-suc n (suc n), add-one n, mul-suc n n, rw (add-one n) at e))

pub sum_half : (n : ℕ) → sum_to n ≡ n * (n + 1) / 2
sum_half n = omega (arith, sum_twice n)
