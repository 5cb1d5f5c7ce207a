-- How many numbers below n have a property: fewer where the property is narrower, and one fewer where one number lost it. By
-- induction on n, the last number apart. Assumes nothing.
use mathlib.Core.Path.{◌≡◌, refl, ap, ◌∙◌, subst}
use mathlib.Core.Logic.{⊎_elim}
use mathlib.Core.Bool.{Bool, true, false}
use Prim.Native.Nat.{ℕ, zero, suc, ◌<◌, ◌≤◌}
use native.Mathlib.Nat.{eq-or-lt_of_le, le_of_suc-le-suc, not-suc-le-zero}
use native.Mathlib.Omega.{arith}
use Rattle.striking.specs.Below.{count_below}

module _ (f : ℕ → Bool) where
  pub count_yes : (n : ℕ) → f n ≡ true → count_below (suc n) f ≡ suc (count_below n f)
  unfolding count_below
  count_yes n h = ap (λ (b : Bool). elim b as (λ x. ℕ) [ true ↦ suc (count_below n f) | false ↦ count_below n f ]) h

  pub count_no : (n : ℕ) → f n ≡ false → count_below (suc n) f ≡ count_below n f
  unfolding count_below
  count_no n h = ap (λ (b : Bool). elim b as (λ x. ℕ) [ true ↦ suc (count_below n f) | false ↦ count_below n f ]) h

  -- one number more adds at most 1
  count_step : (n : ℕ) → (count_below n f ≤ count_below (suc n) f) × (count_below (suc n) f ≤ suc (count_below n f))
  count_step n = go (f n) refl
    where
      go : (b : Bool) → f n ≡ b → (count_below n f ≤ count_below (suc n) f) × (count_below (suc n) f ≤ suc (count_below n f))
      go true q = (omega (arith, count_yes n q), omega (arith, count_yes n q))
      go false q = (omega (arith, count_no n q), omega (arith, count_no n q))

  pub count_up : (i n : ℕ) → i ≤ n → count_below i f ≤ count_below n f
  count_up i zero l = let e : i ≡ 0 = omega arith in rw e (omega arith)
  count_up i (suc n) l =
      ⊎_elim (λ e. rw e (omega arith)) (λ l'. omega (arith, count_up i n (le_of_suc-le-suc l'), (count_step n).0)) (eq-or-lt_of_le l)

  pub count_small : (n : ℕ) → count_below n f ≤ n
  unfolding count_below
  count_small zero = omega arith
  count_small (suc n) = omega (arith, count_small n, (count_step n).1)

module _ (f g : ℕ → Bool) where
  -- no more of f than of g, where each f is a g
  pub count_le : ((i : ℕ) → f i ≡ true → g i ≡ true) → (n : ℕ) → count_below n f ≤ count_below n g
  unfolding count_below
  count_le h zero = omega arith
  count_le h (suc n) = go (f n) refl (count_le h n)
    where
      go : (a : Bool) → f n ≡ a → count_below n f ≤ count_below n g → count_below (suc n) f ≤ count_below (suc n) g
      go true p l = omega (arith, count_yes f n p, count_yes g n (h n p))
      go false p l = omega (arith, count_no f n p, (count_step g n).0)

  pub count_same : (n : ℕ) → ((i : ℕ) → i < n → f i ≡ g i) → count_below n f ≡ count_below n g
  unfolding count_below
  count_same zero h = refl
  count_same (suc n) h = go (g n) refl (count_same n (λ i l. h i (omega arith)))
    where
      go : (b : Bool) → g n ≡ b → count_below n f ≡ count_below n g → count_below (suc n) f ≡ count_below (suc n) g
      go true q e = omega (arith, count_yes f n (h n (omega arith) ∙ q), count_yes g n q)
      go false q e = omega (arith, count_no f n (h n (omega arith) ∙ q), count_no g n q)

  -- one fewer, where g is f without i
  module _ (i : ℕ) (p : f i ≡ true) (q : g i ≡ false) (h : (j : ℕ) → (j ≡ i → ⊥) → f j ≡ g j) where
    pub count-drop : (n : ℕ) → i < n → count_below n f ≡ suc (count_below n g)
    count-drop zero l = absurd (not-suc-le-zero l)
    count-drop (suc n) l = ⊎_elim at_last (λ l'. before l' (count-drop n l')) (eq-or-lt_of_le (le_of_suc-le-suc l))
      where
        apart : (j : ℕ) → j < n → i ≡ n → j ≡ i → ⊥
        apart j l e d = omega arith

        at_last : i ≡ n → count_below (suc n) f ≡ suc (count_below (suc n) g)
        at_last e =
            let p' : f n ≡ true = subst (λ (j : ℕ). f j ≡ true) e p in
            let q' : g n ≡ false = subst (λ (j : ℕ). g j ≡ false) e q in
            omega (arith, count_yes f n p', count_no g n q', count_same n (λ j l. h j (apart j l e)))

        before : i < n → count_below n f ≡ suc (count_below n g) → count_below (suc n) f ≡ suc (count_below (suc n) g)
        before l' ih = go (g n) refl
          where
            off : n ≡ i → ⊥
            off e = omega arith

            go : (b : Bool) → g n ≡ b → count_below (suc n) f ≡ suc (count_below (suc n) g)
            go true r = omega (arith, count_yes f n (h n off ∙ r), count_yes g n r)
            go false r = omega (arith, count_no f n (h n off ∙ r), count_no g n r)
