-- Numbers below n: a search through them finds exactly what is there, and a list of values has each at its place. By induction
-- on n, the last number apart. Assumes nothing.
use mathlib.Core.Path.{◌≡◌, refl, sym, ap, ◌∙◌, subst}
use mathlib.Core.Logic.{⊎_elim}
use mathlib.Core.Bool.{Bool, true, false}
use mathlib.Core.List.{[], ◌∷◌, ◌++◌}
use Prim.Native.Nat.{ℕ, zero, suc, ◌<◌, ◌≤◌}
use native.Mathlib.Nat.{eq-or-lt_of_le, le_of_suc-le-suc, not-suc-le-zero}
use native.Mathlib.Omega.{arith}
use lib.ListN.{get_or, length, length-append, get_or-append, get_or-eq_default}
use lib.Seq.{get_or_at}
use Rattle.striking.specs.Below.{any_below, list_below}
use Rattle.striking.proofs.Tests.{not_both}

-- ---- some number below n
module _ (f : ℕ → Bool) where
  pub any_hit : (n i : ℕ) → i < n → f i ≡ true → any_below n f ≡ true
  unfolding any_below
  any_hit zero i l h = absurd (not-suc-le-zero l)
  any_hit (suc n) i l h = go (any_below n f) (λ l'. any_hit n i l' h)
    where
      go : (b : Bool) → (i < n → b ≡ true) → elim b as (λ x. Bool) [ true ↦ true | false ↦ f n ] ≡ true
      go true k = refl
      go false k =
          ⊎_elim (λ e. subst (λ (j : ℕ). f j ≡ true) e h) (λ l'. not_both (k l') refl) (eq-or-lt_of_le (le_of_suc-le-suc l))

  pub any_find : (n : ℕ) → any_below n f ≡ true → (i : ℕ) × (i < n) × (f i ≡ true)
  unfolding any_below
  any_find zero h = not_both h refl
  any_find (suc n) h = go (any_below n f) (λ k. any_find n k) refl h
    where
      go :
          (b : Bool) → (any_below n f ≡ true → (i : ℕ) × (i < n) × (f i ≡ true)) → any_below n f ≡ b →
          elim b as (λ x. Bool) [ true ↦ true | false ↦ f n ] ≡ true → (i : ℕ) × (i < suc n) × (f i ≡ true)
      go true k e h = let r = k e in let l = r.1 in (r.0, (omega arith), r.2)
      go false k e h = (n, (omega arith), h)

-- ---- a value for each number below n
module _ (f : ℕ → ℕ) where
  pub length_list : (n : ℕ) → length (list_below n f) ≡ n
  unfolding list_below
  length_list zero = refl
  length_list (suc n) = length-append (list_below n f) (f n ∷ []) ∙ (let e = length_list n in omega arith)

  pub list_at : (n i : ℕ) → i < n → get_or (list_below n f) i 0 ≡ f i
  unfolding list_below
  list_at zero i l = absurd (not-suc-le-zero l)
  list_at (suc n) i l = ⊎_elim last (λ l'. before l' (list_at n i l')) (eq-or-lt_of_le (le_of_suc-le-suc l))
    where
      last : i ≡ n → get_or (list_below n f ++ f n ∷ []) i 0 ≡ f i
      last e = get_or_at (list_below n f) (f n) [] 0 i (length_list n ∙ sym e) ∙ ap f (sym e)

      before : i < n → get_or (list_below n f) i 0 ≡ f i → get_or (list_below n f ++ f n ∷ []) i 0 ≡ f i
      before l' ih = get_or-append (list_below n f) (f n ∷ []) 0 i (rw (length_list n) l') ∙ ih

  pub list_past : (n i : ℕ) → n ≤ i → get_or (list_below n f) i 0 ≡ 0
  list_past n i l = get_or-eq_default (list_below n f) 0 (rw (length_list n) l)
