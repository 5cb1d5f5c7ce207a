-- A buffer that is written byte by byte from its start. Below the place reached it has the new bytes and from there on the old ones, so at
-- the end it is the list of the new bytes. Assumes nothing.
use mathlib.Core.Path.{◌≡◌, refl, sym, ◌∙◌, subst}
use mathlib.Core.List.{List}
use Prim.Native.Nat.{ℕ, ◌+◌, ◌<◌, ◌≤◌}
use native.Mathlib.Decide.{ℕ_discrete}
use native.Mathlib.Omega.{arith}
use lib.ListN.{length, get_or, set, length-set}
use lib.Seq.{get_or-set_same, get_or-set_other, ext_get_or}
use Rattle.striking.specs.Below.{list_below}
use Rattle.striking.proofs.Below.{length_list, list_at}

pub record Filling (f : ℕ → ℕ) (i : ℕ) (st₀ st : List ℕ) : Type 0 where
  pub size : length st ≡ length st₀
  pub done : (j : ℕ) → j < i → get_or st j 0 ≡ f j
  pub rest : (j : ℕ) → i ≤ j → get_or st j 0 ≡ get_or st₀ j 0

pub filling_none : (f : ℕ → ℕ) (st : List ℕ) → Filling f 0 st st
filling_none f st = record { size = refl; done = λ j l. absurd (let z : ⊥ = omega arith in z); rest = λ j l. refl }

module _ {f : ℕ → ℕ} {i : ℕ} {st₀ st : List ℕ} (h : Filling f i st₀ st) where
  pub filling_next : (v : ℕ) → i < length st₀ → v ≡ f i → Filling f (i + 1) st₀ (set st i v)
  filling_next v l e =
      record {
        size = length-set st i v ∙ h.size;
        done = λ j k. go j k (ℕ_discrete j i);
        rest = λ j k. get_or-set_other st i j v 0 (λ q. omega arith) ∙ h.rest j (omega arith);
      }
    where
      go : (j : ℕ) → j < i + 1 → Dec (j ≡ i) → get_or (set st i v) j 0 ≡ f j
      go j k (yes q) =
          subst (λ (x : ℕ). get_or (set st i v) x 0 ≡ f x) (sym q)
          (get_or-set_same st i v 0 (subst (λ (n : ℕ). i < n) (sym h.size) l) ∙ e)
      go j k (no d) = get_or-set_other st i j v 0 d ∙ h.done j (omega arith)

  -- a byte that is as it should be already
  pub filling_skip : i < length st₀ → get_or st i 0 ≡ f i → Filling f (i + 1) st₀ st
  filling_skip l e =
      record {
        size = h.size;
        done = λ j k. go j k (ℕ_discrete j i);
        rest = λ j k. h.rest j (omega arith);
      }
    where
      go : (j : ℕ) → j < i + 1 → Dec (j ≡ i) → get_or st j 0 ≡ f j
      go j k (yes q) = subst (λ (x : ℕ). get_or st x 0 ≡ f x) (sym q) e
      go j k (no d) = h.done j (omega arith)

  pub filling_end : (n : ℕ) → length st₀ ≡ n → n ≤ i → st ≡ list_below n f
  filling_end n e l =
      ext_get_or 0 st (list_below n f) (h.size ∙ e ∙ sym (length_list f n))
      (λ j k. let s = h.size in h.done j (omega arith) ∙ sym (list_at f n j (omega arith)))
