-- Going through a set, member by member, by `pop_first` again and again. What the first member is not, a later one may
-- be; so a search for the first member with a test looks at each once. Assumes nothing.
use mathlib.Core.Path.{◌≡◌, refl, sym, ap, ◌∙◌}
use mathlib.Core.Logic.{⊎_elim}
use mathlib.Core.Bool.{Bool, true, false, cond}
use Prim.Native.Nat.{ℕ, ◌≤◌, ◌<◌}
use native.Mathlib.Nat.{eq-or-lt_of_le}
use native.Mathlib.Omega.{arith}
use Rattle.plane.specs.Numbers.{first_to}
use Rattle.plane.proofs.Laws.Numbers.{first_at, first_past}
use Rattle.sets.specs.declared.Set.{Set}
use Rattle.sets.specs.Sets.{set_of, has, both, without}
use Rattle.sets.proofs.Laws.Numbers.{split, true_false, first_found, first_same}
use Rattle.sets.proofs.Laws.Words.{without_at, without_off}
use Rattle.sets.proofs.Laws.Sets.{has-set}

module _ (s : Set) (k : ℕ) (e : k ≡ first_to 128 (has s)) where
  -- the first member is one, and no number before it is
  pub first_member : k < 128 → has s k ≡ true
  first_member l = (first_found (has s) 128 k e).there l

  pub first_before : (i : ℕ) → i < k → has s i ≡ false
  first_before i l = (first_found (has s) 128 k e).before i l

  pub first_most : k ≤ 128
  first_most = (first_found (has s) 128 k e).most

  module _ (r : Set) (q : r ≡ set_of (without (has s) k)) where
    pub has_rest : (i : ℕ) → i < 128 → has r i ≡ without (has s) k i
    has_rest i l = ap (λ (x : Set). has x i) q ∙ has-set (without (has s) k) i l

    -- the next member comes later: a measure
    pub next_later : (k' : ℕ) → k' ≡ first_to 128 (has r) → k < 128 → k < k'
    next_later k' e' l = ⊎_elim (λ h. absurd (not_before h)) (λ h. h) (split k' k)
      where
        not_before : k' ≤ k → ⊥
        not_before h =
            true_false ((first_found (has r) 128 k' e').there (omega arith))
            (has_rest k' (omega arith)
            ∙ ⊎_elim
            (λ d. without_at (has s) k k' d)
            (λ d. without_off (has s) k k' (λ z. omega arith) ∙ first_before k' d)
            (eq-or-lt_of_le h))

  -- ---- the first member that has a test
  module _ (test : ℕ → Bool) where
    pub seek_hit : k < 128 → test k ≡ true → k ≡ first_to 128 (both (has s) test)
    unfolding both
    seek_hit l t =
        sym
        (first_at (both (has s) test) 128 k l (λ i h. ap (λ (b : Bool). cond b (test i) false) (first_before i h))
        (ap (λ (b : Bool). cond b (test k) false) (first_member l) ∙ t))

    pub seek_end : 128 ≤ k → first_to 128 (both (has s) test) ≡ 128
    unfolding both
    seek_end l = first_past (both (has s) test) 128 (λ i h. ap (λ (b : Bool). cond b (test i) false) (first_before i (omega arith)))

    pub seek_next : (r : Set) → r ≡ set_of (without (has s) k) → test k ≡ false → first_to 128 (both (has r) test) ≡ first_to 128 (both (has s) test)
    unfolding both
    seek_next r q t =
        first_same (both (has r) test) (both (has s) test) 128
        (λ i l.
        ap (λ (b : Bool). cond b (test i) false) (has_rest r q i l)
        ∙ ⊎_elim
        (λ h.
        ⊎_elim
        (λ d.
        ap (λ (b : Bool). cond b (test i) false) (without_at (has s) k i d)
        ∙ sym (fails (has s i) (test i) (ap test d ∙ t)))
        (λ d. kept i (λ z. omega arith))
        (eq-or-lt_of_le h))
        (λ h. kept i (λ z. omega arith))
        (split i k))
      where
        fails : (a b : Bool) → b ≡ false → cond a b false ≡ false
        fails true b f = f
        fails false b f = refl

        kept : (i : ℕ) → (i ≡ k → ⊥) → cond (without (has s) k i) (test i) false ≡ cond (has s i) (test i) false
        kept i d = ap (λ (b : Bool). cond b (test i) false) (without_off (has s) k i d)
