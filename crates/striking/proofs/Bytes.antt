-- The status bytes where S remains: a byte is 0, 1 or 2 by two tests, and each value tells what the tests answered. Past the
-- last pair nothing remains, so that the byte read there, 0, tells the same. Assumes nothing.
use mathlib.Core.Path.{◌≡◌, refl, sym, ◌∙◌}
use mathlib.Core.Logic.{◌↔◌, ◌⊎◌, inl, inr}
use mathlib.Core.Bool.{Bool, true, false, not, cond}
use Prim.Native.Nat.{ℕ, ◌<◌, ◌≤◌}
use native.Mathlib.Decide.{dec_lt}
use native.Mathlib.Omega.{arith}
use lib.Dec.{eqb}
use lib.ListN.{get_or}
use Rattle.striking.specs.System.{System, crossed}
use Rattle.striking.specs.Status.{remaining, status_byte, statuses}
use Rattle.striking.proofs.Tests.{not_both, is_false}
use Rattle.striking.proofs.Below.{list_at, list_past}
use Rattle.striking.proofs.Remaining.{listed}

-- S i is a, and i is crossed by an edge of S is b
abbrev by_both : Bool → Bool → ℕ
by_both a b = cond a (cond b 1 2) 0

by_zero : (a b : Bool) → (by_both a b ≡ 0) ↔ (a ≡ false)
by_zero true true = (λ e. let z : ◌≡◌ {A = ℕ} 1 0 = e in absurd (omega arith), λ f. not_both refl f)
by_zero true false = (λ e. let z : ◌≡◌ {A = ℕ} 2 0 = e in absurd (omega arith), λ f. not_both refl f)
by_zero false b = (λ e. refl, λ f. refl)

by_one : (a b : Bool) → (by_both a b ≡ 1) ↔ ((a ≡ true) × (b ≡ true))
by_one true true = (λ e. (refl, refl), λ f. refl)
by_one true false = (λ e. let z : ◌≡◌ {A = ℕ} 2 1 = e in absurd (omega arith), λ f. not_both f.1 refl)
by_one false b = (λ e. let z : ◌≡◌ {A = ℕ} 0 1 = e in absurd (omega arith), λ f. not_both f.0 refl)

by_two : (a b : Bool) → (by_both a b ≡ 2) ↔ ((a ≡ true) × (b ≡ false))
by_two true true = (λ e. let z : ◌≡◌ {A = ℕ} 1 2 = e in absurd (omega arith), λ f. not_both refl f.1)
by_two true false = (λ e. (refl, refl), λ f. refl)
by_two false b = (λ e. let z : ◌≡◌ {A = ℕ} 0 2 = e in absurd (omega arith), λ f. not_both f.0 refl)

by_three : (a b : Bool) → (by_both a b ≡ 0) ⊎ (by_both a b ≡ 1) ⊎ (by_both a b ≡ 2)
by_three true true = inr (inl refl)
by_three true false = inr (inr refl)
by_three false b = inl refl

module _ (y : System) (S : ℕ → Bool) (below : (i : ℕ) → S i ≡ true → i < y.size) where
  byte_is : (i : ℕ) → get_or (statuses y S) i 0 ≡ by_both (S i) (crossed y S i)
  unfolding statuses status_byte
  byte_is i = go (dec_lt i y.size)
    where
      go : Dec (i < y.size) → get_or (statuses y S) i 0 ≡ by_both (S i) (crossed y S i)
      go (yes l) = list_at (status_byte y S) y.size i l
      go (no d) =
          let l : y.size ≤ i = omega arith in
          list_past (status_byte y S) y.size i l ∙
          sym ((by_zero (S i) (crossed y S i)).1 (is_false (S i) (λ h. d (below i h))))

  pub byte_zero : (i : ℕ) → (get_or (statuses y S) i 0 ≡ 0) ↔ (S i ≡ false)
  byte_zero i = rw (byte_is i) (by_zero (S i) (crossed y S i))

  pub byte_one : (i : ℕ) → (get_or (statuses y S) i 0 ≡ 1) ↔ ((S i ≡ true) × (crossed y S i ≡ true))
  byte_one i = rw (byte_is i) (by_one (S i) (crossed y S i))

  pub byte_two : (i : ℕ) → (get_or (statuses y S) i 0 ≡ 2) ↔ ((S i ≡ true) × (crossed y S i ≡ false))
  byte_two i = rw (byte_is i) (by_two (S i) (crossed y S i))

  pub byte_three :
      (i : ℕ) → (get_or (statuses y S) i 0 ≡ 0) ⊎ (get_or (statuses y S) i 0 ≡ 1) ⊎ (get_or (statuses y S) i 0 ≡ 2)
  byte_three i = rw (byte_is i) (by_three (S i) (crossed y S i))

  -- the bytes that are not 0 are the set
  pub byte-set : (i : ℕ) → remaining (statuses y S) i ≡ S i
  unfolding statuses status_byte
  byte-set = listed y.size (status_byte y S) S (λ i. bit (S i) (crossed y S i)) below
    where
      bit : (a b : Bool) → not (eqb (by_both a b) 0) ≡ a
      bit true true = refl
      bit true false = refl
      bit false b = refl
