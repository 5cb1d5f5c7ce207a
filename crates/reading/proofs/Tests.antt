-- Tests that hold, and searches: what the tests over the numbers below n say of one of them. Assumes nothing.
use mathlib.Core.Path.{◌≡◌, refl, sym, ap, ◌∙◌, subst}
use mathlib.Core.Bool.{Bool, true, false, cond}
use Prim.Native.Nat.{ℕ, ◌<◌}
use native.Mathlib.Omega.{arith}
use lib.Dec.{T}
use Rattle.std.specs.Prelude.{Option, Some, None, is_some, MatchOption}
use Rattle.std.specs.Bool.{then_some}
use Rattle.std.proofs.lemmas.Option.{same_Some}
use Rattle.plane.specs.Numbers.{first_to}
use Rattle.plane.proofs.Laws.Numbers.{first_past, first_at, Seek, found, nowhere, seek}

pub not_both : {A : Type 0} {t : Bool} → t ≡ true → t ≡ false → A
not_both p q = absurd (subst T (sym p ∙ q) tt)

pub and_yes : (s t : Bool) → cond s t false ≡ true → (s ≡ true) × (t ≡ true)
and_yes true t e = (refl, e)
and_yes false t e = not_both e refl

pub unless_yes : (s t : Bool) → cond s false t ≡ true → (s ≡ false) × (t ≡ true)
unless_yes true t e = not_both e refl
unless_yes false t e = (refl, e)

pub before_first : (f : ℕ → Bool) (n j : ℕ) → j < first_to n f → f j ≡ false
before_first f n j l = go (seek f n)
  where
    go : Seek f n → f j ≡ false
    go (found i k h e) = h j (let q = first_at f n i k h e in omega arith)
    go (nowhere h) = h j (let q = first_past f n h in omega arith)

-- ---- an answer that a test gives
pub some_unless : {A : Type 0} (r : Option A) (b : Bool) (Q : A → Type 0) → MatchOption r (b ≡ false) Q → b ≡ true → is_some r ≡ true
some_unless (Some x) b Q h e = refl
some_unless None b Q h e = not_both e h

module _ {A : Type 0} (r : Option A) (b : Bool) (x : A) (h : r ≡ then_some b x) (e : b ≡ true) where
  given : r ≡ Some x
  given = h ∙ ap (λ (c : Bool). then_some c x) e

  pub some_given : is_some r ≡ true
  some_given = ap is_some given

  pub given_is : (y : A) → r ≡ Some y → y ≡ x
  given_is y q = same_Some y x (sym q ∙ given)
