-- What a search from any set has done at its end: it only struck, and it ended for the reason that its outcome gives. Each turn
-- keeps that; a round that struck nothing found a certificate for each edge that it examined, in the set that remains. Assumes
-- nothing.
use mathlib.Core.Path.{◌≡◌, refl, sym, subst}
use mathlib.Core.Logic.{⊎_elim}
use mathlib.Core.Bool.{Bool, true, false}
use mathlib.Core.List.{List}
use Prim.Native.Nat.{ℕ, suc, ◌<◌, ◌≤◌}
use native.Mathlib.Nat.{eq-or-lt_of_le, le_of_suc-le-suc, not-suc-le-zero}
use native.Mathlib.Omega.{arith}
use Rattle.striking.specs.System.{System, crossed, due}
use Rattle.striking.specs.Status.{remaining}
use Rattle.striking.specs.Search.{Outcome, done, paused, answer8, Final, State, search_from}
use Rattle.striking.specs.Strikes.{Struck, nothing, next}
use Rattle.striking.proofs.Tests.{not_both}
use Rattle.striking.proofs.Steps.{Turn, passes, pauses, keeps, strikes, answers8}
use Rattle.striking.proofs.Invariants.{At, Invariant, search_keeps}

-- ---- it only struck
-- strikes lead from st₀ to what remains
abbrev pub StruckAt : System → List ℕ → State → Type 0
StruckAt y st₀ = At (λ struck e st. Struck y st₀ st) (λ h. Struck y st₀ h.rest)

module _ (y : System) (budget : ℕ) (st₀ : List ℕ) where
  strike_step :
      (i : ℕ) (struck : Bool) (e : ℕ) (st : List ℕ) (s : State) → i < y.size → Struck y st₀ st →
      Turn y budget i struck e st s → StruckAt y st₀ s
  strike_step i struck e st s l g (passes d) = g
  strike_step i struck e st s l g (pauses d p) = g
  strike_step i struck e st s l g (keeps d p v) = g
  strike_step i struck e st s l g (strikes d p v c) = next i g d v c
  strike_step i struck e st s l g (answers8 d p v c) = g

  pub only_strikes : Invariant y budget (λ i struck e st. Struck y st₀ st) (λ h. Struck y st₀ h.rest)
  only_strikes = record { step = strike_step; again = λ e st g. g; end = λ e st g. g }

pub search_strikes : (y : System) (budget e : ℕ) (st : List ℕ) → e ≤ budget → Struck y st (search_from y budget e st).rest
search_strikes y budget e st l = search_keeps (only_strikes y budget st) e st l nothing

-- ---- why it ended
-- each inner edge of S below n has a certificate in S
abbrev pub AllVouched : System → ℕ → (ℕ → Bool) → Type 0
AllVouched y n S = (j : ℕ) → j < n → due y S j ≡ true → y.vouched S j ≡ true

-- an examination is due where S remains
abbrev pub SomeDue : System → (ℕ → Bool) → Type 0
SomeDue y S = (i : ℕ) × (i < y.size) × (due y S i ≡ true)

-- i is an inner edge of S with no certificate in S, and no edge of S crosses it
abbrev pub Stranded : System → (ℕ → Bool) → ℕ → Type 0
Stranded y S i = (i < y.size) × (due y S i ≡ true) × (y.vouched S i ≡ false) × (crossed y S i ≡ false)

module _ (y : System) (budget : ℕ) where
  -- why a search ended where S remains, with e examinations made
  abbrev pub Reason : Outcome → ℕ → (ℕ → Bool) → Type 0
  Reason done e S = AllVouched y y.size S
  Reason paused e S = (e ≡ budget) × SomeDue y S
  Reason (answer8 i) e S = Stranded y S i

  pub record Ended (h : Final) : Type 0 where
    pub within : h.examinations ≤ budget
    pub reason : Reason h.outcome h.examinations (remaining h.rest)

  -- before the turn of pair i: as long as the round has struck nothing, what it has examined has a certificate
  record Calm (i : ℕ) (struck : Bool) (e : ℕ) (st : List ℕ) : Type 0 where
    within : e ≤ budget
    calm : struck ≡ false → AllVouched y i (remaining st)

  one_place : (i : ℕ) (S : ℕ → Bool) → AllVouched y i S → (due y S i ≡ true → y.vouched S i ≡ true) → AllVouched y (suc i) S
  one_place i S h k j l d =
      ⊎_elim (λ e. subst (λ (n : ℕ). due y S n ≡ true → y.vouched S n ≡ true) (sym e) k d) (λ l'. h j l' d)
      (eq-or-lt_of_le (le_of_suc-le-suc l))

  calm_step :
      (i : ℕ) (struck : Bool) (e : ℕ) (st : List ℕ) (s : State) → i < y.size → Calm i struck e st →
      Turn y budget i struck e st s → At (Calm (suc i)) Ended s
  calm_step i struck e st s l g (passes d) =
      record { within = g.within; calm = λ f. one_place i (remaining st) (g.calm f) (λ t. not_both t d) }
  calm_step i struck e st s l g (pauses d p) = let w = g.within in record { within = w; reason = (omega arith, (i, l, d)) }
  calm_step i struck e st s l g (keeps d p v) =
      record { within = omega arith; calm = λ f. one_place i (remaining st) (g.calm f) (λ t. v) }
  calm_step i struck e st s l g (strikes d p v c) = record { within = omega arith; calm = λ f. not_both refl f }
  calm_step i struck e st s l g (answers8 d p v c) = record { within = omega arith; reason = (l, d, v, c) }

  none_yet : (e : ℕ) (st : List ℕ) → e ≤ budget → Calm 0 false e st
  none_yet e st l = record { within = l; calm = λ f j k d. absurd (not-suc-le-zero k) }

  calm_kept : Invariant y budget Calm Ended
  calm_kept =
      record {
        step = calm_step;
        again = λ e st g. none_yet e st g.within;
        end = λ e st g. record { within = g.within; reason = g.calm refl };
      }

  pub search_ended : (e : ℕ) (st : List ℕ) → e ≤ budget → Ended (search_from y budget e st)
  search_ended e st l = search_keeps calm_kept e st l (none_yet e st l)

  pub reason_of : {h : Final} → Ended h → {o : Outcome} → h.outcome ≡ o → Reason o h.examinations (remaining h.rest)
  reason_of {h} g q = subst (λ (o : Outcome). Reason o h.examinations (remaining h.rest)) q g.reason
