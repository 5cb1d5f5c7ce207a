-- One induction over the whole search: what every turn keeps holds at the end. The fuel never decides, since a round that is
-- followed by another cost an examination, and the fuel exceeds what is left of the budget. Assumes nothing.
use mathlib.Core.Path.{◌≡◌, refl}
use mathlib.Core.Bool.{Bool, true, false}
use mathlib.Core.List.{List}
use Prim.Native.Nat.{ℕ, zero, suc, ◌+◌, ◌<◌, ◌≤◌}
use native.Mathlib.Nat.{le_refl}
use native.Mathlib.Omega.{arith}
use Rattle.striking.specs.System.{System}
use Rattle.striking.specs.Search.{done, Final, State, going, over, visit, visits, rounds, search_from}
use Rattle.striking.proofs.Tests.{not_both}
use Rattle.striking.proofs.Steps.{final, Turn, passes, pauses, keeps, strikes, answers8, turn, visit_over, after, rounds_more}

-- P holds of a round under way, Q where the search is over
abbrev pub At : (Bool → ℕ → List ℕ → Type 0) → (Final → Type 0) → State → Type 0
At P Q (going struck e st) = P struck e st
At P Q (over h) = Q h

-- I holds before the turn of pair i and Q at the end: every turn keeps I or leads to Q, and a round hands I to the next, or leads to Q
-- where it struck nothing
pub record Invariant (y : System) (budget : ℕ) (I : ℕ → Bool → ℕ → List ℕ → Type 0) (Q : Final → Type 0) : Type 0 where
  pub step :
      (i : ℕ) (struck : Bool) (e : ℕ) (st : List ℕ) (s : State) → i < y.size → I i struck e st →
      Turn y budget i struck e st s → At (I (suc i)) Q s
  pub again : (e : ℕ) (st : List ℕ) → I y.size true e st → I 0 false e st
  pub end : (e : ℕ) (st : List ℕ) → I y.size false e st → Q (final done e st)

-- ---- a round
module _
    {y : System} {budget : ℕ} {I : ℕ → Bool → ℕ → List ℕ → Type 0} {Q : Final → Type 0} (k : Invariant y budget I Q) where
  pub visit_keeps : (i : ℕ) → i < y.size → (s : State) → At (I i) Q s → At (I (suc i)) Q (visit y budget i s)
  visit_keeps i l (over h) g = rw (visit_over y budget i h) g
  visit_keeps i l (going struck e st) g =
      k.step i struck e st (visit y budget i (going struck e st)) l g (turn y budget i struck e st)

  pub visits_keep : (n : ℕ) → n ≤ y.size → (s : State) → At (I 0) Q s → At (I n) Q (visits y budget n s)
  unfolding visits
  visits_keep zero l s g = g
  visits_keep (suc n) l s g = visit_keeps n l (visits y budget n s) (visits_keep n (omega arith) s g)

  pub round_keeps : (e : ℕ) (st : List ℕ) → I 0 false e st → At (I y.size) Q (visits y budget y.size (going false e st))
  round_keeps e st g = visits_keep y.size (le_refl y.size) (going false e st) g

-- ---- the examinations of a round that starts with e₀: within the budget, and more than e₀ where something was struck
pub record Grown (budget e₀ : ℕ) (struck : Bool) (e : ℕ) : Type 0 where
  pub from : e₀ ≤ e
  pub within : e ≤ budget
  pub past : struck ≡ true → e₀ < e

module _ (y : System) (budget e₀ : ℕ) where
  abbrev pub GrownAt : State → Type 0
  GrownAt = At (λ struck e st. Grown budget e₀ struck e) (λ h. h.examinations ≤ budget)

  one_more : {struck : Bool} {e : ℕ} → Grown budget e₀ struck e → e < budget → (t : Bool) → Grown budget e₀ t (e + 1)
  one_more g l t = record { from = omega arith; within = omega arith; past = λ h. omega arith }

  grown_step :
      (i : ℕ) (struck : Bool) (e : ℕ) (st : List ℕ) (s : State) → i < y.size → Grown budget e₀ struck e →
      Turn y budget i struck e st s → GrownAt s
  grown_step i struck e st s l g (passes d) = g
  grown_step i struck e st s l g (pauses d p) = g.within
  grown_step i struck e st s l g (keeps d p v) = one_more g p struck
  grown_step i struck e st s l g (strikes d p v c) = one_more g p true
  grown_step i struck e st s l g (answers8 d p v c) = omega arith

  grown : Invariant y budget (λ i struck e st. Grown budget e₀ struck e) (λ h. h.examinations ≤ budget)
  grown =
      record {
        step = grown_step;
        again = λ e st g. record { from = g.from; within = g.within; past = λ h. not_both h refl };
        end = λ e st g. g.within;
      }

  pub round_grows : (st : List ℕ) → e₀ ≤ budget → GrownAt (visits y budget y.size (going false e₀ st))
  round_grows st l = round_keeps grown e₀ st (record { from = omega arith; within = l; past = λ h. not_both h refl })

-- ---- the rounds
module _
    {y : System} {budget : ℕ} {I : ℕ → Bool → ℕ → List ℕ → Type 0} {Q : Final → Type 0} (k : Invariant y budget I Q) where
  pub rounds_keep :
      (fuel e : ℕ) (st : List ℕ) → budget < fuel + e → e ≤ budget → I 0 false e st → Q (rounds y budget fuel e st)
  unfolding after
  rounds_keep zero e st l w g = absurd (clash l w)
    where
      clash : budget < 0 + e → e ≤ budget → ⊥
      clash l w = omega arith
  rounds_keep (suc fuel) e st l w g =
      rw (rounds_more y budget fuel e st)
      (go (λ e' st' l w g. rounds_keep fuel e' st' l w g) (visits y budget y.size (going false e st)) (round_keeps k e st g)
      (round_grows y budget e st w))
    where
      go :
          ((e' : ℕ) (st' : List ℕ) → budget < fuel + e' → e' ≤ budget → I 0 false e' st' → Q (rounds y budget fuel e' st')) →
          (s : State) → At (I y.size) Q s → GrownAt y budget e s → Q (after y budget fuel s)
      go ih (over h) g r = g
      go ih (going false e' st') g r = k.end e' st' g
      go ih (going true e' st') g r = let p = r.past refl in ih e' st' (omega arith) r.within (k.again e' st' g)

  pub search_keeps : (e : ℕ) (st : List ℕ) → e ≤ budget → I 0 false e st → Q (search_from y budget e st)
  unfolding search_from
  search_keeps e st w g = rounds_keep (suc budget) e st (omega arith) w g
