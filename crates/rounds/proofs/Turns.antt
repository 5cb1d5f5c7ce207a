-- The code's state and the search's: what an examination, a pair's turn, a round and the rounds come to. Each is striking's law at the state
-- that the code's stands for. Assumes nothing.
use mathlib.Core.Path.{◌≡◌, refl, sym, ap, ◌∙◌, subst}
use mathlib.Core.Bool.{Bool, true, false}
use mathlib.Core.List.{List}
use Prim.Native.Nat.{ℕ, suc, ◌+◌, ◌<◌, ◌≤◌}
use native.Mathlib.Numerals.{add-one}
use lib.IntN.{ℤ}
use lib.ListN.{set}
use Rattle.pairs.specs.Pairs.{pair_number}
use Rattle.pairs.proofs.Laws.{pair_at_number}
use Rattle.striking.specs.System.{System, crossed, due}
use Rattle.striking.specs.Status.{remaining}
use Rattle.striking.specs.Search.{done, paused, answer8, State, going, over, examine, visit, visits, rounds}
use Rattle.striking.proofs.Steps.{visit_pass, visit_pause, visit_examines, visit_over, after, rounds_more}
use Rattle.striking.proofs.Invariants.{Grown, GrownAt, round_grows}
use Rattle.std.specs.Prelude.{Option, is_some}
use Rattle.certificates.specs.declared.certificate.Apexes.{Apexes}
use Rattle.rounds.specs.declared.search.Halt.{Halt}
use Rattle.rounds.specs.declared.search.Halt.TheVariants.{Going, Finished, Spent, Stuck}
use Rattle.rounds.specs.declared.search.Run.{Run}
use Rattle.certificates.specs.Certificate.{first_certificate}
use Rattle.certificates.specs.Plate.{edges_of, certified, plate}
use Rattle.rounds.specs.Run.{outcome_by, as_final, state_by, as_state}

-- ---- what is known of the certificate is known of the system
vouched_by : (m : List ℤ) (S : ℕ → Bool) (a b : ℕ) → a < b → (plate m).vouched S (pair_number a b) ≡ is_some (first_certificate m (edges_of m S) a b)
unfolding plate certified
vouched_by m S a b l = ap (certified m (edges_of m S)) (pair_at_number a b l)

-- ---- an examination
module _ (m : List ℤ) (struck : Bool) (e : ℕ) (st : List ℕ) (a b : ℕ) (l : a < b) where
  abbrev y : System
  y = plate m

  abbrev i : ℕ
  i = pair_number a b

  found : {p : Option Apexes} → p ≡ first_certificate m (edges_of m (remaining st)) a b → y.vouched (remaining st) i ≡ is_some p
  found f = vouched_by m (remaining st) a b l ∙ ap is_some (sym f)

  module _ {p : Option Apexes} (f : p ≡ first_certificate m (edges_of m (remaining st)) a b) where
    pub examine_keeps : is_some p ≡ true → going struck (e + 1) st ≡ examine y struck e st i
    unfolding examine
    examine_keeps q = sym (rw (examine, found f ∙ q))

    module _ (q : is_some p ≡ false) where
      pub examine_strikes : crossed y (remaining st) i ≡ true → going true (e + 1) (set st i 0) ≡ examine y struck e st i
      unfolding examine
      examine_strikes c = sym (rw (examine, found f ∙ q, c))

      pub examine_stuck :
          crossed y (remaining st) i ≡ false →
          over (record { outcome = answer8 i; examinations = e + 1; rest = st }) ≡ examine y struck e st i
      unfolding examine
      examine_stuck c = sym (rw (examine, found f ∙ q, c))

-- ---- the code's state
pub state_going : {run : Run} {st : List ℕ} → run.halt ≡ Going → as_state run st ≡ going run.struck run.exams st
unfolding as_state state_by
state_going {run} {st} h = ap (λ (x : Halt). state_by x run st) h

-- a state that is not going is over
pub state_over : (run : Run) (st : List ℕ) → ¬ (run.halt ≡ Going) → as_state run st ≡ over (as_final run st)
unfolding as_state state_by
state_over run st n = go run.halt (λ e. n e)
  where
    go : (h : Halt) → ¬ (h ≡ Going) → state_by h run st ≡ over (as_final run st)
    go Going k = absurd (k refl)
    go Finished k = refl
    go Spent k = refl
    go (Stuck i) k = refl

-- what is neither stuck nor finished is told as paused
pub paused_by : (h : Halt) → ((i : ℕ) → ¬ (h ≡ Stuck i)) → ¬ (h ≡ Finished) → outcome_by h ≡ paused
unfolding outcome_by
paused_by Going j k = refl
paused_by Finished j k = absurd (k refl)
paused_by Spent j k = refl
paused_by (Stuck i) j k = absurd (j i refl)

-- ---- a pair's turn
module _ (y : System) (budget i : ℕ) (run : Run) (st : List ℕ) where
  pub turn_over : ¬ (run.halt ≡ Going) → as_state run st ≡ visit y budget i (as_state run st)
  turn_over n = state_over run st n ∙ sym (visit_over y budget i (as_final run st)) ∙ ap (visit y budget i) (sym (state_over run st n))

  module _ (h : run.halt ≡ Going) where
    pub turn_passes : due y (remaining st) i ≡ false → as_state run st ≡ visit y budget i (as_state run st)
    turn_passes d = state_going h ∙ sym (visit_pass y budget i run.struck run.exams st d) ∙ ap (visit y budget i) (sym (state_going h))

    pub turn_examines :
        due y (remaining st) i ≡ true → run.exams < budget →
        examine y run.struck run.exams st i ≡ visit y budget i (as_state run st)
    turn_examines d l = sym (visit_examines y budget i run.struck run.exams st d l) ∙ ap (visit y budget i) (sym (state_going h))

    pub turn_pauses :
        due y (remaining st) i ≡ true → budget ≤ run.exams →
        over (record { outcome = paused; examinations = run.exams; rest = st }) ≡ visit y budget i (as_state run st)
    turn_pauses d l = sym (visit_pause y budget i run.struck run.exams st d l) ∙ ap (visit y budget i) (sym (state_going h))

-- ---- a round, pair by pair
pub visits_none : (y : System) (budget : ℕ) (s : State) → visits y budget 0 s ≡ s
unfolding visits
visits_none y budget s = refl

pub visits_more : (y : System) (budget i : ℕ) (s : State) → visits y budget (i + 1) s ≡ visit y budget i (visits y budget i s)
unfolding visits
visits_more y budget i s = rw (add-one i)

-- ---- the rounds. `run` and `st` are what a round left that began with e examinations made and st₀ remaining
module _
    (y : System) (budget fuel e : ℕ) (st₀ : List ℕ) (run : Run) (st : List ℕ)
    (r : as_state run st ≡ visits y budget y.size (going false e st₀)) where
  round_then : {s : State} → as_state run st ≡ s → rounds y budget (suc fuel) e st₀ ≡ after y budget fuel s
  round_then q = rounds_more y budget fuel e st₀ ∙ ap (after y budget fuel) (sym r ∙ q)

  pub rounds_over : ¬ (run.halt ≡ Going) → as_final run st ≡ rounds y budget (suc fuel) e st₀
  unfolding after
  rounds_over n = sym (round_then (state_over run st n))

  module _ (h : run.halt ≡ Going) where
    pub rounds_done :
        run.struck ≡ false →
        record { outcome = done; examinations = run.exams; rest = st } ≡ rounds y budget (suc fuel) e st₀
    unfolding after
    rounds_done z = sym (round_then (state_going h ∙ ap (λ (b : Bool). going b run.exams st) z))

    pub rounds_again : run.struck ≡ true → rounds y budget fuel run.exams st ≡ rounds y budget (suc fuel) e st₀
    unfolding after
    rounds_again z = sym (round_then (state_going h ∙ ap (λ (b : Bool). going b run.exams st) z))

    -- a round that struck something made an examination, within the budget
    pub round_cost : e ≤ budget → run.struck ≡ true → (e < run.exams) × (run.exams ≤ budget)
    round_cost l z =
        let g : Grown budget e run.struck run.exams = subst (GrownAt y budget e) (sym r ∙ state_going h) (round_grows y budget e st₀ l) in
        (g.past z, g.within)
