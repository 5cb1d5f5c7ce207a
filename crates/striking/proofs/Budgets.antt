-- Two budgets. The search with the larger goes the same way until the smaller is spent; there the smaller pauses, and the
-- larger goes on from the very same place, by strikes alone. Assumes nothing.
use mathlib.Core.Path.{◌≡◌, refl, sym, subst}
use mathlib.Core.Bool.{Bool, true, false}
use mathlib.Core.List.{List}
use Prim.Native.Nat.{ℕ, zero, suc, ◌+◌, ◌<◌, ◌≤◌}
use native.Mathlib.Nat.{le_refl}
use native.Mathlib.Omega.{arith}
use Rattle.striking.specs.System.{System}
use Rattle.striking.specs.Search.{paused, Final, State, going, over, visit, visits, rounds, search_from}
use Rattle.striking.specs.Strikes.{Struck, nothing}
use Rattle.striking.proofs.Steps.{final, Turn, passes, pauses, keeps, strikes, answers8, turn}
use Rattle.striking.proofs.Steps.{visit_pass, visit_keep, visit_strike, visit_answer8, visit_over, after, rounds_more}
use Rattle.striking.proofs.Invariants.{GrownAt, round_grows, visit_keeps, rounds_keep}
use Rattle.striking.proofs.Runs.{StruckAt, only_strikes}

-- s is where the smaller budget has come, s' where the larger has: the same place, or s has paused and s' went on by strikes
pub data Ahead (y : System) : State → State → Type 0 where
  same : {s : State} → Ahead y s s
  behind : {e : ℕ} {st : List ℕ} {s : State} → StruckAt y st s → Ahead y (over (final paused e st)) s

module _ (y : System) (b b' : ℕ) (l : b ≤ b') where
  -- ---- a turn
  to_same : {s s' : State} → s' ≡ s → Ahead y s s'
  to_same {s} {s'} p = subst (λ (t : State). Ahead y s t) (sym p) same

  turn_ahead :
      (i : ℕ) → i < y.size → (struck : Bool) (e : ℕ) (st : List ℕ) (s : State) → Turn y b i struck e st s →
      Ahead y s (visit y b' i (going struck e st))
  turn_ahead i k struck e st s (passes d) = to_same (visit_pass y b' i struck e st d)
  turn_ahead i k struck e st s (pauses d p) = behind (visit_keeps (only_strikes y b' st) i k (going struck e st) nothing)
  turn_ahead i k struck e st s (keeps d p v) = to_same (visit_keep y b' i struck e st d (omega arith) v)
  turn_ahead i k struck e st s (strikes d p v c) = to_same (visit_strike y b' i struck e st d (omega arith) v c)
  turn_ahead i k struck e st s (answers8 d p v c) = to_same (visit_answer8 y b' i struck e st d (omega arith) v c)

  visit_ahead : (i : ℕ) → i < y.size → (s s' : State) → Ahead y s s' → Ahead y (visit y b i s) (visit y b' i s')
  visit_ahead i k s s' (behind {e = e} {st = st} p) =
      rw (visit_over y b i (final paused e st)) (behind (visit_keeps (only_strikes y b' st) i k s' p))
  visit_ahead i k s s' same = go s
    where
      go : (s : State) → Ahead y (visit y b i s) (visit y b' i s)
      go (over h) = rw (visit_over y b i h, visit_over y b' i h) same
      go (going struck e st) = turn_ahead i k struck e st (visit y b i (going struck e st)) (turn y b i struck e st)

  -- ---- a round
  visits_ahead : (n : ℕ) → n ≤ y.size → (s : State) → Ahead y (visits y b n s) (visits y b' n s)
  unfolding visits
  visits_ahead zero k s = same
  visits_ahead (suc n) k s = visit_ahead n k (visits y b n s) (visits y b' n s) (visits_ahead n (omega arith) s)

  -- ---- the rounds
  after_strikes :
      (fuel e : ℕ) (st : List ℕ) (s : State) → b' < suc fuel + e → GrownAt y b' e s → StruckAt y st s →
      Struck y st (after y b' fuel s).rest
  unfolding after
  after_strikes fuel e st (over h) k g p = p
  after_strikes fuel e st (going false e' st') k g p = p
  after_strikes fuel e st (going true e' st') k g p =
      let m = g.past refl in
      rounds_keep (only_strikes y b' st) fuel e' st' (omega arith) g.within p

  rounds_ahead :
      (f f' e : ℕ) (st : List ℕ) → b < f + e → b' < f' + e → e ≤ b →
      Ahead y (over (rounds y b f e st)) (over (rounds y b' f' e st))
  unfolding after
  rounds_ahead zero f' e st k k' w = absurd (clash k w)
    where
      clash : b < 0 + e → e ≤ b → ⊥
      clash k w = omega arith
  rounds_ahead (suc f) zero e st k k' w = absurd (clash k' w)
    where
      clash : b' < 0 + e → e ≤ b → ⊥
      clash k w = omega arith
  rounds_ahead (suc f) (suc f') e st k k' w =
      rw (rounds_more y b f e st, rounds_more y b' f' e st)
      (go (λ e' st' k k' w. rounds_ahead f f' e' st' k k' w)
      (visits y b y.size (going false e st)) (visits y b' y.size (going false e st))
      (visits_ahead y.size (le_refl y.size) (going false e st)) (round_grows y b e st w)
      (round_grows y b' e st (omega arith)))
    where
      go :
          ((e' : ℕ) (st' : List ℕ) → b < f + e' → b' < f' + e' → e' ≤ b →
          Ahead y (over (rounds y b f e' st')) (over (rounds y b' f' e' st'))) →
          (s s' : State) → Ahead y s s' → GrownAt y b e s → GrownAt y b' e s' →
          Ahead y (over (after y b f s)) (over (after y b' f' s'))
      go ih s s' (behind {st = st} p) g g' = behind (after_strikes f' e st s' k' g' p)
      go ih s s' same g g' = at_same s g
        where
          at_same : (s : State) → GrownAt y b e s → Ahead y (over (after y b f s)) (over (after y b' f' s))
          at_same (over h) g = same
          at_same (going false e' st') g = same
          at_same (going true e' st') g = let p = g.past refl in ih e' st' (omega arith) (omega arith) g.within

  -- ---- the search
  pub search_ahead : (e : ℕ) (st : List ℕ) → e ≤ b → Ahead y (over (search_from y b e st)) (over (search_from y b' e st))
  unfolding search_from
  search_ahead e st w = rounds_ahead (suc b) (suc b') e st (omega arith) (omega arith) w

module _ {y : System} where
  -- what the larger budget leaves came by strikes from what the smaller left
  pub ahead_strikes : {h h' : Final} → Ahead y (over h) (over h') → Struck y h.rest h'.rest
  ahead_strikes same = nothing
  ahead_strikes (behind p) = p

  -- and where the smaller has not paused, they are the same
  pub ahead_same : {h h' : Final} → Ahead y (over h) (over h') → (h.outcome ≡ paused → ⊥) → h ≡ h'
  ahead_same same n = refl
  ahead_same (behind p) n = absurd (n refl)
