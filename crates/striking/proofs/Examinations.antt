-- How many examinations a search makes. With k inner edges that remain, c of them before place i, and e examinations made, the
-- search can still cost k - c in this round and, in later ones, 1 + .. + k where this round has struck something, 1 + .. + (k-1)
-- where it has not. No turn lets e and that sum exceed the bound that held at the start. Assumes nothing.
use mathlib.Core.Path.{◌≡◌, sym, ap, ◌∙◌, subst}
use mathlib.Core.Bool.{Bool, true, false, cond}
use mathlib.Core.List.{List}
use Prim.Native.Nat.{ℕ, suc, ◌+◌, ◌*◌, ◌/◌, ◌<◌, ◌≤◌}
use native.Mathlib.Nat.{le_refl}
use native.Mathlib.Omega.{arith}
use lib.ListN.{set}
use Rattle.striking.specs.Below.{count_below}
use Rattle.striking.specs.System.{System, due, inner_edges}
use Rattle.striking.specs.Status.{remaining, all_edges}
use Rattle.striking.specs.Search.{Outcome, done, paused, answer8, Final, State, search_from}
use Rattle.striking.specs.Demands.{ample}
use Rattle.striking.proofs.Tests.{not_both, is_false}
use Rattle.striking.proofs.Counting.{count_yes, count_no, count_le, count_same, count-drop, count_up, count_small}
use Rattle.striking.proofs.Sums.{sum_to, sum_below, sum_suc, sum_last, sum_up, sum_half}
use Rattle.striking.proofs.Remaining.{struck_gone, others_stay}
use Rattle.striking.proofs.System.{due_in, due_inner}
use Rattle.striking.proofs.Steps.{Turn, passes, pauses, keeps, strikes, answers8}
use Rattle.striking.proofs.Invariants.{At, Invariant, search_keeps}

-- how many inner edges S has below i
abbrev pub inner_in : System → ℕ → (ℕ → Bool) → ℕ
inner_in y i S = count_below i (due y S)

-- what later rounds can cost, where k inner edges remain
unfoldable later : Bool → ℕ → ℕ
later true k = sum_to k
later false k = sum_below k

later_drops : (struck : Bool) (k : ℕ) → sum_to k ≤ later struck (suc k)
unfolding later sum_below
later_drops true k = omega (arith, sum_suc k)
later_drops false k = le_refl (sum_to k)

-- ---- a strike leaves one inner edge fewer, and as many before its place
module _ (y : System) (i : ℕ) (st : List ℕ) (d : due y (remaining st) i ≡ true) where
  gone : due y (remaining (set st i 0)) i ≡ false
  gone = is_false _ (λ t. not_both (due_in y (remaining (set st i 0)) i t) (struck_gone st i))

  others : (j : ℕ) → (j ≡ i → ⊥) → due y (remaining st) j ≡ due y (remaining (set st i 0)) j
  unfolding due
  others j n = ap (λ (b : Bool). cond b (y.inner j) false) (sym (others_stay st i j n))

  one_fewer : i < y.size → inner_in y y.size (remaining st) ≡ suc (inner_in y y.size (remaining (set st i 0)))
  one_fewer l = count-drop (due y (remaining st)) (due y (remaining (set st i 0))) i d gone others y.size l

  as_many_before : inner_in y (suc i) (remaining (set st i 0)) ≡ inner_in y i (remaining st)
  as_many_before =
      count_no (due y (remaining (set st i 0))) i gone ∙
      sym (count_same (due y (remaining st)) (due y (remaining (set st i 0))) i (λ j l. others j (apart j l)))
    where
      apart : (j : ℕ) → j < i → j ≡ i → ⊥
      apart j l e = omega arith

-- ---- the bound
module _ (y : System) (budget bound : ℕ) where
  record Bounded (i : ℕ) (struck : Bool) (e : ℕ) (st : List ℕ) : Type 0 where
    holds :
        e + inner_in y y.size (remaining st) + later struck (inner_in y y.size (remaining st)) ≤
        bound + inner_in y i (remaining st)

  -- what was spent at the end; at done the bound still has room for what a strike in the last round would have led to
  abbrev pub SpentAt : Outcome → ℕ → List ℕ → Type 0
  SpentAt done e st = e + sum_below (inner_in y y.size (remaining st)) ≤ bound
  SpentAt paused e st = (e ≤ bound) × (budget < bound)
  SpentAt (answer8 i) e st = e ≤ bound

  abbrev pub Spent : Final → Type 0
  Spent h = SpentAt h.outcome h.examinations h.rest

  due_counts :
      (i : ℕ) (st : List ℕ) → i < y.size → due y (remaining st) i ≡ true →
      inner_in y i (remaining st) < inner_in y y.size (remaining st)
  due_counts i st l d = omega (arith, count_yes (due y (remaining st)) i d, count_up (due y (remaining st)) (suc i) y.size l)

  bounded_strike :
      (i : ℕ) {struck : Bool} {e : ℕ} {st : List ℕ} → i < y.size → Bounded i struck e st → due y (remaining st) i ≡ true →
      Bounded (suc i) true (e + 1) (set st i 0)
  unfolding later
  bounded_strike i {struck} {e} {st} l g d =
      let k = inner_in y y.size (remaining (set st i 0)) in
      let before : ℕ = inner_in y i (remaining st) in
      let b = subst (λ (n : ℕ). e + n + later struck n ≤ bound + before) (one_fewer y i st d l) g.holds in
      record { holds = omega (arith, b, as_many_before y i st d, later_drops struck k) }

  bounded_step :
      (i : ℕ) (struck : Bool) (e : ℕ) (st : List ℕ) (s : State) → i < y.size → Bounded i struck e st →
      Turn y budget i struck e st s → At (Bounded (suc i)) Spent s
  bounded_step i struck e st s l g (passes d) = record { holds = omega (arith, g.holds, count_no (due y (remaining st)) i d) }
  bounded_step i struck e st s l g (pauses d p) =
      (omega (arith, g.holds, due_counts i st l d), omega (arith, g.holds, due_counts i st l d))
  bounded_step i struck e st s l g (keeps d p v) = record { holds = omega (arith, g.holds, count_yes (due y (remaining st)) i d) }
  bounded_step i struck e st s l g (strikes d p v c) = bounded_strike i l g d
  bounded_step i struck e st s l g (answers8 d p v c) = omega (arith, g.holds, due_counts i st l d)

  bounded : Invariant y budget Bounded Spent
  unfolding later count_below
  bounded =
      record {
        step = bounded_step;
        again = λ e st g. record { holds = omega (arith, g.holds, sum_last (inner_in y y.size (remaining st))) };
        end = λ e st g. omega (arith, g.holds);
      }

  -- a search from a set with k inner edges makes at most 1 + .. + k examinations
  pub search_spent :
      (e : ℕ) (st : List ℕ) → e ≤ budget → e + sum_to (inner_in y y.size (remaining st)) ≤ bound →
      Spent (search_from y budget e st)
  unfolding later count_below
  search_spent e st l b =
      search_keeps bounded e st l (record { holds = omega (arith, b, sum_last (inner_in y y.size (remaining st))) })

  pub spent_few : (h : Final) → Spent h → h.examinations ≤ bound
  spent_few h g = go h.outcome g
    where
      go : (o : Outcome) → SpentAt o h.examinations h.rest → h.examinations ≤ bound
      go done g = omega arith
      go paused g = g.0
      go (answer8 i) g = g

  pub spent_pause : (h : Final) → Spent h → bound ≤ budget → h.outcome ≡ paused → ⊥
  spent_pause h g l q = go (subst (λ (o : Outcome). SpentAt o h.examinations h.rest) q g)
    where
      go : (h.examinations ≤ bound) × (budget < bound) → ⊥
      go g = omega arith

-- ---- m(m+1)/2
-- no set has more inner edges than there are
pub inner_few : (y : System) (S : ℕ → Bool) → inner_in y y.size S ≤ inner_edges y
inner_few y S = count_le (due y S) y.inner (due_inner y S) y.size

pub run_spent : (y : System) (budget : ℕ) → Spent y budget (ample y) (search_from y budget 0 (all_edges y))
run_spent y budget =
    search_spent y budget (ample y) 0 (all_edges y) (omega arith)
    (omega (arith, sum_half (inner_edges y), sum_up _ _ (inner_few y (remaining (all_edges y)))))

-- with n pairs that is at most n(n+1)/2
pub ample_few : (y : System) (n : ℕ) → y.size ≤ n → ample y ≤ n * (n + 1) / 2
ample_few y n l =
    let k = count_small y.inner y.size in
    omega (arith, sum_half (inner_edges y), sum_half n, sum_up (inner_edges y) n (omega arith))
