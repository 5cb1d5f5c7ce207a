-- The theorems of striking, for every lawful system and every budget. Each proof cites the file of proofs/ that has the reason.
-- Assumes nothing.
use mathlib.Core.Path.{◌≡◌, ap, ◌∙◌}
use mathlib.Core.Logic.{◌↔◌, ◌⊎◌}
use mathlib.Core.Bool.{Bool, true, false}
use mathlib.Core.List.{List}
use Prim.Native.Nat.{ℕ, ◌+◌, ◌*◌, ◌/◌, ◌≤◌, ◌<◌}
use native.Mathlib.Omega.{arith}
use lib.ListN.{get_or, length, replicate}
use Rattle.striking.specs.System.{System, Lawful, due}
use Rattle.striking.specs.Status.{remaining, all_edges, statuses}
use Rattle.striking.specs.Search.{done, paused, answer8, is_answer8, run, remaining_set, report, search_result, byte}
use Rattle.striking.specs.Strikes.{Struck}
use Rattle.striking.specs.Demands.{Supported, Largest, LocallyMinimal, ample}
use Rattle.striking.proofs.System.{due_in, due_inner, crossed_by_none, crossed_by_another, crossed_by_no_other}
use Rattle.striking.proofs.Remaining.{all_edges_lem}
use Rattle.striking.proofs.Strikes.{hull_stays}
use Rattle.striking.proofs.Runs.{search_strikes, search_ended, reason_of}
use Rattle.striking.proofs.Examinations.{run_spent, spent_few, spent_pause, ample_few}
use Rattle.striking.proofs.Budgets.{search_ahead, ahead_strikes, ahead_same}
use Rattle.striking.proofs.Bytes.{byte_zero, byte_one, byte_two, byte_three}
use Rattle.striking.proofs.AnyOrder.{rest_below, certain_in, impossible_out, largest_same}
use Rattle.striking.proofs.Sound.{Sound, ended_done, complete_rest, complete_bytes, report_bytes, report_answer8}
use Rattle.striking.proofs.Sound.{report-length, report_remaining, end_largest, report_certain, report_impossible}
use Rattle.striking.proofs.Sound.{report_certain_later, report_impossible_later}

-- The search only strikes, and at done each inner edge that remains has a certificate. All that its result tells rests on that.
pub run_sound : (y : System) (budget : ℕ) → Sound y (run y budget)
unfolding run
run_sound y budget =
    record {
      strikes = search_strikes y budget 0 (all_edges y) (omega arith);
      vouched = λ q. reason_of y budget (search_ended y budget 0 (all_edges y) (omega arith)) q;
    }

module _ (y : System) (law : Lawful y) (budget : ℕ) where
  -- ---- the search

  -- The search makes no more examinations than the budget allows.
  pub within_budget : (search_result y budget).examinations ≤ budget
  unfolding search_result report run
  within_budget = (search_ended y budget 0 (all_edges y) (omega arith)).within

  -- It pauses only where the budget is spent and an examination is due.
  pub paused_due :
      (search_result y budget).outcome ≡ paused →
      ((search_result y budget).examinations ≡ budget) × ((i : ℕ) × (i < y.size) × (due y (remaining_set y budget) i ≡ true))
  unfolding search_result report run
  paused_due q = reason_of y budget (search_ended y budget 0 (all_edges y) (omega arith)) q

  -- What remains is pairs.
  pub remaining_below : (i : ℕ) → remaining_set y budget i ≡ true → i < y.size
  remaining_below = rest_below y law (run_sound y budget).strikes

  -- Answer 8 names an inner edge that remains, has no certificate in the remaining set and is crossed by nothing remaining.
  pub answer8_names :
      (i : ℕ) → (search_result y budget).outcome ≡ answer8 i →
      (i < y.size) × (remaining_set y budget i ≡ true) × (y.inner i ≡ true) × (y.vouched (remaining_set y budget) i ≡ false) ×
      ((j : ℕ) → remaining_set y budget j ≡ true → y.cross i j ≡ false)
  unfolding search_result report run
  answer8_names i q =
      let S = remaining_set y budget in
      let r = reason_of y budget (search_ended y budget 0 (all_edges y) (omega arith)) q in
      (r.0, due_in y S i r.1, due_inner y S i r.1, r.2, crossed_by_none y S i remaining_below r.3)

  -- ---- the status bytes

  -- There is one byte a pair.
  pub status-length : length (search_result y budget).status ≡ y.size
  unfolding search_result
  status-length = report-length y (run y budget)

  -- After answer 8 every byte is 255.
  pub answer8_bytes : (i : ℕ) → (search_result y budget).outcome ≡ answer8 i → (search_result y budget).status ≡ replicate y.size 255
  unfolding search_result report
  answer8_bytes i q = report_answer8 y (run y budget) i q

  -- Without answer 8 ..
  module _ (f : is_answer8 (search_result y budget).outcome ≡ false) where
    -- .. the bytes are the statuses of what remains;
    pub status_is : (search_result y budget).status ≡ statuses y (remaining_set y budget)
    unfolding search_result report
    status_is = report_bytes y (run y budget) f

    -- .. those that are not 0 are what remains;
    pub status_remaining : remaining (search_result y budget).status ≡ remaining_set y budget
    unfolding search_result report
    status_remaining = report_remaining y law (run y budget) (run_sound y budget) f

    -- .. each byte is 0, 1 or 2;
    pub three_bytes : (i : ℕ) → (byte (search_result y budget) i ≡ 0) ⊎ (byte (search_result y budget) i ≡ 1) ⊎ (byte (search_result y budget) i ≡ 2)
    three_bytes i = rw status_is (byte_three y (remaining_set y budget) remaining_below i)

    -- .. 0 exactly if the pair does not remain;
    pub impossible_exactly : (i : ℕ) → (byte (search_result y budget) i ≡ 0) ↔ (remaining_set y budget i ≡ false)
    impossible_exactly i = rw status_is (byte_zero y (remaining_set y budget) remaining_below i)

    -- .. 2 exactly if it remains and no other remaining edge crosses it;
    pub certain_exactly :
        (i : ℕ) →
        (byte (search_result y budget) i ≡ 2) ↔
        ((remaining_set y budget i ≡ true) × ((j : ℕ) → remaining_set y budget j ≡ true → (j ≡ i → ⊥) → y.cross i j ≡ false))
    certain_exactly i =
        let c = crossed_by_no_other y (remaining_set y budget) i remaining_below law in
        let two = byte_two y (remaining_set y budget) remaining_below i in
        rw status_is (λ b. let r = two.0 b in (r.0, c.0 r.1), λ r. two.1 (r.0, c.1 r.1))

    -- .. 1 exactly if it remains and another remaining edge crosses it.
    pub possible_exactly :
        (i : ℕ) →
        (byte (search_result y budget) i ≡ 1) ↔
        ((remaining_set y budget i ≡ true) × ((j : ℕ) × (remaining_set y budget j ≡ true) × (j ≡ i → ⊥) × (y.cross i j ≡ true)))
    possible_exactly i =
        let c = crossed_by_another y (remaining_set y budget) i remaining_below law in
        let one = byte_one y (remaining_set y budget) remaining_below i in
        rw status_is (λ b. let r = one.0 b in (r.0, c.0 r.1), λ r. one.1 (r.0, c.1 r.1))

  -- ---- demand 2

  -- At done what remains is the largest set that holds the hull edges and in which each inner edge has a certificate.
  pub done_largest : (search_result y budget).outcome ≡ done → Largest y (remaining_set y budget)
  unfolding search_result report
  done_largest q = end_largest y law (run y budget) (run_sound y budget) q

  -- A hull edge remains under every budget.
  pub hull_remains : (i : ℕ) → y.edge i ≡ true → y.inner i ≡ false → remaining_set y budget i ≡ true
  hull_remains i h k = hull_stays (run_sound y budget).strikes i (all_edges_lem y law i ∙ h) k

  -- ---- demand 3

  -- A 2 is in every locally minimal triangulation, under every budget.
  pub certain_in_every : {T : ℕ → Bool} → LocallyMinimal y T → (i : ℕ) → byte (search_result y budget) i ≡ 2 → T i ≡ true
  unfolding search_result
  certain_in_every t i b = report_certain y law (run y budget) (run_sound y budget) t i b

  -- A 0 is in none, under every budget.
  pub impossible_in_none : {T : ℕ → Bool} → LocallyMinimal y T → (i : ℕ) → byte (search_result y budget) i ≡ 0 → T i ≡ false
  unfolding search_result
  impossible_in_none t i b = report_impossible y law (run y budget) (run_sound y budget) t i b

  -- With m inner edges a search makes at most m(m+1)/2 examinations.
  pub few_examinations : (search_result y budget).examinations ≤ ample y
  unfolding search_result report run
  few_examinations = spent_few y budget (ample y) (run y budget) (run_spent y budget)

  -- With a budget of at least that it never pauses.
  pub never_pauses : ample y ≤ budget → (search_result y budget).outcome ≡ paused → ⊥
  unfolding search_result report run
  never_pauses l q = spent_pause y budget (ample y) (run y budget) (run_spent y budget) l q

-- There is only one largest set.
pub one_largest : {y : System} {S S' : ℕ → Bool} → Largest y S → Largest y S' → S ≡ S'
one_largest a b = largest_same a b

-- With n pairs, n(n+1)/2 examinations are ample.
pub ample_below : (y : System) (n : ℕ) → y.size ≤ n → ample y ≤ n * (n + 1) / 2
ample_below y n l = ample_few y n l

-- Of two budgets ..
module _ (y : System) (law : Lawful y) (b b' : ℕ) (l : b ≤ b') where
  -- .. the larger gives the same result, if the smaller did not pause;
  pub unpaused_stays : ((search_result y b).outcome ≡ paused → ⊥) → search_result y b ≡ search_result y b'
  unfolding search_result report run
  unpaused_stays n = ap (report y) (ahead_same (search_ahead y b b' l 0 (all_edges y) (omega arith)) n)

  -- .. what the larger leaves comes by strikes from what the smaller left;
  pub goes_on : Struck y (run y b).rest (run y b').rest
  unfolding run
  goes_on = ahead_strikes (search_ahead y b b' l 0 (all_edges y) (omega arith))

  -- .. and, if neither gives answer 8, the larger
  module _ (f : is_answer8 (search_result y b).outcome ≡ false) (f' : is_answer8 (search_result y b').outcome ≡ false) where
    -- keeps every 2
    pub certain_stays : (i : ℕ) → byte (search_result y b) i ≡ 2 → byte (search_result y b') i ≡ 2
    unfolding search_result report
    certain_stays = report_certain_later y law (run y b) (run y b') (run_sound y b) (run_sound y b') goes_on f f'

    -- and every 0.
    pub impossible_stays : (i : ℕ) → byte (search_result y b) i ≡ 0 → byte (search_result y b') i ≡ 0
    unfolding search_result report
    impossible_stays = report_impossible_later y law (run y b) (run y b') (run_sound y b) (run_sound y b') goes_on f f'

-- ---- strikes in any order

-- Whatever strikes lead from all empty edges to what remains ..
module _ (y : System) (law : Lawful y) {st : List ℕ} (p : Struck y (all_edges y) st) where
  -- .. a 2 is in every locally minimal triangulation;
  pub struck_certain :
      {T : ℕ → Bool} → LocallyMinimal y T → (i : ℕ) → get_or (statuses y (remaining st)) i 0 ≡ 2 → T i ≡ true
  struck_certain t i b = certain_in y law p t i b

  -- .. a 0 is in none;
  pub struck_impossible :
      {T : ℕ → Bool} → LocallyMinimal y T → (i : ℕ) → get_or (statuses y (remaining st)) i 0 ≡ 0 → T i ≡ false
  struck_impossible t i b = impossible_out y law p t i b

  -- .. and if each inner edge that remains has a certificate, the search
  module _ (s : Supported y (remaining st)) (budget : ℕ) where
    -- leaves the same set where it is done
    pub complete_same : (search_result y budget).outcome ≡ done → remaining st ≡ remaining_set y budget
    unfolding search_result report
    complete_same q = complete_rest y law (run y budget) (run_sound y budget) p s q

    -- and gives the same statuses with an ample budget, unless it gives answer 8.
    pub complete_statuses :
        ample y ≤ budget → is_answer8 (search_result y budget).outcome ≡ false → statuses y (remaining st) ≡ (search_result y budget).status
    unfolding search_result report
    complete_statuses l f =
        complete_bytes y law (run y budget) (run_sound y budget) p s (ended_done _ (never_pauses y law budget l) f)
