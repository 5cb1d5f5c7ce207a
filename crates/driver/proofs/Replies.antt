-- How a reply reaches the caller, the result buffer long enough or not. Assumes nothing.
use mathlib.Core.Path.{◌≡◌, refl, sym, ap, ap₂, ◌∙◌, subst}
use mathlib.Core.List.{List, [], ◌∷◌, ◌++◌}
use mathlib.Core.Bool.{Bool, true, false, cond}
use Prim.Native.Nat.{ℕ, ◌+◌, ◌*◌, ◌/◌, ◌≤◌, ◌<◌}
use native.Mathlib.Nat.{le_trans, mul-le-mul_left, mul-le-mul_right}
use native.Mathlib.Omega.{arith}
use borrow.Author.Tests.{lt-ltb, le-ltb, ltb-true}
use lib.Dec.{ltb}
use lib.IntN.{ℤ}
use lib.ListN.{length, drop}
use Rattle.pairs.specs.Pairs.{pair_count, pair_number}
use Rattle.pairs.proofs.Laws.{pair_count_small}
use Rattle.plane.proofs.Laws.Tells.{cond_yes, cond_no}
use Rattle.skeleton.specs.declared.request.Reply.{Reply}
use Rattle.std.specs.Prelude.{Result, Ok, Err}
use Rattle.refusals.specs.declared.Refusal.{Refusal}
use Rattle.refusals.specs.Check.{shown_by}
use Rattle.certificates.specs.declared.certificate.Certificate.{Certificate}
use Rattle.skeleton.specs.declared.search.Outcome.{Outcome}
use Rattle.skeleton.specs.declared.search.Outcome.TheVariants.{Done, Paused}
use Rattle.skeleton.specs.Answers.{answer_of, outcome_of, status_after, certificate_shown}
use Rattle.driver.specs.Driver.{Told, told, returned, written, outcome_numbers, outcome_reply, search_reply, search_status}
use Rattle.driver.specs.Driver.{reply_first, certificate_numbers, answer_reply, certificate_reply}
use Rattle.driver.specs.Driver.{is_pair, pair_reply, longest_budget, longest_budget_reply}

-- `number` is returned and the buffer holds `now` on return, where the reply is x
abbrev pub Reaches : List ℕ → Told → ℕ → List ℕ → Type 0
Reaches result x number now = (number ≡ returned result x) × (now ≡ written result x)

module _ (result : List ℕ) (x : Told) where
  pub returned_short : length result < length x.numbers → returned result x ≡ 100
  unfolding returned
  returned_short l = cond_yes _ _ (lt-ltb _ _ l)

  pub written_short : length result < length x.numbers → written result x ≡ result
  unfolding written
  written_short l = cond_yes _ _ (lt-ltb _ _ l)

  pub returned_whole : length x.numbers ≤ length result → returned result x ≡ x.number
  unfolding returned
  returned_whole l = cond_no _ _ (le-ltb _ _ l)

  pub written_whole : length x.numbers ≤ length result → written result x ≡ x.numbers ++ drop (length x.numbers) result
  unfolding written
  written_whole l = cond_no _ _ (le-ltb _ _ l)

-- the same reply, under another name
pub reaches_as :
    (result : List ℕ) {x y : Told} {number : ℕ} {now : List ℕ} → x ≡ y → Reaches result x number now → Reaches result y number now
reaches_as result {x} {y} {number} {now} e h = subst (λ (z : Told). Reaches result z number now) e h

-- ---- the search
module _ (m : List ℤ) (st : List ℕ) (budget : ℕ) where
  pub outcome_of_lem :
      {o : Result Outcome Refusal} {number : ℕ} {numbers : List ℕ} → o ≡ outcome_of m st budget → number ≡ (shown_by o).number → numbers ≡ outcome_numbers o →
      told number numbers ≡ search_reply m st budget
  unfolding search_reply
  outcome_of_lem e f g = ap₂ told f g ∙ ap outcome_reply e

-- it tells two numbers
outcome-length : (o : Result Outcome Refusal) → length (outcome_numbers o) ≡ 2
unfolding outcome_numbers
outcome-length (Ok (Done e)) = refl
outcome-length (Ok (Paused e)) = refl
outcome-length (Err x) = refl

module _ (result : List ℕ) (m : List ℤ) (st : List ℕ) (budget : ℕ) where
  pub search_short : length result < 2 → length result < length (search_reply m st budget).numbers
  unfolding search_reply
  search_short l = subst (λ (k : ℕ). length result < k) (sym (outcome-length (outcome_of m st budget))) l

  pub status_short : length result < 2 → search_status result m st budget ≡ st
  unfolding search_status
  status_short l = cond_yes _ _ (lt-ltb _ _ l)

  pub status_whole : 2 ≤ length result → search_status result m st budget ≡ status_after m st budget
  unfolding search_status
  status_whole l = cond_no _ _ (le-ltb _ _ l)

-- ---- the certificate request
module _ (m : List ℤ) (st : List ℕ) (a b : ℕ) where
  pub reply_of :
      {x : Result Reply Refusal} {number first : ℕ} {c : Certificate} {numbers : List ℕ} → x ≡ answer_of m st a b → number ≡ (shown_by x).number →
      first ≡ reply_first x → c ≡ certificate_shown x → numbers ≡ certificate_numbers first c → told number numbers ≡ certificate_reply m st a b
  unfolding certificate_reply
  reply_of {x} e f g k h = ap₂ told f (h ∙ ap₂ certificate_numbers g k) ∙ ap answer_reply e

-- ---- the number of a pair
module _ (a b : ℕ) where
  pub pair_means : is_pair a b ≡ true → (a < b) × (b < 128)
  unfolding is_pair
  pair_means e = go (ltb a b) refl e
    where
      go : (x : Bool) → ltb a b ≡ x → cond x (ltb b 128) false ≡ true → (a < b) × (b < 128)
      go true q h = (ltb-true a b q, ltb-true b 128 h)
      go false q h = absurd (let z : ◌≡◌ {A = ℕ} 0 1 = ap (λ (x : Bool). cond x 1 0) h in omega arith)

  pub pair_yes : is_pair a b ≡ true → pair_reply a b ≡ told 0 (pair_number a b ∷ [])
  unfolding pair_reply
  pair_yes e = cond_yes _ _ e

  pub pair_no : is_pair a b ≡ false → pair_reply a b ≡ told 101 (0 ∷ [])
  unfolding pair_reply
  pair_no e = cond_no _ _ e

-- ---- the longest budget
module _ (n : ℕ) where
  pub longest_many : 128 < n → longest_budget_reply n ≡ told 2 (n ∷ [])
  unfolding longest_budget_reply
  longest_many l = cond_yes _ _ (lt-ltb _ _ l)

  pub longest_few :
      (k : ℕ) → n ≤ 128 → k ≡ pair_count n → told 0 (k * (k + 1) / 2 ∷ []) ≡ longest_budget_reply n
  unfolding longest_budget_reply longest_budget
  longest_few k l e = ap (λ (i : ℕ). told 0 (i * (i + 1) / 2 ∷ [])) e ∙ sym (cond_no _ _ (le-ltb _ _ l))

  pub few_pairs : n ≤ 128 → {k : ℕ} → k ≡ pair_count n → k ≤ 8128
  few_pairs l e = subst (λ (i : ℕ). i ≤ 8128) (sym e) (pair_count_small n l)

  pub product_small : n ≤ 128 → {k : ℕ} → k ≡ pair_count n → k * (k + 1) ≤ 8128 * 8129
  product_small l {k} e =
      let few = few_pairs l e in
      let more : k + 1 ≤ 8129 = omega arith in
      le_trans (mul-le-mul_right (k + 1) few) (mul-le-mul_left 8128 more)
