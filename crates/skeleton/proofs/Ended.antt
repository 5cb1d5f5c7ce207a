-- How a search of a plate ends: refused before it began, or as the theory of striking says; and what the controller shows of it. Assumes nothing.
use mathlib.Core.Path.{◌≡◌, refl, sym, ap, ◌∙◌}
use mathlib.Core.Logic.{◌↔◌, ◌⊎◌, inl, inr}
use mathlib.Core.Bool.{false}
use mathlib.Core.List.{List}
use Prim.Native.Nat.{ℕ, ◌<◌}
use native.Mathlib.Omega.{arith}
use lib.IntN.{ℤ}
use Rattle.std.specs.Prelude.{Result, Ok, Err}
use Rattle.refusals.specs.declared.Refusal.{Refusal}
use Rattle.refusals.specs.declared.Refusal.TheVariants.{Uncrossed}
use Rattle.refusals.specs.Check.{Shown, shows, shown, shown_by, Refused, Verdict}
use Rattle.refusals.proofs.Laws.{err_same}
use Rattle.striking.specs.Search.{done, paused, answer8, is_answer8, search_result}
use Rattle.striking.specs.Search as any
use Rattle.skeleton.specs.declared.search.Outcome.{Outcome}
use Rattle.skeleton.specs.declared.search.Outcome.TheVariants.{Done, Paused}
use Rattle.certificates.specs.Plate.{plate}
use Rattle.skeleton.specs.Answers.{search_refusal, told, outcome_after, outcome_of, bytes_after, status_after, shown_search}
use Rattle.skeleton.specs.Table.{SearchRow, Lowest, None}
use Rattle.skeleton.proofs.Settled.{not_accepted, Unrefused, shown_refused, shown_none, settled_exactly, settled_none}
use Rattle.skeleton.proofs.Table.{refusal_in, search_settled}

module _ (m : List ℤ) (st : List ℕ) (budget : ℕ) where
  abbrev it : any.Result
  it = search_result (plate m) budget

  -- ---- the status buffer
  pub status_accepted : search_refusal m st ≡ Ok tt → status_after m st budget ≡ it.status
  unfolding status_after bytes_after
  status_accepted e = ap (λ (v : Verdict). bytes_after v st (it)) e

  pub status_refused : (x : Refusal) → search_refusal m st ≡ Err x → status_after m st budget ≡ st
  unfolding status_after bytes_after
  status_refused x e = ap (λ (v : Verdict). bytes_after v st (it)) e

  -- ---- the outcome
  pub data Ended : Result Outcome Refusal → Type 0 where
    early : (x : Refusal) → search_refusal m st ≡ Err x → Ended (Err x)
    at_end : search_refusal m st ≡ Ok tt → it.outcome ≡ done → Ended (Ok (Done it.examinations))
    at_pause : search_refusal m st ≡ Ok tt → it.outcome ≡ paused → Ended (Ok (Paused it.examinations))
    at_answer8 :
        search_refusal m st ≡ Ok tt → (i : ℕ) → it.outcome ≡ answer8 i →
        Ended (Err (Uncrossed i))

  pub ended : Ended (outcome_of m st budget)
  unfolding outcome_of outcome_after told
  ended = of_verdict (search_refusal m st) refl
    where
      of_search :
          search_refusal m st ≡ Ok tt → (o : any.Outcome) → it.outcome ≡ o →
          Ended (told o it.examinations)
      of_search ok done e = at_end ok e
      of_search ok paused e = at_pause ok e
      of_search ok (answer8 i) e = at_answer8 ok i e

      of_verdict : (v : Verdict) → search_refusal m st ≡ v → Ended (outcome_after v (it))
      of_verdict (Err x) e = early x e
      of_verdict (Ok t) e = of_search e it.outcome refl

  -- a search that was made: accepted, with the outcome o after e examinations
  abbrev Made : any.Outcome → ℕ → Type 0
  Made o e = (search_refusal m st ≡ Ok tt) × (it.outcome ≡ o) × (it.examinations ≡ e)

  pub done_search : (e : ℕ) → outcome_of m st budget ≡ Ok (Done e) → Made done e
  done_search e q = go ended q
    where
      go : {o : Result Outcome Refusal} → Ended o → o ≡ Ok (Done e) → Made done e
      go (early x f) q = let z : ◌≡◌ {A = ℕ} 0 1 = cc in absurd (omega arith)
      go (at_end ok f) q = (ok, f, (cc))
      go (at_pause ok f) q = let z : ◌≡◌ {A = ℕ} 0 1 = cc in absurd (omega arith)
      go (at_answer8 ok i f) q = let z : ◌≡◌ {A = ℕ} 0 1 = cc in absurd (omega arith)

  pub paused_search : (e : ℕ) → outcome_of m st budget ≡ Ok (Paused e) → Made paused e
  paused_search e q = go ended q
    where
      go : {o : Result Outcome Refusal} → Ended o → o ≡ Ok (Paused e) → Made paused e
      go (early x f) q = let z : ◌≡◌ {A = ℕ} 0 1 = cc in absurd (omega arith)
      go (at_end ok f) q = let z : ◌≡◌ {A = ℕ} 0 1 = cc in absurd (omega arith)
      go (at_pause ok f) q = (ok, f, (cc))
      go (at_answer8 ok i f) q = let z : ◌≡◌ {A = ℕ} 0 1 = cc in absurd (omega arith)

  -- a refusal came before the search, or is its answer 8
  abbrev pub Reason : Shown → Type 0
  Reason x =
      Refused (search_refusal m st) x ⊎ ((search_refusal m st ≡ Ok tt) × (x.number ≡ 8) × (it.outcome ≡ answer8 x.detail))

  pub refused_search : (x : Shown) → Refused (outcome_of m st budget) x → Reason x
  unfolding shown
  refused_search x r = go ended r.1
    where
      go : {o : Result Outcome Refusal} → Ended o → o ≡ Err r.0 → Reason x
      go (early y f) q = inl (r.0, f ∙ ap Err (err_same q), r.2)
      go (at_end ok f) q = not_accepted q
      go (at_pause ok f) q = not_accepted q
      go (at_answer8 ok i f) q =
          let e : shows 8 i ≡ x = ap shown (err_same q) ∙ r.2 in
          inr (ok, sym (ap (λ (y : Shown). y.number) e), f ∙ ap (λ (y : Shown). answer8 y.detail) e)

  -- the search was made, and did not end with answer 8
  abbrev pub Free : Type 0
  Free = (search_refusal m st ≡ Ok tt) × (is_answer8 it.outcome ≡ false)

  unrefused_search : Unrefused (outcome_of m st budget) → Free
  unfolding is_answer8
  unrefused_search u = go ended (λ x q. u x q)
    where
      go : {o : Result Outcome Refusal} → Ended o → Unrefused o → Free
      go (early y f) u = absurd (u y refl)
      go (at_end ok f) u = (ok, ap is_answer8 f)
      go (at_pause ok f) u = (ok, ap is_answer8 f)
      go (at_answer8 ok i f) u = absurd (u _ refl)

-- ---- a refusal among outcomes
refused_in : (o : Result Outcome Refusal) (x : Shown) → Refused (refusal_in o) x ↔ Refused o x
unfolding refusal_in
refused_in (Err y) x = (λ r. (y, refl, ap shown (err_same r.1) ∙ r.2), λ r. (y, refl, ap shown (err_same r.1) ∙ r.2))
refused_in (Ok o) x = (λ r. not_accepted r.1, λ r. not_accepted r.1)

accepted_in : (o : Result Outcome Refusal) → (refusal_in o ≡ Ok tt) ↔ Unrefused o
unfolding refusal_in
accepted_in (Err y) = (λ e. not_accepted (sym e), λ u. absurd (u y refl))
accepted_in (Ok o) = (λ q x f. not_accepted f, λ u. refl)

-- ---- what the controller shows of a search
module _ (m : List ℤ) (st : List ℕ) (budget : ℕ) where
  pub search_refused : (x : Shown) → 0 < x.number → (shown_search m st budget ≡ x) ↔ Lowest (SearchRow m st budget) x
  search_refused x l =
      let s = shown_refused (outcome_of m st budget) x l in
      let r = refused_in (outcome_of m st budget) x in
      let t = settled_exactly (search_settled m st budget) x in
      (λ e. t.0 (r.1 (s.0 e)), λ h. s.1 (r.0 (t.1 h)))

  pub search_unrefused : ((shown_search m st budget).number ≡ 0) ↔ None (SearchRow m st budget)
  search_unrefused =
      let s = settled_none (search_settled m st budget) in
      let r = accepted_in (outcome_of m st budget) in
      let u = shown_none (outcome_of m st budget) in
      (λ e. s.0 (r.1 (u.0 e)), λ n. u.1 (r.0 (s.1 n)))

  -- nothing is refused: the search was made, and did not end with answer 8
  pub unrefused_free : (shown_search m st budget).number ≡ 0 → Free m st budget
  unrefused_free e = unrefused_search m st budget ((shown_none (outcome_of m st budget)).0 e)

  -- a number is shown: it came before the search, or is its answer 8
  pub shown_reason : 0 < (shown_search m st budget).number → Reason m st budget (shown_search m st budget)
  shown_reason l = refused_search m st budget _ ((shown_refused (outcome_of m st budget) _ l).0 refl)

  -- done or paused, nothing is shown
  pub done_shows : (e : ℕ) → outcome_of m st budget ≡ Ok (Done e) → (shown_search m st budget).number ≡ 0
  unfolding shown_by
  done_shows e q = ap (λ (o : Result Outcome Refusal). (shown_by o).number) q

  pub paused_shows : (e : ℕ) → outcome_of m st budget ≡ Ok (Paused e) → (shown_search m st budget).number ≡ 0
  unfolding shown_by
  paused_shows e q = ap (λ (o : Result Outcome Refusal). (shown_by o).number) q

  -- without answer 8 the search was refused before it began, or is free of it
  pub not_8 :
      ((shown_search m st budget).number ≡ 8 → ⊥) → search_refusal m st ≡ Ok tt → is_answer8 (it m st budget).outcome ≡ false
  unfolding is_answer8 outcome_of outcome_after told shown_by shown
  not_8 n ok = go (it m st budget).outcome refl
    where
      eight : (i : ℕ) → (it m st budget).outcome ≡ answer8 i → (shown_search m st budget).number ≡ 8
      eight i e =
          ap (λ (v : Verdict). (shown_by (outcome_after v (it m st budget))).number) ok ∙
          ap (λ (o : any.Outcome). (shown_by (told o (it m st budget).examinations)).number) e

      go : (o : any.Outcome) → (it m st budget).outcome ≡ o → is_answer8 o ≡ false
      go done e = refl
      go paused e = refl
      go (answer8 i) e = absurd (n (eight i e))
