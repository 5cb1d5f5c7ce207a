-- The demands on the skeleton, of every list m, every status buffer st and every budget, in the words of specs/. Each proof cites
-- the file that has the reason.
--
-- What remains is said of the search step by step (`remaining_edges`), and what the status bytes say of that is said apart.
--
-- What shuts out the four empty programs of 01:
--   one that refuses always                                  `refused_exactly`, `unrefused_exactly`, `answer_exactly`
--   one that calls every edge possible                       `done_certain`, `done_impossible`, `hull_certain`
--   one that writes no status                                the same, since they speak of the buffer's bytes when the search returns
--   one that runs to the end under any budget, or invents E  `paused_spent`, `few_examinations`; and `outcome_of` is the search
--                                                            step by step
-- Assumes nothing.
use mathlib.Core.Path.{◌≡◌, refl, sym, ap, ◌∙◌, subst}
use mathlib.Core.Logic.{◌↔◌, ◌⊎◌, ⊎_elim}
use mathlib.Core.Bool.{Bool, true, false}
use mathlib.Core.List.{List, [], ◌∷◌}
use Prim.Native.Nat.{ℕ, ◌≤◌, ◌<◌}
use native.Mathlib.Omega.{arith}
use lib.ListN.{get_or, length, replicate}
use lib.IntN.{ℤ}
use Rattle.std.specs.Prelude.{Option, Some, Result, Ok, Err}
use Rattle.refusals.specs.declared.Refusal.{Refusal}
use Rattle.refusals.specs.Check.{Shown, Verdict}
use Rattle.plane.specs.Marks.{IsMark}
use Rattle.pairs.specs.Pairs.{pair_number}
use Rattle.plane.specs.Hull.{hull_edge, inner_edge}
use Rattle.plane.proofs.Laws.Hull.{hull_uncrossed}
use Rattle.striking.specs.Search.{answer8, search_result}
use Rattle.striking.proofs.Tests.{same_test}
use Rattle.striking.proofs.Theorems as striking
use Rattle.skeleton.specs.declared.request.Reply.{Reply}
use Rattle.skeleton.specs.declared.request.Reply.TheVariants.{Hull, NotEmpty, Certified, Uncertified}
use Rattle.skeleton.specs.declared.search.Outcome.TheVariants.{Done, Paused}
use Rattle.certificates.specs.declared.certificate.Certificate.{Certificate}
use Rattle.certificates.specs.Certificate.{crossing, IsCertificate, HasCertificate, IsFirst, fits, first_certificate}
use Rattle.certificates.specs.Plate.{plate}
use Rattle.certificates.specs.Rule9.{IsPair, Kept, LocallyMinimal, Largest, ample}
use Rattle.skeleton.specs.Answers.{search_refusal, answer_of, outcome_after, outcome_of, bytes_after, status_after, byte_after, remaining_edges}
use Rattle.skeleton.specs.Answers.{shown_request, shown_search, reply_certificate, certificate_shown}
use Rattle.skeleton.specs.Table.{SearchRow, RequestRow, Lowest, None, IsAnswer}
use Rattle.certificates.proofs.Rule7.{fits_certificate, certificate_fits}
use Rattle.certificates.proofs.First.{nothing_none, found_first, first_found, none_nothing}
use Rattle.certificates.proofs.Lawful.{lawful}
use Rattle.certificates.proofs.Pairs.{pair_first, number_in, minimal_numbers, largest_pairs}
use Rattle.certificates.proofs.Counting.{ample_is}
use Rattle.skeleton.proofs.Table.{refused_early, accepted_long}
use Rattle.skeleton.proofs.Answer.{is_answer, the_answer, shown_lowest, shown_nothing, answer_moved}
use Rattle.skeleton.proofs.Ended.{status_accepted, status_refused, search_refused, search_unrefused, shown_reason, done_shows, not_8}
use Rattle.skeleton.proofs.Ended.{done_search, paused_search}
use Rattle.skeleton.proofs.Statuses.{byte_zero, byte_one, byte_two, byte_three, hull_in, due_pair, answer8_named}

-- ---- rules 7 and 8

module _ (m : List ℤ) (K : ℕ → ℕ → Bool) (p q : ℕ) where
  -- Rule 7: the test of two marks is the sentence.
  pub fits_exactly : (r s : ℕ) → IsMark m r → IsMark m s → (fits m K p q r s ≡ true) ↔ IsCertificate m K p q r s
  fits_exactly r s r-in s-in = (fits_certificate m K p q r s r-in s-in, certificate_fits m K p q)

  -- Rule 8: what is picked is "that with the smallest r, then the smallest s".
  pub first_exactly : (r s : ℕ) → (first_certificate m K p q ≡ Some (record { r = r; s = s })) ↔ IsFirst m K p q r s
  first_exactly r s = (found_first m K p q, first_found)

  -- None is given exactly if there is no certificate.
  pub nothing_exactly : (first_certificate m K p q ≡ Option.None) ↔ (HasCertificate m K p q → ⊥)
  nothing_exactly = (nothing_none m K p q, none_nothing m K p q)

-- ---- rule 9

-- There is only one largest set.
pub one_largest :
    {m : List ℤ} {K K' : ℕ → ℕ → Bool} → Largest m K → Largest m K' → (a b : ℕ) → IsPair m a b → K a b ≡ K' a b
one_largest {m} {K} {K'} l l' a b p =
    same_test (K a b) (K' a b) (λ h. l'.largest K l.supported a b (record { pair = p; kept = h }))
    (λ h. l.largest K' l'.supported a b (record { pair = p; kept = h }))

-- ---- the certificate request

module _ (m : List ℤ) (st : List ℕ) (a b : ℕ) where
  -- "Given exactly when"; "The lowest number that applies is given", with its detail. A request is refused exactly if a row applies.
  pub request_refused_exactly :
      (x : Shown) → 0 < x.number → (shown_request m st a b ≡ x) ↔ Lowest (RequestRow m st a b) x
  request_refused_exactly = shown_lowest m st a b

  pub request_unrefused_exactly : ((shown_request m st a b).number ≡ 0) ↔ None (RequestRow m st a b)
  request_unrefused_exactly = shown_nothing m st a b

  -- Each answer is given exactly when the table and rule 8 say: the lowest row that applies, or "hull, not empty, the first
  -- certificate, or none; none exactly if there is none".
  pub answer_exactly : (x : Result Reply Refusal) → (answer_of m st a b ≡ x) ↔ IsAnswer m st a b x
  answer_exactly x = (λ e. subst (IsAnswer m st a b) e (the_answer m st a b), is_answer m st a b)

-- The certificate that is told with an answer that has one is that one;
pub told_certificate : (c : Certificate) → certificate_shown (Ok (Certified c)) ≡ c
unfolding certificate_shown reply_certificate
told_certificate c = refl

-- and with any other answer, a refusal too, it is all zeros.
pub told_zeros :
    (x : Result Reply Refusal) → ((c : Certificate) → x ≡ Ok (Certified c) → ⊥) →
    certificate_shown x ≡ record { r = 0; s = 0; sides = 0 ∷ 0 ∷ 0 ∷ 0 ∷ [] }
unfolding certificate_shown reply_certificate
told_zeros (Err f) other = refl
told_zeros (Ok Hull) other = refl
told_zeros (Ok NotEmpty) other = refl
told_zeros (Ok (Certified c)) other = absurd (other c refl)
told_zeros (Ok Uncertified) other = refl

-- "Beyond answer 6, the byte of (a, b) itself plays no part."
pub own_byte :
    (m : List ℤ) (st st' : List ℕ) (a b : ℕ) → ((i : ℕ) → (i ≡ pair_number a b → ⊥) → get_or st i 0 ≡ get_or st' i 0) →
    None (RequestRow m st a b) → None (RequestRow m st' a b) → answer_of m st a b ≡ answer_of m st' a b
own_byte m st st' a b agree n n' = sym (is_answer m st' a b (answer_moved m st st' a b agree n n' (the_answer m st a b)))

-- ---- the search

module _ (m : List ℤ) (st : List ℕ) (budget : ℕ) where
  -- ---- the table

  -- "Given exactly when"; "The lowest number that applies is given", with its detail.
  pub refused_exactly : (x : Shown) → 0 < x.number → (shown_search m st budget ≡ x) ↔ Lowest (SearchRow m st budget) x
  refused_exactly = search_refused m st budget

  -- No number is given exactly if no row applies.
  pub unrefused_exactly : ((shown_search m st budget).number ≡ 0) ↔ None (SearchRow m st budget)
  unrefused_exactly = search_unrefused m st budget

  -- ---- the status buffer

  -- Its length stays.
  pub status-length : length (status_after m st budget) ≡ length st
  unfolding plate
  status-length = go (search_refusal m st) refl
    where
      go : (v : Verdict) → search_refusal m st ≡ v → length (status_after m st budget) ≡ length st
      go (Err x) e = ap length (status_refused m st budget x e)
      go (Ok t) e =
          ap length (status_accepted m st budget e) ∙ striking.status-length (plate m) (lawful m) budget ∙
          sym (accepted_long m st e)

  -- "After 1 to 7 the status buffer holds what it held before."
  pub refused_keeps : 0 < (shown_search m st budget).number → (shown_search m st budget).number ≤ 7 → status_after m st budget ≡ st
  refused_keeps p l =
      ⊎_elim (λ r. status_refused m st budget _ r.1) (λ r. let n = r.1 in absurd (let z : ⊥ = omega arith in z))
      (shown_reason m st budget p)

  -- Of an answer 8:
  module _ (n : (shown_search m st budget).number ≡ 8) where
    search8 : (search_refusal m st ≡ Ok tt) × ((search_result (plate m) budget).outcome ≡ answer8 (shown_search m st budget).detail)
    search8 =
        ⊎_elim (λ r. let l = refused_early m st _ r in absurd (let z : ⊥ = omega arith in z)) (λ r. (r.0, r.2))
        (shown_reason m st budget (omega arith))

    -- "After 8 every byte of it is 255."
    pub answer8_bytes : status_after m st budget ≡ replicate (length st) 255
    unfolding plate
    answer8_bytes =
        status_accepted m st budget search8.0 ∙
        striking.answer8_bytes (plate m) (lawful m) budget _ search8.1 ∙
        ap (λ (k : ℕ). replicate k 255) (sym (accepted_long m st search8.0))

    -- Its detail is the number of an inner edge that has no certificate and is "crossed by nothing remaining".
    pub answer8_names :
        (a : ℕ) × (b : ℕ) × IsPair m a b × ((shown_search m st budget).detail ≡ pair_number a b) × (inner_edge m a b ≡ true) ×
        (HasCertificate m (remaining_edges m budget) a b → ⊥) ×
        ((c d : ℕ) → Kept m (remaining_edges m budget) c d → crossing m a b c d ≡ false)
    answer8_names = answer8_named m budget _ search8.1

  -- Of a search that is not refused, for each pair:
  module _ (u : (shown_search m st budget).number ≡ 0) (a b : ℕ) (p : IsPair m a b) where
    -- There are three statuses.
    pub three_bytes : (byte_after m st budget a b ≡ 0) ⊎ (byte_after m st budget a b ≡ 1) ⊎ (byte_after m st budget a b ≡ 2)
    three_bytes = byte_three m st budget u a b

    -- "not remaining is 0;
    pub impossible_exactly : (byte_after m st budget a b ≡ 0) ↔ (remaining_edges m budget a b ≡ false)
    impossible_exactly = byte_zero m st budget u a b

    -- remaining and crossed by no other remaining edge is 2; (that it is another needs no word, since no edge crosses itself)
    pub certain_exactly :
        (byte_after m st budget a b ≡ 2) ↔
        ((remaining_edges m budget a b ≡ true) × ((c d : ℕ) → Kept m (remaining_edges m budget) c d → crossing m a b c d ≡ false))
    certain_exactly = byte_two m st budget u a b p

    -- any other is 1."
    pub possible_exactly :
        (byte_after m st budget a b ≡ 1) ↔
        ((remaining_edges m budget a b ≡ true) ×
        ((c : ℕ) × (d : ℕ) × Kept m (remaining_edges m budget) c d × (crossing m a b c d ≡ true)))
    possible_exactly = byte_one m st budget u a b p

    -- A hull edge is certain, whatever the budget.
    pub hull_certain : hull_edge m a b ≡ true → byte_after m st budget a b ≡ 2
    hull_certain h =
        certain_exactly.1
        (hull_in m budget a b p h, λ c d k. hull_uncrossed m a b c d h (pair_first k.pair) k.pair.marks)

  -- ---- demand 2

  -- Of a search that is done:
  module _ (e : ℕ) (q : outcome_of m st budget ≡ Ok (Done e)) where
    -- "At done, the remaining set is the largest set that holds the hull edges and in which each inner edge has a certificate."
    pub done_largest : Largest m (remaining_edges m budget)
    done_largest = largest_pairs (striking.done_largest (plate m) (lawful m) budget (done_search m st budget e q).1)

    -- So the bytes tell that set, and nothing of how it was found. Where K is the largest set,
    module _ (K : ℕ → ℕ → Bool) (l : Largest m K) (a b : ℕ) (p : IsPair m a b) where
      same : (c d : ℕ) → IsPair m c d → K c d ≡ remaining_edges m budget c d
      same = one_largest l done_largest

      in_rest : {c d : ℕ} → Kept m K c d → Kept m (remaining_edges m budget) c d
      in_rest {c} {d} k = record { pair = k.pair; kept = sym (same c d k.pair) ∙ k.kept }

      in_largest : {c d : ℕ} → Kept m (remaining_edges m budget) c d → Kept m K c d
      in_largest {c} {d} k = record { pair = k.pair; kept = same c d k.pair ∙ k.kept }

      shows : (shown_search m st budget).number ≡ 0
      shows = done_shows m st budget e q

      -- a pair outside of it is 0,
      pub done_impossible : (byte_after m st budget a b ≡ 0) ↔ (K a b ≡ false)
      done_impossible =
          let x = impossible_exactly shows a b p in
          (λ h. same a b p ∙ x.0 h, λ h. x.1 (sym (same a b p) ∙ h))

      -- "what nothing remaining crosses is certain",
      pub done_certain :
          (byte_after m st budget a b ≡ 2) ↔ ((K a b ≡ true) × ((c d : ℕ) → Kept m K c d → crossing m a b c d ≡ false))
      done_certain =
          let x = certain_exactly shows a b p in (
            λ h. (let r = x.0 h in (same a b p ∙ r.0, λ c d k. r.1 c d (in_rest k))),
            λ h. x.1 (sym (same a b p) ∙ h.0, λ c d k. h.1 c d (in_largest k)),
          )

      -- and any other is 1.
      pub done_possible :
          (byte_after m st budget a b ≡ 1) ↔
          ((K a b ≡ true) × ((c : ℕ) × (d : ℕ) × Kept m K c d × (crossing m a b c d ≡ true)))
      done_possible =
          let x = possible_exactly shows a b p in (
            λ h. (let r = x.0 h in (same a b p ∙ r.0, (r.1.0, r.1.1, in_largest r.1.2, r.1.3))),
            λ h. x.1 (sym (same a b p) ∙ h.0, (h.1.0, h.1.1, in_rest h.1.2, h.1.3)),
          )

  -- ---- demand 3

  -- Where the search was made, under whatever budget,
  module _ (made : search_refusal m st ≡ Ok tt) (K : ℕ → ℕ → Bool) (t : LocallyMinimal m K) (a b : ℕ) (p : IsPair m a b) where
    -- a 2 is in every locally minimal triangulation
    pub certain_in_every : byte_after m st budget a b ≡ 2 → K a b ≡ true
    certain_in_every h =
        sym (number_in m K a b p) ∙
        striking.certain_in_every (plate m) (lawful m) budget (minimal_numbers t) (pair_number a b)
        (rw (status_accepted m st budget made) at h)

    -- and a 0 in none.
    pub impossible_in_none : byte_after m st budget a b ≡ 0 → K a b ≡ false
    impossible_in_none h =
        sym (number_in m K a b p) ∙
        striking.impossible_in_none (plate m) (lawful m) budget (minimal_numbers t) (pair_number a b)
        (rw (status_accepted m st budget made) at h)

  -- "With m inner edges a search ends within m(m+1)/2 examinations"; and E, done or paused, is within the budget.
  pub few_examinations :
      (e : ℕ) → (outcome_of m st budget ≡ Ok (Done e)) ⊎ (outcome_of m st budget ≡ Ok (Paused e)) → (e ≤ ample m) × (e ≤ budget)
  few_examinations e o =
      let i = ⊎_elim (λ q. (done_search m st budget e q).2) (λ q. (paused_search m st budget e q).2) o in
      let l = striking.few_examinations (plate m) (lawful m) budget in
      let k = striking.within_budget (plate m) (lawful m) budget in
      let s = ample_is m in
      (omega arith, omega arith)

  -- A budget of at least m(m+1)/2 never pauses.
  pub never_pauses : ample m ≤ budget → (e : ℕ) → outcome_of m st budget ≡ Ok (Paused e) → ⊥
  never_pauses l e q =
      striking.never_pauses (plate m) (lawful m) budget (subst (λ (k : ℕ). k ≤ budget) (ample_is m) l)
      (paused_search m st budget e q).1

  -- "The search pauses when an examination is due and the budget is spent": E is the budget, and some inner edge remains.
  pub paused_spent :
      (e : ℕ) → outcome_of m st budget ≡ Ok (Paused e) →
      (e ≡ budget) × ((a : ℕ) × (b : ℕ) × Kept m (remaining_edges m budget) a b × (inner_edge m a b ≡ true))
  paused_spent e q =
      let d = paused_search m st budget e q in
      let r = striking.paused_due (plate m) (lawful m) budget d.1 in
      let i = d.2 in
      let b = r.0 in
      (omega arith, due_pair m budget r.1.0 r.1.2)

-- Of two budgets:
module _ (m : List ℤ) (st : List ℕ) (budget budget' : ℕ) (l : budget ≤ budget') where
  -- "Of two budgets, neither of which gives answer 8", the larger keeps
  module _
      (n : (shown_search m st budget).number ≡ 8 → ⊥) (n' : (shown_search m st budget').number ≡ 8 → ⊥) (a b : ℕ) where
    abbrev i : ℕ
    i = pair_number a b

    -- where the list or the buffer is refused, both leave the byte that was there
    by_verdict :
        (x : ℕ) → (search_refusal m st ≡ Ok tt → byte_after m st budget a b ≡ x → byte_after m st budget' a b ≡ x) →
        byte_after m st budget a b ≡ x → byte_after m st budget' a b ≡ x
    by_verdict x made h = go (search_refusal m st) refl
      where
        go : (v : Verdict) → search_refusal m st ≡ v → byte_after m st budget' a b ≡ x
        go (Err y) e =
            ap (λ (s : List ℕ). get_or s i 0) (status_refused m st budget' y e ∙ sym (status_refused m st budget y e)) ∙ h
        go (Ok t) e = made e h

    -- every 2
    pub certain_stays : byte_after m st budget a b ≡ 2 → byte_after m st budget' a b ≡ 2
    certain_stays =
        by_verdict 2 (λ ok h.
        rw (status_accepted m st budget' ok)
        (striking.certain_stays (plate m) (lawful m) budget budget' l (not_8 m st budget n ok) (not_8 m st budget' n' ok) i
        (rw (status_accepted m st budget ok) at h)))

    -- and every 0.
    pub impossible_stays : byte_after m st budget a b ≡ 0 → byte_after m st budget' a b ≡ 0
    impossible_stays =
        by_verdict 0 (λ ok h.
        rw (status_accepted m st budget' ok)
        (striking.impossible_stays (plate m) (lawful m) budget budget' l (not_8 m st budget n ok) (not_8 m st budget' n' ok) i
        (rw (status_accepted m st budget ok) at h)))

  -- A search that was done is done under every larger budget, after as many examinations and with the same bytes.
  pub done_stays :
      (e : ℕ) → outcome_of m st budget ≡ Ok (Done e) →
      (outcome_of m st budget' ≡ Ok (Done e)) × (status_after m st budget' ≡ status_after m st budget)
  unfolding outcome_of status_after
  done_stays e q =
      let d = (done_search m st budget e q).1 in
      let s =
      striking.unpaused_stays (plate m) (lawful m) budget budget' l
      (λ f. let z : ◌≡◌ {A = ℕ} 0 1 = cc (d, f) in absurd (omega arith)) in
      (sym (ap (outcome_after (search_refusal m st)) s) ∙ q, sym (ap (bytes_after (search_refusal m st) st) s))
