-- The table, row by row: each row's test gives its refusal exactly if its sentence holds, and the rows are asked in the order of
-- their numbers. So they come to the lowest that applies. Assumes nothing.
use mathlib.Core.Path.{◌≡◌, refl, sym, ap, ◌∙◌, subst}
use mathlib.Core.Logic.{◌⊎◌, inl, inr, ⊎_elim}
use mathlib.Core.Bool.{Bool, true, false, cond}
use mathlib.Core.List.{List}
use Prim.Native.Nat.{ℕ, ◌≤◌, ◌<◌}
use native.Mathlib.Nat.{le_of_eq}
use native.Mathlib.Decide.{ℕ_discrete}
use native.Mathlib.Omega.{arith}
use borrow.Author.Tests.{eqb-false, ne_eqb, ltb-true, ltb-false, lt-ltb, le-ltb}
use lib.Dec.{eqb, ltb}
use lib.ListN.{length, get_or}
use lib.IntN.{ℤ}
use Rattle.std.specs.Prelude.{Result, Ok, Err}
use Rattle.refusals.specs.declared.Refusal.{Refusal}
use Rattle.refusals.specs.declared.Refusal.TheVariants.{BufferLength, ByteAboveTwo, NotAPair, Uncrossed}
use Rattle.plane.specs.Marks.{Plate, count}
use Rattle.pairs.specs.Pairs.{pair_count}
use Rattle.refusals.proofs.Laws.{refused_exactly, row_small, row_positive, accepted_plate}
use Rattle.refusals.specs.Check.{Shown, shows, shown, Refused, Verdict, verdict}
use Rattle.plane.proofs.Laws.Numbers.{first_at, first_past, Seek, found, nowhere, seek}
use Rattle.plane.proofs.Laws.Tells.{cond_yes, cond_no}
use Rattle.striking.specs.Search.{done, paused, answer8, search_result}
use Rattle.striking.specs.Search as any
use Rattle.striking.proofs.Tests.{not_both}
use Rattle.skeleton.specs.declared.search.Outcome.{Outcome}
use Rattle.certificates.specs.Plate.{plate}
use Rattle.certificates.specs.Rule9.{IsPair}
use Rattle.skeleton.specs.Answers.{or_else, buffer_row, is_above, first_above, byte_row, pair_row}
use Rattle.skeleton.specs.Answers.{search_refusal, request_refusal, told, outcome_after, outcome_of}
use Rattle.skeleton.specs.Table.{SearchRow, RequestRow, list, buffer, byte, pair, uncrossed}
use Rattle.skeleton.proofs.Settled.{not_accepted, or_first, or_second, At, Settled, settled_exactly, settled_none, settled_at, settled_or, settled_as, from_refused}

-- another verdict that is the same
at_as : {v w : Verdict} {n d : ℕ} → v ≡ w → At w n d → At v n d
at_as {v} {w} {n} {d} e h = (h.0, e ∙ h.1, h.2)

-- ---- rows 1 to 4
pub list_number : (m : List ℤ) (n d : ℕ) → At (verdict m) n d → n ≤ 4
list_number m n d e = row_small m n d ((refused_exactly m n d).0 e).0

list_positive : (m : List ℤ) (n d : ℕ) → At (verdict m) n d → 0 < n
list_positive m n d e = row_positive m n d ((refused_exactly m n d).0 e).0

-- ---- row 5
module _ (m : List ℤ) (st : List ℕ) where
  buffer_at : (length st ≡ pair_count (count m) → ⊥) → At (buffer_row m st) 5 (pair_count (count m))
  unfolding buffer_row shown
  buffer_at h = (BufferLength (pair_count (count m)), cond_no _ _ (ne_eqb (length st) (pair_count (count m)) h), refl)

  at_buffer :
      (R : ℕ → ℕ → Type 0) → ((length st ≡ pair_count (count m) → ⊥) → R 5 (pair_count (count m))) → (n d : ℕ) →
      At (buffer_row m st) n d → R n d
  unfolding buffer_row shown
  at_buffer R f n d e = go (eqb (length st) (pair_count (count m))) refl e
    where
      go :
          (t : Bool) → eqb (length st) (pair_count (count m)) ≡ t → At (cond t (Ok tt) (Err (BufferLength (pair_count (count m))))) n d →
          R n d
      go true q e = not_accepted e.1
      go false q e = from_refused R (f (eqb-false (length st) (pair_count (count m)) q)) e

-- ---- row 6
module _ (st : List ℕ) where
  byte_at : (k : ℕ) → k < length st → 2 < get_or st k 0 → ((j : ℕ) → j < k → get_or st j 0 ≤ 2) → At (byte_row st) 6 k
  unfolding byte_row first_above is_above shown
  byte_at k l h small =
      let e = first_at (is_above st) (length st) k l (λ j i. le-ltb 2 (get_or st j 0) (small j i)) (lt-ltb 2 (get_or st k 0) h) in
      subst (λ (i : ℕ). At (cond (ltb i (length st)) (Err (ByteAboveTwo i)) (Ok tt)) 6 k) (sym e)
      (ByteAboveTwo k, cond_yes _ _ (lt-ltb k (length st) l), refl)

  at_byte :
      (R : ℕ → ℕ → Type 0) →
      ((k : ℕ) → k < length st → 2 < get_or st k 0 → ((j : ℕ) → j < k → get_or st j 0 ≤ 2) → R 6 k) → (n d : ℕ) →
      At (byte_row st) n d → R n d
  unfolding byte_row first_above is_above shown
  at_byte R f n d e = go (seek (is_above st) (length st))
    where
      go : Seek (is_above st) (length st) → R n d
      go (found k l before h) =
          let above = ltb-true 2 (get_or st k 0) h in
          let small : (j : ℕ) → j < k → get_or st j 0 ≤ 2 = λ j i. ltb-false 2 (get_or st j 0) (before j i) in
          from_refused R (f k l above small) (at_as (sym (cond_yes _ _ (lt-ltb k (length st) l)) ∙ ap (λ (i : ℕ). cond (ltb i (length st)) (Err (ByteAboveTwo i)) (Ok tt)) (sym (first_at (is_above st) (length st) k l before h))) e)
      go (nowhere h) =
          let past = le_of_eq (sym (first_past (is_above st) (length st) h)) in
          not_accepted (sym (cond_no _ _ (le-ltb _ (length st) past)) ∙ e.1)

-- ---- row 7
module _ (m : List ℤ) (a b : ℕ) where
  -- (a, b) is a pair, or row 7 is given
  pub pair_cases : IsPair m a b ⊎ ((IsPair m a b → ⊥) × (pair_row m a b ≡ Err NotAPair))
  unfolding pair_row
  pair_cases = go (ltb a b) refl (ltb b (count m)) refl
    where
      go :
          (s : Bool) → ltb a b ≡ s → (t : Bool) → ltb b (count m) ≡ t →
          IsPair m a b ⊎ ((IsPair m a b → ⊥) × (◌≡◌ {A = Verdict} (cond s (cond t (Ok tt) (Err NotAPair)) (Err NotAPair)) (Err NotAPair)))
      go true e true f = inl (record { up = ltb-true a b e; marks = ltb-true b (count m) f })
      go true e false f = inr ((λ p. not_both (lt-ltb b (count m) p.marks) f), refl)
      go false e t f = inr ((λ p. not_both (lt-ltb a b p.up) e), refl)

  pair_at_lem : (IsPair m a b → ⊥) → At (pair_row m a b) 7 0
  unfolding shown
  pair_at_lem h = ⊎_elim (λ p. absurd (h p)) (λ r. (NotAPair, r.1, refl)) pair_cases

  at_pair : (R : ℕ → ℕ → Type 0) → ((IsPair m a b → ⊥) → R 7 0) → (n d : ℕ) → At (pair_row m a b) n d → R n d
  unfolding pair_row shown
  at_pair R f n d e =
      ⊎_elim
      (λ p. not_accepted (sym (cond_yes _ _ (lt-ltb a b p.up) ∙ cond_yes _ _ (lt-ltb b (count m) p.marks)) ∙ e.1))
      (λ r. from_refused R (f r.0) (at_as (sym r.1) e)) pair_cases

-- ---- rows 1 to 5
module _ (m : List ℤ) (st : List ℕ) where
  abbrev Early : ℕ → ℕ → Type 0
  Early n d = At (verdict m) n d ⊎ At (buffer_row m st) n d

  early_settled : Settled Early (search_refusal m st)
  unfolding search_refusal
  early_settled =
      settled_or
      (λ n d n' d' v w. let l = list_number m n d v in let e = at_buffer m st (λ n d. n ≡ 5) (λ h. refl) n' d' w in omega arith)
      (settled_at (verdict m)) (settled_at (buffer_row m st))

  early_number : (n d : ℕ) → Early n d → n ≤ 5
  early_number n d (inl v) = let l = list_number m n d v in omega arith
  early_number n d (inr w) = let e = at_buffer m st (λ n d. n ≡ 5) (λ h. refl) n d w in omega arith

  pub refused_early : (x : Shown) → Refused (search_refusal m st) x → x.number ≤ 5
  refused_early x e = early_number _ _ ((settled_exactly early_settled x).0 e).applies

  pub accepted_long : search_refusal m st ≡ Ok tt → length st ≡ pair_count (count m)
  accepted_long e = go (ℕ_discrete (length st) (pair_count (count m)))
    where
      go : Dec (length st ≡ pair_count (count m)) → length st ≡ pair_count (count m)
      go (yes h) = h
      go (no h) = absurd ((settled_none early_settled).0 e _ _ (inr (buffer_at m st h)))

  pub accepted_list : search_refusal m st ≡ Ok tt → Plate m
  unfolding search_refusal
  accepted_list e = accepted_plate m (or_first (verdict m) (buffer_row m st) e)

-- ---- the rows of a request
module _ (m : List ℤ) (st : List ℕ) (a b : ℕ) where
  abbrev Late : ℕ → ℕ → Type 0
  Late n d = At (byte_row st) n d ⊎ At (pair_row m a b) n d

  six : (n d : ℕ) → At (byte_row st) n d → n ≡ 6
  six = at_byte st (λ n d. n ≡ 6) (λ k l h s. refl)

  seven : (n d : ℕ) → At (pair_row m a b) n d → n ≡ 7
  seven = at_pair m a b (λ n d. n ≡ 7) (λ h. refl)

  late_number : (n d : ℕ) → Late n d → 5 < n
  late_number n d (inl v) = let e = six n d v in omega arith
  late_number n d (inr w) = let e = seven n d w in omega arith

  pub accepted_request : request_refusal m st a b ≡ Ok tt → (search_refusal m st ≡ Ok tt) × IsPair m a b
  unfolding request_refusal
  accepted_request e = (
    or_first (search_refusal m st) _ e,
    ⊎_elim (λ p. p) (λ r. not_accepted (sym (or_second _ _ (or_second _ _ e)) ∙ r.1)) (pair_cases m a b),
  )

  pub request_settled : Settled (RequestRow m st a b) (request_refusal m st a b)
  unfolding request_refusal
  request_settled =
      settled_as row_of at_row
      (settled_or (λ n d n' d' v w. let l = early_number m st n d v in let k = late_number n' d' w in omega arith)
      (early_settled m st)
      (settled_or (λ n d n' d' v w. let e = six n d v in let f = seven n' d' w in omega arith)
      (settled_at (byte_row st)) (settled_at (pair_row m a b))))
    where
      row_of : (n d : ℕ) → Early m st n d ⊎ Late n d → RequestRow m st a b n d
      row_of n d (inl (inl v)) = list (shows n d) v
      row_of n d (inl (inr v)) = at_buffer m st (RequestRow m st a b) buffer n d v
      row_of n d (inr (inl v)) = at_byte st (RequestRow m st a b) byte n d v
      row_of n d (inr (inr v)) = at_pair m a b (RequestRow m st a b) pair n d v

      at_row : (n d : ℕ) → RequestRow m st a b n d → Early m st n d ⊎ Late n d
      at_row n d (list x e) = inl (inl e)
      at_row n d (buffer h) = inl (inr (buffer_at m st h))
      at_row n d (byte k l h s) = inr (inl (byte_at st k l h s))
      at_row n d (pair h) = inr (inr (pair_at_lem m a b h))

-- ---- the rows of a search
unfoldable pub refusal_in : Result Outcome Refusal → Verdict
refusal_in (Err x) = Err x
refusal_in (Ok o) = Ok tt

module _ (m : List ℤ) (st : List ℕ) (budget : ℕ) where
  abbrev row8 : Verdict
  row8 = refusal_in (told (search_result (plate m) budget).outcome (search_result (plate m) budget).examinations)

  eight_at : (i : ℕ) → (search_result (plate m) budget).outcome ≡ answer8 i → At row8 8 i
  unfolding told refusal_in shown
  eight_at i e = (Uncrossed i, ap (λ (o : any.Outcome). refusal_in (told o (search_result (plate m) budget).examinations)) e, refl)

  at_eight :
      (R : ℕ → ℕ → Type 0) → ((i : ℕ) → (search_result (plate m) budget).outcome ≡ answer8 i → R 8 i) → (n d : ℕ) → At row8 n d → R n d
  unfolding told refusal_in shown
  at_eight R f n d e = go (search_result (plate m) budget).outcome refl e
    where
      go :
          (o : any.Outcome) → (search_result (plate m) budget).outcome ≡ o →
          At (refusal_in (told o (search_result (plate m) budget).examinations)) n d → R n d
      go done q e = not_accepted e.1
      go paused q e = not_accepted e.1
      go (answer8 i) q e = from_refused R (f i q) e

  in_outcome : (v : Verdict) → or_else v row8 ≡ refusal_in (outcome_after v (search_result (plate m) budget))
  unfolding or_else outcome_after refusal_in
  in_outcome (Err x) = refl
  in_outcome (Ok t) = refl

  pub search_settled : Settled (SearchRow m st budget) (refusal_in (outcome_of m st budget))
  unfolding outcome_of
  search_settled =
      subst (Settled (SearchRow m st budget)) (in_outcome (search_refusal m st))
      (settled_as row_of at_row
      (settled_or
      (λ n d n' d' v w. let l = early_number m st n d v in let e = at_eight (λ n d. n ≡ 8) (λ i h. refl) n' d' w in omega arith)
      (early_settled m st) (settled_at row8)))
    where
      row_of : (n d : ℕ) → Early m st n d ⊎ At row8 n d → SearchRow m st budget n d
      row_of n d (inl (inl v)) = list (shows n d) v
      row_of n d (inl (inr v)) = at_buffer m st (SearchRow m st budget) buffer n d v
      row_of n d (inr v) = at_eight (SearchRow m st budget) uncrossed n d v

      at_row : (n d : ℕ) → SearchRow m st budget n d → Early m st n d ⊎ At row8 n d
      at_row n d (list x e) = inl (inl e)
      at_row n d (buffer h) = inl (inr (buffer_at m st h))
      at_row n d (uncrossed i e) = inr (eight_at i e)

-- ---- every row has a number above 0
pub search_row_positive : (m : List ℤ) (st : List ℕ) (budget n d : ℕ) → SearchRow m st budget n d → 0 < n
search_row_positive m st budget n d (list x e) = list_positive m n d e
search_row_positive m st budget n d (buffer h) = omega arith
search_row_positive m st budget n d (uncrossed i e) = omega arith

pub request_row_positive : (m : List ℤ) (st : List ℕ) (a b n d : ℕ) → RequestRow m st a b n d → 0 < n
request_row_positive m st a b n d (list x e) = list_positive m n d e
request_row_positive m st a b n d (buffer h) = omega arith
request_row_positive m st a b n d (byte k l h s) = omega arith
request_row_positive m st a b n d (pair h) = omega arith
