-- What reading answers, case by case, in the shape in which `read` finds the cases: refused exactly if row 9 applies, with its detail.
-- And what the answer says of the lent list. Assumes nothing.
use mathlib.Core.Path.{◌≡◌, refl, sym, ap, ◌∙◌, subst}
use mathlib.Core.List.{List, ◌++◌}
use mathlib.Core.Logic.{◌↔◌}
use Prim.Native.Nat.{ℕ, ◌+◌, ◌*◌, ◌≤◌, ◌<◌}
use native.Mathlib.Decide.{dec_lt}
use native.Mathlib.Nat.{le_refl}
use native.Mathlib.Omega.{arith}
use borrow.Author.Tests.{ltb-true, ltb-false, lt-ltb, le-ltb, eq-eqb, ne_eqb}
use lib.Dec.{ltb}
use mathlib.Core.Bool.{Bool, true, false}
use lib.IntN.{ℤ}
use lib.ListN.{length, take, drop}
use lib.Seq.{take_at, drop_at}
use Rattle.plane.proofs.Laws.Tells.{cond_yes, cond_no}
use Rattle.plane.proofs.Laws.Numbers.{Seek, found, nowhere, seek, first_at, first_past}
use Rattle.std.specs.Prelude.{Some, None, Ok, Err}
use Rattle.std.specs.Bool.{then_some}
use Rattle.std.proofs.lemmas.Option.{same_Some}
use Rattle.reading.specs.declared.read.Reading.{Reading}
use Rattle.reading.specs.Read.{budget_of, line_of, is_bad, first_bad, Readable, Row9, long, empty, line, mark_count, numbers_of}
use Rattle.reading.specs.Read.{Answer, refused, reading_of, number_of, detail_of, numbers_by, numbers_after}
use Rattle.reading.proofs.Lines.{lines-take, bad_there}
use Rattle.reading.proofs.Marks.{marks-take, numbers-length}

module _ (t : List ℕ) where
  pub too_long : 4096 < length t → refused 0 ≡ reading_of t
  unfolding reading_of
  too_long l = sym (cond_yes _ _ (lt-ltb _ _ l))

  pub no_text : length t ≡ 0 → refused 1 ≡ reading_of t
  unfolding reading_of
  no_text e = sym (cond_no _ _ (le-ltb 4096 (length t) (omega arith)) ∙ cond_yes _ _ (eq-eqb _ _ e))

  pub bad_line : length t ≤ 4096 → (length t ≡ 0 → ⊥) → first_bad t < length t → refused (first_bad t + 1) ≡ reading_of t
  unfolding reading_of
  bad_line l n b = sym (cond_no _ _ (le-ltb _ _ l) ∙ cond_no _ _ (ne_eqb _ _ n) ∙ cond_yes _ _ (lt-ltb _ _ b))

  pub good_text : Readable t → Ok (record { budget = budget_of (line_of t 0); count = 2 * mark_count t }) ≡ reading_of t
  unfolding reading_of
  good_text r =
      sym
      (cond_no _ _ (le-ltb _ _ r.short)
      ∙ cond_no _ _ (ne_eqb (length t) 0 (λ e. let s = r.some in let z : ⊥ = omega arith in z))
      ∙ cond_no _ _ (le-ltb _ _ r.good))

  -- ---- by what the search for a bad line answers
  module _ (l : length t ≤ 4096) (p : 0 < length t) where
    pub bad_found : (n : ℕ) → Some n ≡ then_some (ltb (first_bad t) (length t)) (first_bad t) → refused (n + 1) ≡ reading_of t
    bad_found n h = go (ltb (first_bad t) (length t)) refl h
      where
        go : (b : Bool) → ltb (first_bad t) (length t) ≡ b → Some n ≡ then_some b (first_bad t) → refused (n + 1) ≡ reading_of t
        go true q e = ap (λ (i : ℕ). refused (i + 1)) (same_Some _ _ e) ∙ bad_line l (λ z. let y : ⊥ = omega arith in y) (ltb-true _ _ q)
        go false q e = absurd cc

    pub none_found : None ≡ then_some (ltb (first_bad t) (length t)) (first_bad t) → Readable t
    none_found h = go (ltb (first_bad t) (length t)) refl h
      where
        go : (b : Bool) → ltb (first_bad t) (length t) ≡ b → None ≡ then_some b (first_bad t) → Readable t
        go true q e = absurd cc
        go false q e = record { short = l; some = p; good = ltb-false _ _ q }

  -- ---- the lent list
  pub kept : (old : List ℤ) (l : ℕ) → refused l ≡ reading_of t → old ≡ numbers_after t old
  unfolding numbers_by
  kept old l e = ap (λ r. numbers_by r t old) e

  pub filled : (old : List ℤ) (r : Reading) → Ok r ≡ reading_of t → numbers_of t ++ drop r.count old ≡ numbers_after t old
  unfolding numbers_by
  filled old r e = ap (λ r. numbers_by r t old) e

  -- ---- one of the two
  pub data Case : Type 0 where
    bad : (d : ℕ) → refused d ≡ reading_of t → Row9 t d → Case
    good : Readable t → Case

  pub case : Case
  unfolding first_bad
  case = long? (dec_lt 4096 (length t))
    where
      bad? : length t ≤ 4096 → 0 < length t → Seek (is_bad t) (length t) → Case
      bad? s p (nowhere h) = let q = first_past (is_bad t) (length t) h in good (record { short = s; some = p; good = omega arith })
      bad? s p (found i l h b) =
          let q = first_at (is_bad t) (length t) i l h b in
          bad (i + 1)
          (subst (λ (n : ℕ). refused (n + 1) ≡ reading_of t) q (bad_line s (λ e. let z : ⊥ = omega arith in z) (omega arith)))
          (line i s b h refl)

      empty? : length t ≤ 4096 → Dec (0 < length t) → Case
      empty? s (yes p) = bad? s p (seek (is_bad t) (length t))
      empty? s (no n) = let e : length t ≡ 0 = omega arith in bad 1 (no_text e) (empty e refl)

      long? : Dec (4096 < length t) → Case
      long? (yes l) = bad 0 (too_long l) (long l refl)
      long? (no n) = empty? (omega arith) (dec_lt 0 (length t))

  never : (d : ℕ) (r : Reading) → refused d ≡ reading_of t → Ok r ≡ reading_of t → ⊥
  never d r p q = cc

  -- ---- "given exactly when"
  row_refused : (d : ℕ) → Row9 t d → refused d ≡ reading_of t
  unfolding first_bad
  row_refused d (long l p) = ap refused p ∙ too_long l
  row_refused d (empty e p) = ap refused p ∙ no_text e
  row_refused d (line n s b h p) =
      let l = bad_there t n b in
      let k = lines-take t n l in
      let q = first_at (is_bad t) (length t) n (omega arith) h b in
      ap refused p
      ∙ subst (λ (i : ℕ). refused (i + 1) ≡ reading_of t) q (bad_line s (λ e. let z : ⊥ = omega arith in z) (omega arith))

  pub refused_exactly : (d : ℕ) → (reading_of t ≡ refused d) ↔ Row9 t d
  unfolding detail_of
  refused_exactly d = (to case, λ r. sym (row_refused d r))
    where
      to : Case → reading_of t ≡ refused d → Row9 t d
      to (bad e q r) p = subst (Row9 t) (ap detail_of (q ∙ p)) r
      to (good r) p = absurd (never d _ (sym p) (good_text r))

  -- the same by what the controller shows
  pub shown_exactly : (d : ℕ) → ((number_of (reading_of t) ≡ 9) × (detail_of (reading_of t) ≡ d)) ↔ Row9 t d
  unfolding number_of detail_of
  shown_exactly d = ((λ h. to (reading_of t) refl h.0 h.1), λ r. let e = sym (row_refused d r) in (ap number_of e, ap detail_of e))
    where
      to : (r : Answer) → reading_of t ≡ r → number_of r ≡ 9 → detail_of r ≡ d → Row9 t d
      to (Err e) q n p = (refused_exactly d).0 (q ∙ ap refused p)
      to (Ok r) q n p = absurd (let z : ⊥ = omega arith in z)

  pub readable_exactly : Readable t ↔ ((d : ℕ) → ¬ Row9 t d)
  readable_exactly = ((λ r d x. never d _ (row_refused d x) (good_text r)), from case)
    where
      from : Case → ((d : ℕ) → ¬ Row9 t d) → Readable t
      from (bad d q x) h = absurd (h d x)
      from (good r) h = r

  -- ---- a text that was read
  module _ (r : Reading) (e : Ok r ≡ reading_of t) where
    pub was_readable : Readable t
    was_readable = go case
      where
        go : Case → Readable t
        go (bad d q x) = absurd (never d r q e)
        go (good h) = h

    pub budget_is : r.budget ≡ budget_of (line_of t 0)
    budget_is = let g = good_text was_readable in cc

    pub count_is : r.count ≡ 2 * mark_count t
    count_is = let g = good_text was_readable in cc

    pub count_small : r.count ≤ 2046
    count_small = let h = was_readable in let m = marks-take t h (mark_count t) (le_refl (mark_count t)) in let c = count_is in omega arith

    pub numbers_count : length (numbers_of t) ≡ r.count
    unfolding numbers_of
    numbers_count = numbers-length t (mark_count t) ∙ sym count_is

    module _ (old : List ℤ) where
      -- the text's numbers stand at the start, and the rest is as it was
      pub numbers_first : take r.count (numbers_after t old) ≡ numbers_of t
      numbers_first = ap (take r.count) (sym (filled old r e)) ∙ take_at (numbers_of t) (drop r.count old) r.count numbers_count

      pub numbers_rest : drop r.count (numbers_after t old) ≡ drop r.count old
      numbers_rest = ap (drop r.count) (sym (filled old r e)) ∙ drop_at (numbers_of t) (drop r.count old) r.count numbers_count

-- what `read` needs of these
pub ruleset answers = (too_long, no_text, bad_found, none_found, good_text, kept, filled)
