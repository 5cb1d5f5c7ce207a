-- The first four rows of 01's table: each number is given exactly when its row applies and none above it does; a list to which no row
-- applies is accepted, and is a plate. Assumes nothing.
use mathlib.Core.Path.{◌≡◌, refl, sym, ◌∙◌, ap, ap₂, subst}
use mathlib.Core.Bool.{true, false, not, cond}
use mathlib.Core.List.{List}
use mathlib.Core.Logic.{◌↔◌}
use Prim.Native.Nat.{ℕ, ◌%◌, ◌≤◌, ◌<◌}
use native.Mathlib.Decide.{dec_lt}
use native.Mathlib.Omega.{arith}
use borrow.Author.Tests.{eq-eqb, ne_eqb, lt-ltb, le-ltb, leb-true, leb-false}
use lib.Dec.{eqb}
use lib.ListN.{length, get_or, get_or-eq_default}
use lib.IntN.{ℤ, pos, nat_abs}
use Rattle.std.specs.Prelude.{Result, Ok, Err}
use Rattle.refusals.specs.declared.Refusal.{Refusal}
use Rattle.refusals.specs.declared.Refusal.TheVariants.{OddLength, TooManyMarks, OutOfRange, EqualMarks, BufferLength, ByteAboveTwo, NotAPair, Uncrossed}
use Rattle.plane.specs.Marks.{count, mark, IsMark, Near, Plate}
use Rattle.refusals.specs.Check.{Outside, EqualsEarlier, in_range, is_out, first_out, differs, has_twin, first_twin, Shown, shows, shown, Refused, verdict, Row, row1, row2, row3, row4}
use Rattle.plane.proofs.Laws.Tells.{tells_dec, tells_eqb, tells_true, tells_yes, tells_no, cond_yes, cond_no, not_not}
use Rattle.plane.proofs.Laws.Numbers.{Seek, nowhere, seek, first_at, first_past, all_miss, all_no}
use Rattle.plane.proofs.Laws.Numbers as numbers
use Rattle.plane.proofs.Laws.Marks.{same_point_tells}

-- ---- a refusal has one number and one detail, and these are no other's
module _ where
  by_number : ℕ → ℕ → Refusal
  by_number n d =
      cond (eqb n 1) (OddLength d)
      (cond (eqb n 2) (TooManyMarks d)
      (cond (eqb n 3) (OutOfRange d)
      (cond (eqb n 4) (EqualMarks d)
      (cond (eqb n 5) (BufferLength d)
      (cond (eqb n 6) (ByteAboveTwo d)
      (cond (eqb n 7) NotAPair (Uncrossed d)))))))

  by_shown : (x : Refusal) → by_number (shown x).number (shown x).detail ≡ x
  unfolding shown by_number
  by_shown (OddLength d) = refl
  by_shown (TooManyMarks d) = refl
  by_shown (OutOfRange d) = refl
  by_shown (EqualMarks d) = refl
  by_shown (BufferLength d) = refl
  by_shown (ByteAboveTwo d) = refl
  by_shown NotAPair = refl
  by_shown (Uncrossed d) = refl

  pub shown_same : {x y : Refusal} → shown x ≡ shown y → x ≡ y
  shown_same {x} {y} e = sym (by_shown x) ∙ ap (λ (s : Shown). by_number s.number s.detail) e ∙ by_shown y

pub shown_positive : (x : Refusal) → 0 < (shown x).number
unfolding shown
shown_positive (OddLength d) = omega arith
shown_positive (TooManyMarks d) = omega arith
shown_positive (OutOfRange d) = omega arith
shown_positive (EqualMarks d) = omega arith
shown_positive (BufferLength d) = omega arith
shown_positive (ByteAboveTwo d) = omega arith
shown_positive NotAPair = omega arith
shown_positive (Uncrossed d) = omega arith

-- ---- an answer is one refusal, or none
module _ {A : Type 0} where
  pub err_same : {x y : Refusal} → ◌≡◌ {A = Result A Refusal} (Err x) (Err y) → x ≡ y
  err_same {x} {y} e = ap of e
    where
      of : Result A Refusal → Refusal
      of (Ok t) = x
      of (Err z) = z

  pub ok_no_err : {a : A} {x : Refusal} → ◌≡◌ {A = Result A Refusal} (Ok a) (Err x) → ⊥
  ok_no_err e = let z : ◌≡◌ {A = ℕ} 0 1 = ap of e in omega arith
    where
      of : Result A Refusal → ℕ
      of (Ok t) = 0
      of (Err z) = 1

module _ (m : List ℤ) where
  -- ---- what the tests tell
  in_range_lem : (k : ℕ) → is_out m k ≡ false → nat_abs (get_or m k (pos 0)) ≤ 10000
  unfolding is_out in_range
  in_range_lem k e = leb-true (nat_abs (get_or m k (pos 0))) 10000 (sym (not_not _) ∙ ap not e)

  is_outside : (k : ℕ) → is_out m k ≡ true → Outside (get_or m k (pos 0))
  unfolding is_out in_range
  is_outside k e = leb-false (nat_abs (get_or m k (pos 0))) 10000 (sym (not_not _) ∙ ap not e)

  twin_yes : (j : ℕ) → has_twin m j ≡ true → EqualsEarlier m j
  unfolding has_twin differs
  twin_yes j e =
      let x = all_miss (differs m j) j (sym (not_not _) ∙ ap not e) in
      (x.0, x.1, tells_yes (same_point_tells (mark m x.0) (mark m j)) (sym (not_not _) ∙ ap not x.2))

  twin_no : (j : ℕ) → has_twin m j ≡ false → ¬ EqualsEarlier m j
  unfolding has_twin differs
  twin_no j e x = absurd (clash (sym (ap not (all_no (differs m j) x.0 j x.1 (ap not (tells_true (same_point_tells (mark m x.0) (mark m j)) x.2)))) ∙ e))
    where
      clash : true ≡ false → ⊥
      clash q = tells_no (tells_eqb {m = 0} {n = 0}) q refl

  -- ---- each row fails where its condition does
  abbrev Even : Type 0
  Even = length m % 2 ≡ 0

  abbrev AllNear : Type 0
  AllNear = (k : ℕ) → k < length m → nat_abs (get_or m k (pos 0)) ≤ 10000

  abbrev AllApart : Type 0
  AllApart = (j : ℕ) → IsMark m j → ¬ EqualsEarlier m j

  no_row : (b : ℕ) → (1 < b → Even) → (2 < b → count m ≤ 128) → (3 < b → AllNear) → (4 < b → AllApart) → (n d : ℕ) → n < b → ¬ Row m n d
  no_row b h1 h2 h3 h4 n d l (row1 e o x) = let q = h1 (omega arith) in omega arith
  no_row b h1 h2 h3 h4 n d l (row2 e o x) = let q = h2 (omega arith) in omega arith
  no_row b h1 h2 h3 h4 n d l (row3 e s o x) = let q = h3 (omega arith) d s in omega arith
  no_row b h1 h2 h3 h4 n d l (row4 e s o x) = h4 (omega arith) d s o

  abbrev NoneBelow : ℕ → Type 0
  NoneBelow b = (n d : ℕ) → n < b → ¬ Row m n d

  -- ---- the first row that applies, or none
  data First : Type 0 where
    first : (x : Refusal) → verdict m ≡ Err x → Row m (shown x).number (shown x).detail → NoneBelow (shown x).number → First
    none : verdict m ≡ Ok tt → NoneBelow 5 → AllNear → AllApart → Even → count m ≤ 128 → First

  absent : {A : Type 0} {a b : ℕ} → a < b → b ≤ a → A
  absent l k = absurd (let z : ⊥ = omega arith in z)

  not_odd : Even → length m % 2 ≡ 1 → ⊥
  not_odd e o = omega arith

  first? : First
  unfolding verdict first_out first_twin shown
  first? = length? (tells_dec tells_eqb)
    where
      marks? : Even → count m ≤ 128 → AllNear → first_out m ≡ length m → Seek (has_twin m) (count m) → First
      marks? e f g x (numbers.found j l h t) =
          let q = first_at (has_twin m) (count m) j l h t in
          first (EqualMarks j)
          (cond_no _ _ (ne_eqb _ _ (not_odd e)) ∙ cond_no _ _ (le-ltb _ _ f) ∙ cond_no _ _ (le-ltb _ _ (subst (λ (k : ℕ). length m ≤ k) (sym x) (omega arith))) ∙ cond_yes _ _ (lt-ltb _ _ (subst (λ (k : ℕ). k < count m) (sym q) l)) ∙ ap (λ (k : ℕ). Err (EqualMarks k)) q)
          (row4 refl l (twin_yes j t) (λ i s. twin_no i (h i s)))
          (no_row 4 (λ l. e) (λ l. f) (λ l. g) (λ l. absent l (omega arith)))
      marks? e f g x (nowhere h) =
          let q = first_past (has_twin m) (count m) h in
          let a : AllApart = λ j l. twin_no j (h j l) in
          none
          (cond_no _ _ (ne_eqb _ _ (not_odd e)) ∙ cond_no _ _ (le-ltb _ _ f) ∙ cond_no _ _ (le-ltb _ _ (subst (λ (k : ℕ). length m ≤ k) (sym x) (omega arith))) ∙ cond_no _ _ (le-ltb _ _ (subst (λ (k : ℕ). count m ≤ k) (sym q) (omega arith))))
          (no_row 5 (λ l. e) (λ l. f) (λ l. g) (λ l. a)) g a e f

      range? : Even → count m ≤ 128 → Seek (is_out m) (length m) → First
      range? e f (numbers.found k l h t) =
          let q = first_at (is_out m) (length m) k l h t in
          first (OutOfRange k)
          (cond_no _ _ (ne_eqb _ _ (not_odd e)) ∙ cond_no _ _ (le-ltb _ _ f) ∙ cond_yes _ _ (lt-ltb _ _ (subst (λ (i : ℕ). i < length m) (sym q) l)) ∙ ap (λ (k : ℕ). Err (OutOfRange k)) q)
          (row3 refl l (is_outside k t) (λ i s o. absent o (in_range_lem i (h i s))))
          (no_row 3 (λ l. e) (λ l. f) (λ l. absent l (omega arith)) (λ l. absent l (omega arith)))
      range? e f (nowhere h) = marks? e f (λ k l. in_range_lem k (h k l)) (first_past (is_out m) (length m) h) (seek (has_twin m) (count m))

      number? : Even → Dec (128 < count m) → First
      number? e (yes l) =
          first (TooManyMarks (count m))
          (cond_no _ _ (ne_eqb _ _ (not_odd e)) ∙ cond_yes _ _ (lt-ltb _ _ l))
          (row2 refl l refl)
          (no_row 2 (λ l. e) (λ l. absent l (omega arith)) (λ l. absent l (omega arith)) (λ l. absent l (omega arith)))
      number? e (no d) = range? e (omega arith) (seek (is_out m) (length m))

      length? : Dec (length m % 2 ≡ 1) → First
      length? (no d) = number? (omega arith) (dec_lt 128 (count m))
      length? (yes o) =
          first (OddLength (length m))
          (cond_yes _ _ (eq-eqb _ _ o))
          (row1 refl o refl)
          (no_row 1 (λ l. absent l (omega arith)) (λ l. absent l (omega arith)) (λ l. absent l (omega arith)) (λ l. absent l (omega arith)))

  -- ---- two rows with one number and none below it have one detail
  one_detail : (n d e : ℕ) → Row m n d → Row m n e → d ≡ e
  one_detail n d e (row1 x o p) (row1 y q r) = p ∙ sym r
  one_detail n d e (row2 x o p) (row2 y q r) = p ∙ sym r
  one_detail n d e (row3 x s o p) (row3 y t q r) = same (dec_lt d e) (dec_lt e d)
    where
      same : Dec (d < e) → Dec (e < d) → d ≡ e
      same (yes l) z = absurd (r d l o)
      same (no z) (yes l) = absurd (p e l q)
      same (no z) (no w) = omega arith
  one_detail n d e (row4 x s o p) (row4 y t q r) = same (dec_lt d e) (dec_lt e d)
    where
      same : Dec (d < e) → Dec (e < d) → d ≡ e
      same (yes l) z = absurd (r d l o)
      same (no z) (yes l) = absurd (p e l q)
      same (no z) (no w) = omega arith
  one_detail n d e (row1 x o p) (row2 y q r) = omega arith
  one_detail n d e (row1 x o p) (row3 y t q r) = omega arith
  one_detail n d e (row1 x o p) (row4 y t q r) = omega arith
  one_detail n d e (row2 x o p) (row1 y q r) = omega arith
  one_detail n d e (row2 x o p) (row3 y t q r) = omega arith
  one_detail n d e (row2 x o p) (row4 y t q r) = omega arith
  one_detail n d e (row3 x s o p) (row1 y q r) = omega arith
  one_detail n d e (row3 x s o p) (row2 y q r) = omega arith
  one_detail n d e (row3 x s o p) (row4 y t q r) = omega arith
  one_detail n d e (row4 x s o p) (row1 y q r) = omega arith
  one_detail n d e (row4 x s o p) (row2 y q r) = omega arith
  one_detail n d e (row4 x s o p) (row3 y t q r) = omega arith

  -- the rows have the numbers 1 to 4
  pub row_small : (n d : ℕ) → Row m n d → n ≤ 4
  row_small n d (row1 x o p) = omega arith
  row_small n d (row2 x o p) = omega arith
  row_small n d (row3 x s o p) = omega arith
  row_small n d (row4 x s o p) = omega arith

  pub row_positive : (n d : ℕ) → Row m n d → 0 < n
  row_positive n d (row1 x o p) = omega arith
  row_positive n d (row2 x o p) = omega arith
  row_positive n d (row3 x s o p) = omega arith
  row_positive n d (row4 x s o p) = omega arith

  above_none : {n d : ℕ} → Row m n d → n < 5
  above_none {n} {d} r = let l = row_small n d r in omega arith

  -- ---- "the lowest number that applies is given"
  never : {x : Refusal} → verdict m ≡ Err x → verdict m ≡ Ok tt → ⊥
  never e f = ok_no_err (sym f ∙ e)

  pub refused_exactly : (n d : ℕ) → Refused (verdict m) (shows n d) ↔ (Row m n d × NoneBelow n)
  refused_exactly n d = (to first?, from first?)
    where
      to : First → Refused (verdict m) (shows n d) → Row m n d × NoneBelow n
      to (first x q r b) p =
          let e : shown x ≡ shows n d = ap shown (err_same (sym q ∙ p.1)) ∙ p.2 in (
            subst (λ (s : Shown). Row m s.number s.detail) e r,
            subst (λ (s : Shown). NoneBelow s.number) e b,
          )
      to (none q b g a e f) p = absurd (never p.1 q)

      from : First → Row m n d × NoneBelow n → Refused (verdict m) (shows n d)
      from (none q b g a e f) h = absurd (b n d (above_none h.0) h.0)
      from (first x q r b) h = pick (dec_lt (shown x).number n) (dec_lt n (shown x).number)
        where
          pick : Dec ((shown x).number < n) → Dec (n < (shown x).number) → Refused (verdict m) (shows n d)
          pick (yes l) z = absurd (h.1 (shown x).number (shown x).detail l r)
          pick (no z) (yes l) = absurd (b n d l h.0)
          pick (no z) (no w) =
              let k : (shown x).number ≡ n = omega arith in
              (x, q, ap₂ shows k (one_detail n (shown x).detail d (subst (λ (i : ℕ). Row m i (shown x).detail) k r) h.0))

  pub accepted_exactly : (verdict m ≡ Ok tt) ↔ ((n d : ℕ) → ¬ Row m n d)
  accepted_exactly = (to first?, from first?)
    where
      to : First → verdict m ≡ Ok tt → (n d : ℕ) → ¬ Row m n d
      to (none q b g a e f) p = λ n d r. b n d (above_none r) r
      to (first x q r b) p = absurd (never q p)

      from : First → ((n d : ℕ) → ¬ Row m n d) → verdict m ≡ Ok tt
      from (none q b g a e f) h = q
      from (first x q r b) h = absurd (h _ _ r)

  -- ---- what an accepted list is
  pub accepted_plate : verdict m ≡ Ok tt → Plate m
  accepted_plate p = go first?
    where
      near : AllNear → (k : ℕ) → Near 10000 (get_or m k (pos 0))
      near g k = split (dec_lt k (length m))
        where
          split : Dec (k < length m) → Near 10000 (get_or m k (pos 0))
          split (yes l) = record { near = g k l }
          split (no d) = subst (Near 10000) (sym (get_or-eq_default m (pos 0) (let z : length m ≤ k = omega arith in z))) (record { near = omega arith })

      go : First → Plate m
      go (first x q r b) = absurd (never q p)
      go (none q b g a e f) = record { even = omega arith; few = f; near = near g; apart = λ i j l h x. a j h (i, l, x) }
