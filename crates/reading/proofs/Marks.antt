-- Laws of mark lines: what one holds, how many there are, and the numbers that they give. Assumes nothing.
use mathlib.Core.Path.{◌≡◌, refl, sym, ap, ap₂, ◌∙◌, subst}
use mathlib.Core.Logic.{⊎_elim}
use mathlib.Core.Bool.{true, false, cond}
use mathlib.Core.List.{List, [], ◌∷◌, ◌++◌}
use Prim.Native.Nat.{ℕ, zero, suc, ◌+◌, ◌*◌, ◌≤◌, ◌<◌}
use native.Mathlib.Numerals.{add-one}
use native.Mathlib.Omega.{arith}
use borrow.Author.Tests.{ltb-true, not-false}
use lib.IntN.{ℤ}
use lib.ListN.{length, drop, set, length-append, length-drop}
use lib.Seq.{sets-eq, take_at, drop-append-add, drop-drop}
use Rattle.plane.specs.Numbers.{first_to}
use Rattle.std.proofs.lemmas.Bool.{cases_lt}
use Rattle.plane.proofs.Laws.Bounds.{rd, back}
use Rattle.plane.proofs.Laws.Numbers.{first_here, first_none}
use Rattle.reading.specs.Text.{feed, space, has, before, after, is_coordinate}
use Rattle.reading.specs.Read.{is_mark, rest_of, line_of, is_there, Readable, is_over, mark_count, x_of, y_of, numbers_to}
use Rattle.reading.proofs.Tests.{some_unless, some_given, given_is}
use Rattle.reading.proofs.Lines.{first_budget, first_over, none_left, next_cut, over_yes, first_cut, line_cut, mark_good}
use Rattle.reading.proofs.Tests.{and_yes, before_first}
use Rattle.reading.proofs.Text.{cut-length, coordinate_some, coordinate_fits}

-- ---- a mark
module _ (p : List ℕ) (m : is_mark p ≡ true) where
  spaced : has space p ≡ true
  unfolding is_mark
  spaced = (and_yes (has space p) (cond (is_coordinate (before space p)) (is_coordinate (after space p)) false) m).0

  both : (is_coordinate (before space p) ≡ true) × (is_coordinate (after space p) ≡ true)
  unfolding is_mark
  both =
      and_yes (is_coordinate (before space p)) (is_coordinate (after space p))
      (and_yes (has space p) (cond (is_coordinate (before space p)) (is_coordinate (after space p)) false) m).1

  -- it takes three bytes at least: its coordinates have one each
  pub mark-length : 3 ≤ length p
  mark-length =
      let x = coordinate_some (before space p) both.0 in
      let y = coordinate_some (after space p) both.1 in
      let l = cut-length space p (before space p) (after space p) (record { there = spaced; left = refl; right = refl }) in
      omega arith

  -- its coordinates are read back as they are
  pub x_reads : rd (x_of p) ≡ x_of p
  x_reads = back (coordinate_fits (before space p) both.0)

  pub y_reads : rd (y_of p) ≡ y_of p
  y_reads = back (coordinate_fits (after space p) both.1)

-- ---- the loop's end: there are k marks
module _ (t : List ℕ) where
  pub marks_are : (k : ℕ) → k + 1 ≤ length t → length (rest_of t (k + 1)) ≡ 0 → ((j : ℕ) → j < k + 1 → is_over t j ≡ false) → k ≡ mark_count t
  unfolding mark_count
  marks_are k l p h = let e = ⊎_elim last past (cases_lt (k + 1) (length t)) in omega (arith, e)
    where
      last : k + 1 < length t → k + 1 ≡ first_to (length t) (is_over t)
      last m = first_here _ (length t) (k + 1) m h (over_yes t (k + 1) p)

      past : length t ≤ k + 1 → k + 1 ≡ first_to (length t) (is_over t)
      past m = first_none _ (length t) (k + 1) (omega arith) h

  -- ---- the first k marks take four bytes each at least
  module _ (r : Readable t) where
    there_if : (n : ℕ) → is_over t n ≡ false → 0 < length (rest_of t n)
    unfolding is_over is_there
    there_if n o = ltb-true _ _ (not-false _ o)

    there_before : (k : ℕ) → k < mark_count t → 0 < length (rest_of t (k + 1))
    unfolding mark_count
    there_before k l = there_if (k + 1) (before_first (is_over t) (length t) (k + 1) (omega arith))

    -- a mark's line and its line feed
    pub mark-take : (k : ℕ) → 0 < length (rest_of t (k + 1)) → 4 + length (rest_of t (k + 1 + 1)) ≤ length (rest_of t (k + 1))
    mark-take k u =
        let m = mark-length (line_of t (k + 1)) (mark_good t r k u) in
        let c = cut-length feed (rest_of t (k + 1)) (line_of t (k + 1)) (rest_of t (k + 1 + 1)) (next_cut t (k + 1) (line_cut t r (k + 1) u)) in
        omega arith

    pub first-take : 1 + length (rest_of t 1) ≤ length t
    unfolding rest_of
    first-take = let c = cut-length feed t (line_of t 0) (rest_of t 1) (next_cut t 0 (first_cut t r)) in omega arith

    pub marks-take : (k : ℕ) → k ≤ mark_count t → 4 * k + 1 + length (rest_of t (k + 1)) ≤ length t
    marks-take zero l = first-take
    marks-take (suc k) l =
        let h = marks-take k (omega arith) in
        let u = there_before k l in
        let m = mark-take k u in
        subst (λ (n : ℕ). 4 * suc k + 1 + length (rest_of t n) ≤ length t) (let z : k + 1 + 1 ≡ suc k + 1 = omega arith in z) (omega arith)

  -- ---- the numbers of the first k marks
  pub numbers_more : (k : ℕ) → numbers_to t (k + 1) ≡ numbers_to t k ++ (x_of (line_of t (k + 1)) ∷ y_of (line_of t (k + 1)) ∷ [])
  unfolding numbers_to
  numbers_more k = ap (numbers_to t) (add-one k)

  pub numbers-length : (k : ℕ) → length (numbers_to t k) ≡ 2 * k
  unfolding numbers_to
  numbers-length zero = refl
  numbers-length (suc k) =
      let e = numbers-length k in
      let f = length-append (numbers_to t k) (x_of (line_of t (k + 1)) ∷ y_of (line_of t (k + 1)) ∷ []) in
      omega arith

-- two numbers are stored behind those of `done`
pub stored_two :
    (done old : List ℤ) (i : ℕ) (x y : ℤ) → length done ≡ i → i + 2 ≤ length old →
    set (set (done ++ drop i old) i x) (i + 1) y ≡ done ++ (x ∷ y ∷ []) ++ drop (i + 2) old
stored_two done old i x y e l =
    rw add-one
    (sets-eq (x ∷ y ∷ []) (done ++ drop i old) i (simp (length-append, length-drop) (omega arith))
    ∙ ap (λ (p : List ℤ). p ++ (x ∷ y ∷ []) ++ drop (i + 2) (done ++ drop i old)) (take_at done (drop i old) i e)
    ∙ ap (λ (p : List ℤ). done ++ (x ∷ y ∷ []) ++ p)
    (ap (λ (k : ℕ). drop (k + 2) (done ++ drop i old)) (sym e) ∙ drop-append-add done (drop i old) 2 ∙ drop-drop 2 i old))

-- one turn of the loop that stores: the numbers of mark k come behind those of the marks before it, at i
module _ (t : List ℕ) (k i : ℕ) (old held : List ℤ) (x y : ℤ) where
  pub stored_mark :
      i ≡ 2 * k → held ≡ numbers_to t k ++ drop (2 * k) old → i + 2 ≤ length old → x ≡ x_of (line_of t (k + 1)) → y ≡ y_of (line_of t (k + 1)) →
      set (set held i x) (i + 1) y ≡ numbers_to t (k + 1) ++ drop (2 * (k + 1)) old
  stored_mark n p l q r =
      let e : i + 2 ≡ 2 * (k + 1) = omega arith in
      ap (λ (h : List ℤ). set (set h i x) (i + 1) y) (p ∙ ap (λ (j : ℕ). numbers_to t k ++ drop j old) (sym n))
      ∙ stored_two (numbers_to t k) old i x y (numbers-length t k ∙ sym n) l
      ∙ ap₂ (λ (u v : ℤ). numbers_to t k ++ (u ∷ v ∷ []) ++ drop (i + 2) old) q r
      ∙ ap₂ (λ (h : List ℤ) (j : ℕ). h ++ drop j old) (sym (numbers_more t k)) e

-- what the loop that stores needs of these
pub ruleset storing = (first_cut, first_budget, first_over, none_left, mark_good, cut-length, some_unless, some_given, given_is, marks_are)
