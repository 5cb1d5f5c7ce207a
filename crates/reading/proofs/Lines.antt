-- Laws of lines: what is left after them, which are bad, and what the first one of a good text holds. Assumes nothing.
use mathlib.Core.Path.{◌≡◌, refl, sym, ap, ◌∙◌, subst}
use mathlib.Core.Logic.{⊎_elim}
use mathlib.Core.Bool.{true, false, not}
use mathlib.Core.List.{List}
use Prim.Native.Nat.{ℕ, zero, suc, ◌+◌, ◌-◌, ◌≤◌, ◌<◌}
use native.Mathlib.Nat.{eq-or-lt_of_le, le_of_suc-le-suc}
use native.Mathlib.Numerals.{add-one}
use native.Mathlib.Omega.{arith}
use borrow.Author.Tests.{ltb-true, lt-ltb, le-ltb, ne_eqb, not-false}
use lib.Dec.{ltb}
use lib.ListN.{length}
use Rattle.std.specs.Prelude.{Some, None}
use Rattle.std.specs.Bool.{then_some}
use Rattle.std.proofs.lemmas.Bool.{cases_lt}
use Rattle.plane.proofs.Laws.Tells.{cond_yes, cond_no}
use Rattle.plane.proofs.Laws.Numbers.{first_past, first_at}
use Rattle.reading.specs.Text.{feed, has, Cut, after}
use Rattle.reading.specs.Read.{is_budget, is_mark, rest_of, line_of, is_there, is_good_as, is_good, is_bad, first_bad, Readable, is_over}
use Rattle.reading.proofs.Tests.{not_both, and_yes, before_first}
use Rattle.reading.proofs.Text.{cut-length, after-length}

module _ (t : List ℕ) where
  -- ---- what is left
  pub next_rest : (n : ℕ) → rest_of t (n + 1) ≡ after feed (rest_of t n)
  unfolding rest_of
  next_rest n = ap (rest_of t) (add-one n)

  pub next_cut : (n : ℕ) → has feed (rest_of t n) ≡ true → Cut feed (rest_of t n) (line_of t n) (rest_of t (n + 1))
  next_cut n h = record { there = h; left = refl; right = next_rest n }

  next-length : (n : ℕ) → length (rest_of t (suc n)) ≤ length (rest_of t n) - 1
  unfolding rest_of
  next-length n = after-length feed (rest_of t n)

  -- where nothing is left, nothing is left later
  pub past_from : (k n : ℕ) → n ≤ k → length (rest_of t n) ≡ 0 → length (rest_of t k) ≡ 0
  past_from zero n l p = subst (λ (j : ℕ). length (rest_of t j) ≡ 0) (let z : n ≡ 0 = omega arith in z) p
  past_from (suc k) n l p =
      ⊎_elim
      (λ e. subst (λ (j : ℕ). length (rest_of t j) ≡ 0) e p)
      (λ m. let h = past_from k n (le_of_suc-le-suc m) p in let s = next-length k in omega arith)
      (eq-or-lt_of_le l)

  -- each line takes a byte at least
  pub lines-take : (n : ℕ) → 0 < length (rest_of t n) → n + length (rest_of t n) ≤ length t
  unfolding rest_of
  lines-take zero l = omega arith
  lines-take (suc n) l = let s = next-length n in let h = lines-take n (omega arith) in omega arith

  module _ (n : ℕ) where
    pub there_yes : 0 < length (rest_of t n) → is_there t n ≡ true
    unfolding is_there
    there_yes l = lt-ltb _ _ l

    there_no : length (rest_of t n) ≡ 0 → is_there t n ≡ false
    unfolding is_there
    there_no e = le-ltb _ _ (omega arith)

    pub over_no : 0 < length (rest_of t n) → is_over t n ≡ false
    unfolding is_over
    over_no l = ap not (there_yes l)

    pub over_yes : length (rest_of t n) ≡ 0 → is_over t n ≡ true
    unfolding is_over
    over_yes e = ap not (there_no e)

    -- ---- good lines
    pub good_uncut : has feed (rest_of t n) ≡ false → is_good t n ≡ false
    unfolding is_good
    good_uncut h = cond_no _ _ h

    -- a line that is cut off is good if it is what its number asks
    pub good_cut : (l r : List ℕ) → Cut feed (rest_of t n) l r → is_good_as n l ≡ is_good t n
    unfolding is_good
    good_cut l r c = ap (is_good_as n) c.left ∙ sym (cond_yes _ _ c.there)

    good_both : is_good t n ≡ true → (has feed (rest_of t n) ≡ true) × (is_good_as n (line_of t n) ≡ true)
    unfolding is_good
    good_both g = and_yes (has feed (rest_of t n)) (is_good_as n (line_of t n)) g

    -- ---- bad lines
    pub bad_here : 0 < length (rest_of t n) → is_good t n ≡ false → is_bad t n ≡ true
    unfolding is_bad
    bad_here l g = cond_yes _ _ (there_yes l) ∙ ap not g

    pub bad_not : 0 < length (rest_of t n) → is_good t n ≡ true → is_bad t n ≡ false
    unfolding is_bad
    bad_not l g = cond_yes _ _ (there_yes l) ∙ ap not g

    bad_past : length (rest_of t n) ≡ 0 → is_bad t n ≡ false
    unfolding is_bad
    bad_past e = cond_no _ _ (there_no e)

    pub bad_there : is_bad t n ≡ true → 0 < length (rest_of t n)
    unfolding is_bad is_there
    bad_there b = ltb-true 0 (length (rest_of t n)) (and_yes (ltb 0 (length (rest_of t n))) (not (is_good t n)) b).0

    good_if : 0 < length (rest_of t n) → is_bad t n ≡ false → is_good t n ≡ true
    unfolding is_bad
    good_if l b = not-false _ (sym (cond_yes _ _ (there_yes l)) ∙ b)

    -- ---- the two ends of the loop that looks for a bad line
    pub first_is :
        0 < length (rest_of t n) → is_good t n ≡ false → ((k : ℕ) → k < n → is_bad t k ≡ false) →
        Some n ≡ then_some (ltb (first_bad t) (length t)) (first_bad t)
    unfolding first_bad
    first_is l g h =
        let m = lines-take n l in
        let e = first_at (is_bad t) (length t) n (omega arith) h (bad_here l g) in
        subst (λ (i : ℕ). Some n ≡ then_some (ltb i (length t)) i) (sym e) (ap (λ b. then_some b n) (sym (lt-ltb n (length t) (omega arith))))

  pub none_bad : (n : ℕ) → length (rest_of t n) ≡ 0 → ((k : ℕ) → k < n → is_bad t k ≡ false) → None ≡ then_some (ltb (first_bad t) (length t)) (first_bad t)
  unfolding first_bad
  none_bad n p h =
      let e = first_past (is_bad t) (length t) (λ k l. ⊎_elim (h k) (λ m. bad_past k (past_from k n m p)) (cases_lt k n)) in
      ap (λ b. then_some b (first_bad t)) (sym (le-ltb _ _ (omega arith)))

  -- ---- a text without a bad line
  module _ (r : Readable t) where
    pub good_line : (n : ℕ) → 0 < length (rest_of t n) → is_good t n ≡ true
    unfolding first_bad
    good_line n l = good_if n l (before_first (is_bad t) (length t) n (let m = lines-take n l in let g = r.good in omega arith))

    pub line_cut : (n : ℕ) → 0 < length (rest_of t n) → has feed (rest_of t n) ≡ true
    line_cut n l = (good_both n (good_line n l)).0

    -- what has no line feed any more is nothing
    pub none_left : (n : ℕ) → has feed (rest_of t n) ≡ false → length (rest_of t n) ≡ 0
    none_left n h = ⊎_elim (λ l. not_both (line_cut n l) h) (λ l. omega arith) (cases_lt 0 (length (rest_of t n)))

    first_there : 0 < length (rest_of t 0)
    unfolding rest_of
    first_there = r.some

    pub first_over : (j : ℕ) → j < 1 → is_over t j ≡ false
    first_over j l = subst (λ (i : ℕ). is_over t i ≡ false) (let z : 0 ≡ j = omega arith in z) (over_no 0 first_there)

    pub first_cut : has feed t ≡ true
    unfolding rest_of
    first_cut = line_cut 0 first_there

    pub first_budget : is_budget (line_of t 0) ≡ true
    unfolding is_good_as
    first_budget = (good_both 0 (good_line 0 first_there)).1

    pub mark_good : (k : ℕ) → 0 < length (rest_of t (k + 1)) → is_mark (line_of t (k + 1)) ≡ true
    unfolding is_good_as
    mark_good k l = sym (cond_no _ _ (ne_eqb (k + 1) 0 (λ z. let y : ⊥ = omega arith in y))) ∙ (good_both (k + 1) (good_line (k + 1) l)).1

-- what the loop that looks for a bad line needs of these
pub ruleset passing = (lines-take, good_uncut, first_is, none_bad, cut-length)
