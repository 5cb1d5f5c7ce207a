-- Laws of `all_to` and `first_to`, in the shape of a loop: what holds before it, one turn, its two ends. Assumes nothing.
use mathlib.Core.Path.{◌≡◌, refl, sym, ap, ◌∙◌, subst}
use mathlib.Core.Logic.{⊎_elim}
use mathlib.Core.Bool.{Bool, true, false, not, cond}
use Prim.Native.Nat.{ℕ, zero, suc, ◌+◌, ◌<◌}
use native.Mathlib.Nat.{eq-or-lt_of_le, le_of_suc-le-suc, not-suc-le-zero, le_refl}
use native.Mathlib.Numerals.{add-one}
use native.Mathlib.Omega.{arith}
use borrow.Author.Tests.{lt-ltb, le-ltb}
use lib.Dec.{T}
use lib.ListN.{length}
use Rattle.std.specs.Bool.{MatchBool}
use Rattle.std.specs.List.{range_with_len, AllWithin, HoldsAt}
use Rattle.std.proofs.lemmas.List.FromFn.{length-range_with_len, get_or-range_with_len}
use Rattle.plane.specs.Numbers.{all_to, first_so_far, first_to}

from_zero : (k : ℕ) → 0 + k ≡ k
from_zero k = omega arith

module _ (f : ℕ → Bool) where
  pub all_none : all_to 0 f ≡ true
  unfolding all_to
  all_none = refl

  pub all_more : (i : ℕ) → all_to i f ≡ true → f i ≡ true → all_to (i + 1) f ≡ true
  unfolding all_to
  all_more i h k = rw (add-one i) (ap (λ (t : Bool). cond t (f i) false) h ∙ k)

  pub all_upto : {i n : ℕ} {t : Bool} → i ≡ n → all_to i f ≡ t → all_to n f ≡ t
  all_upto e h = ap (λ (j : ℕ). all_to j f) (sym e) ∙ h

  pub all_end : (i n : ℕ) → i ≡ n → all_to i f ≡ true → true ≡ all_to n f
  all_end i n e h = sym (all_upto e h)

  every : (n : ℕ) → ((k : ℕ) → k < n → f k ≡ true) → all_to n f ≡ true
  unfolding all_to
  every zero h = refl
  every (suc n) h = ap (λ (t : Bool). cond t (f n) false) (every n (λ k l. h k (omega arith))) ∙ h n (le_refl (suc n))

  pub all_no : (i n : ℕ) → i < n → f i ≡ false → all_to n f ≡ false
  unfolding all_to
  all_no i zero l h = absurd (not-suc-le-zero l)
  all_no i (suc n) l h =
      ⊎_elim
      (λ e. last (all_to n f) (subst (λ (j : ℕ). f j ≡ false) e h))
      (λ l'. ap (λ (t : Bool). cond t (f n) false) (all_no i n l' h))
      (eq-or-lt_of_le (le_of_suc-le-suc l))
    where
      last : (t : Bool) → f n ≡ false → cond t (f n) false ≡ false
      last true e = e
      last false e = refl

  -- one turn, whatever the test gives: a test of "some" that is kept as "not all"
  pub some_turn : (i : ℕ) (y : Bool) → f i ≡ not y → cond (not (all_to i f)) true y ≡ not (all_to (i + 1) f)
  unfolding all_to
  some_turn i y e = rw (add-one i) (go (all_to i f) y ∙ ap (λ (t : Bool). not (cond (all_to i f) t false)) (sym e))
    where
      go : (x y : Bool) → cond (not x) true y ≡ not (cond x (not y) false)
      go true true = refl
      go true false = refl
      go false y = refl

  -- what a chain over a range tells that asks of every number
  pub all_by_cases : (n : ℕ) (r : Bool) → MatchBool r (AllWithin (λ k. f k ≡ true) (range_with_len 0 n) 0 (length (range_with_len 0 n))) ((k : ℕ) × (k < length (range_with_len 0 n)) × HoldsAt (λ k. f k ≡ false) (range_with_len 0 n) k) → r ≡ all_to n f
  all_by_cases n true h =
      sym (every n (λ k l. subst (λ (j : ℕ). f j ≡ true) (get_or-range_with_len 0 n k 0 l ∙ from_zero k) (h k 0 (omega arith) (rw (length-range_with_len 0 n) l))))
  all_by_cases n false h =
      let l : h.0 < n = subst (λ (j : ℕ). h.0 < j) (length-range_with_len 0 n) h.1 in
      sym (all_no h.0 n l (subst (λ (j : ℕ). f j ≡ false) (get_or-range_with_len 0 n h.0 0 l ∙ from_zero h.0) (h.2 0)))

  -- where not every number has f, one lacks it
  pub all_miss : (n : ℕ) → all_to n f ≡ false → (k : ℕ) × (k < n) × (f k ≡ false)
  unfolding all_to
  all_miss zero h = absurd (subst T h tt)
  all_miss (suc n) h = go (all_to n f) (f n) (all_miss n) refl refl h
    where
      up : (k : ℕ) × (k < n) × (f k ≡ false) → (k : ℕ) × (k < suc n) × (f k ≡ false)
      up m = (m.0, (let l = m.1 in omega arith), m.2)

      go : (s t : Bool) → (all_to n f ≡ false → (k : ℕ) × (k < n) × (f k ≡ false)) → all_to n f ≡ s → f n ≡ t → cond s t false ≡ false → (k : ℕ) × (k < suc n) × (f k ≡ false)
      go true true r p q e = absurd (subst T e tt)
      go true false r p q e = (n, le_refl (suc n), q)
      go false t r p q e = up (r p)

  -- ---- the first number that has f
  pub first_past : (n : ℕ) → ((k : ℕ) → k < n → f k ≡ false) → first_to n f ≡ n
  unfolding first_to first_so_far
  first_past zero h = refl
  first_past (suc n) h =
      ap (first_so_far f n) (first_past n (λ k l. h k (omega arith)))
      ∙ simp (le-ltb n n (le_refl n), h n (le_refl (suc n)))

  pub first_at : (n i : ℕ) → i < n → ((k : ℕ) → k < i → f k ≡ false) → f i ≡ true → first_to n f ≡ i
  unfolding first_to first_so_far
  first_at zero i l h e = absurd (not-suc-le-zero l)
  first_at (suc n) i l h e =
      ⊎_elim
      (λ q. subst (λ (j : ℕ). first_to (suc n) f ≡ j) (sym q) (here (subst (λ (j : ℕ). (k : ℕ) → k < j → f k ≡ false) q h) (subst (λ (j : ℕ). f j ≡ true) q e)))
      (λ l'. ap (first_so_far f n) (first_at n i l' h e) ∙ simp (lt-ltb i n l'))
      (eq-or-lt_of_le (le_of_suc-le-suc l))
    where
      here : ((k : ℕ) → k < n → f k ≡ false) → f n ≡ true → first_to (suc n) f ≡ n
      here g t = ap (first_so_far f n) (first_past n g) ∙ simp (le-ltb n n (le_refl n), t)

  -- the two ends of a loop that looks for it
  pub first_here : (n i : ℕ) → i < n → ((k : ℕ) → k < i → f k ≡ false) → f i ≡ true → i ≡ first_to n f
  first_here n i l h e = sym (first_at n i l h e)

  pub first_none : (n i : ℕ) → i ≡ n → ((k : ℕ) → k < i → f k ≡ false) → i ≡ first_to n f
  first_none n i e h = e ∙ sym (first_past n (subst (λ (j : ℕ). (k : ℕ) → k < j → f k ≡ false) e h))

-- ---- the first of those below n that have f, or none
pub data Seek (f : ℕ → Bool) (n : ℕ) : Type 0 where
  found : (i : ℕ) → i < n → ((k : ℕ) → k < i → f k ≡ false) → f i ≡ true → Seek f n
  nowhere : ((k : ℕ) → k < n → f k ≡ false) → Seek f n

pub seek : (f : ℕ → Bool) (n : ℕ) → Seek f n
seek f zero = nowhere (λ k l. absurd (not-suc-le-zero l))
seek f (suc n) = go (seek f n) (f n) refl
  where
    go : Seek f n → (t : Bool) → f n ≡ t → Seek f (suc n)
    go (found i l h e) t q = found i (omega arith) h e
    go (nowhere h) true q = found n (le_refl (suc n)) h q
    go (nowhere h) false q = nowhere (λ k l. ⊎_elim (λ e. subst (λ (j : ℕ). f j ≡ false) (sym e) q) (λ m. h k m) (eq-or-lt_of_le (le_of_suc-le-suc l)))
