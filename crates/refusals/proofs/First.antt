-- The first number below n that passes a test, and whether one does, as the library's `position`, `find` and `any` tell it. Assumes nothing.
use mathlib.Core.Path.{◌≡◌, refl, sym, ◌∙◌, ap, subst}
use mathlib.Core.Bool.{Bool, true, false, not, cond}
use mathlib.Core.List.{List}
use Prim.Native.Nat.{ℕ, ◌≤◌, ◌<◌}
use native.Mathlib.Nat.{le_refl}
use native.Mathlib.Omega.{arith}
use borrow.Author.Tests.{lt-ltb, le-ltb, ltb-true, ltb-false}
use lib.Dec.{ltb}
use lib.ListN.{length, get_or}
use Rattle.std.specs.Prelude.{Option, Some, None}
use Rattle.std.specs.Bool.{MatchBool}
use Rattle.std.specs.Option.{MatchOption}
use Rattle.std.specs.List.{AllWithin, HoldsAt, range_with_len}
use Rattle.std.proofs.lemmas.Option.{none-some, cond_some}
use Rattle.std.proofs.lemmas.List.FromFn.{length-range_with_len, get_or-range_with_len}
use Rattle.plane.specs.Numbers.{all_to, first_to}
use Rattle.plane.proofs.Laws.Tells.{cond_yes, cond_no}
use Rattle.plane.proofs.Laws.Numbers.{first_at, first_past, all_no, all_miss}
use Rattle.refusals.specs.Check.{found}

-- ---- what has been found
pub found_some : {k n i : ℕ} → Some i ≡ found k n → (i ≡ k) × (k < n)
unfolding found
found_some {k} {n} {i} e = let h = cond_some (ltb k n) k i (sym e) in (sym h.1, ltb-true k n h.0)

pub found_past : {k n : ℕ} → None ≡ found k n → n ≤ k
unfolding found
found_past {k} {n} e = go (ltb k n) refl e
  where
    go : (b : Bool) → ltb k n ≡ b → ◌≡◌ {A = Option ℕ} None (cond b (Some k) None) → n ≤ k
    go true q h = absurd (none-some k h)
    go false q h = ltb-false k n q

module _ (f : ℕ → Bool) (n : ℕ) where
  found_at : (i : ℕ) → i < n → f i ≡ true → ((k : ℕ) → k < i → f k ≡ false) → Some i ≡ found (first_to n f) n
  unfolding found
  found_at i l t h = let q = first_at f n i l h t in sym (cond_yes _ _ (lt-ltb _ _ (subst (λ (k : ℕ). k < n) (sym q) l)) ∙ ap Some q)

  found_none : ((k : ℕ) → k < n → f k ≡ false) → None ≡ found (first_to n f) n
  unfolding found
  found_none h = sym (cond_no _ _ (le-ltb _ _ (subst (λ (k : ℕ). n ≤ k) (sym (first_past f n h)) (le_refl n))))

  -- ---- `find` over the numbers below n
  pub first_found :
      (r : Option ℕ) →
      MatchOption r ((k : ℕ) → 0 ≤ k → k < n → f k ≡ false)
      (λ i. (0 ≤ i) × (i < n) × (f i ≡ true) × ((k : ℕ) → 0 ≤ k → k < i → f k ≡ false)) →
      r ≡ found (first_to n f) n
  first_found None h = found_none (λ k l. h k (omega arith) l)
  first_found (Some i) h = found_at i h.1 h.2 (λ k l. h.3 k (omega arith) l)

  -- ---- `any` over the numbers below n
  range_at : (k : ℕ) → k < n → get_or (range_with_len 0 n) k 0 ≡ k
  range_at k l = get_or-range_with_len 0 n k 0 l ∙ (omega arith)

  pub some_passes :
      (r : Bool) →
      MatchBool r ((k : ℕ) × (k < length (range_with_len 0 n)) × HoldsAt (λ i. f i ≡ false) (range_with_len 0 n) k)
      (AllWithin (λ i. f i ≡ true) (range_with_len 0 n) 0 (length (range_with_len 0 n))) →
      r ≡ not (all_to n f)
  some_passes true h =
      let l = h.1 in
      let k : h.0 < n = omega (arith, length-range_with_len 0 n) in
      sym (ap not (all_no f h.0 n k (subst (λ (i : ℕ). f i ≡ false) (range_at h.0 k) (h.2 0))))
  some_passes false h = go (all_to n f) refl
    where
      go : (b : Bool) → all_to n f ≡ b → false ≡ not b
      go true e = refl
      go false e =
          let x = all_miss f n e in
          let l = x.1 in
          let t : f x.0 ≡ true = subst (λ (i : ℕ). f i ≡ true) (range_at x.0 l) (h x.0 0 (omega arith) (omega (arith, length-range_with_len 0 n))) in
          sym (x.2) ∙ t

-- ---- `position` over a list
pub first_in :
    {X : Type 0} (p : X → Bool) (xs : List X) (d : X) (r : Option ℕ) →
    MatchOption r (AllWithin (λ x. p x ≡ false) xs 0 (length xs))
    (λ i. (i < length xs) × HoldsAt (λ x. p x ≡ true) xs i × AllWithin (λ x. p x ≡ false) xs 0 i) →
    r ≡ found (first_to (length xs) (λ k. p (get_or xs k d))) (length xs)
first_in p xs d None h = found_none _ _ (λ k l. h k d (omega arith) l)
first_in p xs d (Some i) h = found_at _ _ i h.0 (h.1 d) (λ k l. h.2 k d (omega arith) l)
