-- Laws of pair numbers. A pair's number is below the number of pairs; two pairs with one number are the same pair, since `pair_at` gives
-- the pair back; every number below the number of pairs is some pair's; the pairs left of a list are the first of them and those after it.
-- Assumes nothing.
use mathlib.Core.Path.{◌≡◌, refl, sym, ap, ◌∙◌, subst}
use mathlib.Core.Logic.{⊎_elim}
use mathlib.Core.List.{[], ◌∷◌}
use Prim.Native.Nat.{ℕ, zero, suc, ◌+◌, ◌*◌, ◌-◌, ◌≤◌, ◌<◌, min, max}
use native.Mathlib.Nat.{not-suc-le-zero, suc-mul, mul-suc, mul-le-mul_right, eq-or-lt_of_le, le_of_suc-le-suc}
use native.Mathlib.Decide.{dec_lt}
use lib.ListN.{length, get_or}
use native.Mathlib.Omega.{arith}
use borrow.Author.Tests.{lt-ltb, le-ltb}
use Rattle.pairs.specs.declared.Pair.{Pair}
use Rattle.pairs.specs.Pairs.{pair_count, pair_number, pair_of, next_pair, pair_at, pairs_from, pairs_left}
use Rattle.plane.proofs.Laws.Tells.{cond_yes, cond_no}

abbrev pair : ℕ → ℕ → Pair
pair a b = record { a = a; b = b }

-- ---- the number of pairs, for one mark more
count_step : (n : ℕ) → suc n * (suc n - 1) ≡ n * (n - 1) + 2 * n
count_step zero = refl
count_step (suc c) =
    let e : suc (suc c) - 1 ≡ suc c = omega arith in
    let d : suc c - 1 ≡ c = omega arith in
    rw (e, d) (omega (arith, suc-mul (suc c) (suc c), suc-mul c (suc c), mul-suc c c, suc-mul c c))

pub pair_count_suc : (n : ℕ) → pair_count (suc n) ≡ pair_count n + n
pair_count_suc n = omega (arith, count_step n)

pub pair_count_up : (m n : ℕ) → m ≤ n → pair_count m ≤ pair_count n
pair_count_up m zero h = let e : m ≡ 0 = omega arith in subst (λ (k : ℕ). pair_count k ≤ 0) (sym e) (omega arith)
pair_count_up m (suc n) h = go (pair_count_up m n) (dec_lt m (suc n))
  where
    go : (m ≤ n → pair_count m ≤ pair_count n) → Dec (m < suc n) → pair_count m ≤ pair_count (suc n)
    go up (yes l) = omega (arith, up (le_of_suc-le-suc l), pair_count_suc n)
    go up (no d) = let e : m ≡ suc n = omega arith in subst (λ (k : ℕ). pair_count k ≤ pair_count (suc n)) (sym e) (omega arith)

-- n (n - 1) for n up to 128, so that nothing overflows
pub square_small : (n : ℕ) → n ≤ 128 → n * (n - 1) ≤ 16256
square_small n h = omega (arith, mul-le-mul_right (n - 1) h)

pub pair_count_small : (n : ℕ) → n ≤ 128 → pair_count n ≤ 8128
pair_count_small n h = omega (arith, square_small n h)

-- ---- a pair's number is below the number of pairs
pub pair_below : (a b n : ℕ) → a < b → b < n → pair_number a b < pair_count n
pair_below a b n h l = omega (arith, pair_count_suc b, pair_count_up (suc b) n l)

-- ---- the pair with a given number
-- a < b, and the number of (a, b) is i
pub record Numbered (i : ℕ) (p : Pair) : Type 0 where
  pub up : p.a < p.b
  pub number : pair_number p.a p.b ≡ i

pub next_along : (p : Pair) → p.a + 1 < p.b → next_pair p ≡ pair (p.a + 1) p.b
unfolding next_pair
next_along p h = cond_yes _ _ (lt-ltb (p.a + 1) p.b h)

pub next_turn : (p : Pair) → p.b ≤ p.a + 1 → next_pair p ≡ pair 0 (p.b + 1)
unfolding next_pair
next_turn p h = cond_no _ _ (le-ltb (p.a + 1) p.b h)

pub next_numbered : (i : ℕ) (p : Pair) → Numbered i p → Numbered (suc i) (next_pair p)
next_numbered i p n = go (dec_lt (p.a + 1) p.b)
  where
    go : Dec (p.a + 1 < p.b) → Numbered (suc i) (next_pair p)
    go (yes l) = subst (Numbered (suc i)) (sym (next_along p l)) (record { up = l; number = let e = n.number in omega arith })
    go (no d) =
        let u = n.up in
        let e : p.b ≡ p.a + 1 = omega arith in
        subst (Numbered (suc i)) (sym (next_turn p (omega arith)))
        (record { up = omega arith; number = turned p.a p.b e n.number })
      where
        turned : (a b : ℕ) → b ≡ a + 1 → pair_number a b ≡ i → pair_number 0 (b + 1) ≡ suc i
        turned a b e f = let s = pair_count_suc b in let q : (b + 1) * (b + 1 - 1) ≡ suc b * (suc b - 1) = ap (λ (k : ℕ). k * (k - 1)) (let z : b + 1 ≡ suc b = omega arith in z) in omega arith

pub pair_at_numbered : (i : ℕ) → Numbered i (pair_at i)
unfolding pair_at
pair_at_numbered zero = record { up = omega arith; number = refl }
pair_at_numbered (suc i) = next_numbered i (pair_at i) (pair_at_numbered i)

-- two pairs with one number are the same pair
pub pair_unique : (a b c d : ℕ) → a < b → c < d → pair_number a b ≡ pair_number c d → (a ≡ c) × (b ≡ d)
pair_unique a b c d h k e = go (dec_lt b d) (dec_lt d b)
  where
    same : b ≡ d → (a ≡ c) × (b ≡ d)
    same q = let f : pair_number a d ≡ pair_number c d = subst (λ (x : ℕ). pair_number a x ≡ pair_number c d) q e in (omega arith, q)

    go : Dec (b < d) → Dec (d < b) → (a ≡ c) × (b ≡ d)
    go (yes l) x = absurd (let s = pair_below a b d h l in let z : ⊥ = omega arith in z)
    go (no x) (yes l) = absurd (let s = pair_below c d b k l in let z : ⊥ = omega arith in z)
    go (no x) (no y) = same (omega arith)

pub pair_at_number : (a b : ℕ) → a < b → pair_at (pair_number a b) ≡ pair a b
pair_at_number a b h =
    let n = pair_at_numbered (pair_number a b) in
    let e = pair_unique (pair_at (pair_number a b)).a (pair_at (pair_number a b)).b a b n.up h n.number in
    λ i. record { a = e.0 i; b = e.1 i }

-- every number below the number of pairs is some pair's
pub pair_at_below : (n i : ℕ) → i < pair_count n → (pair_at i).b < n
pair_at_below n i l = go (dec_lt (pair_at i).b n)
  where
    go : Dec ((pair_at i).b < n) → (pair_at i).b < n
    go (yes h) = h
    go (no d) = let u = (pair_at_numbered i).number in let s = pair_count_up n (pair_at i).b (omega arith) in absurd (let z : ⊥ = omega arith in z)

-- ---- in whichever order they stand
pub pair_of_up : (p q : ℕ) → p < q → pair_of p q ≡ pair_number p q
unfolding pair_of
pair_of_up p q h = cond_yes _ _ (lt-ltb p q h)

pub pair_of_down : (p q : ℕ) → q ≤ p → pair_of p q ≡ pair_number q p
unfolding pair_of
pair_of_down p q h = cond_no _ _ (le-ltb p q h)

pub pair_of_ordered : (p q : ℕ) → pair_number (min p q) (max p q) ≡ pair_of p q
pair_of_ordered p q = go (dec_lt p q)
  where
    go : Dec (p < q) → pair_number (min p q) (max p q) ≡ pair_of p q
    go (yes h) =
        let lo : min p q ≡ p = omega arith in
        let hi : max p q ≡ q = omega arith in
        rw (lo, hi) (sym (pair_of_up p q h))
    go (no d) =
        let h : q ≤ p = omega arith in
        let lo : min p q ≡ q = omega arith in
        let hi : max p q ≡ p = omega arith in
        rw (lo, hi) (sym (pair_of_down p q h))

pub pair_of_swap : (p q : ℕ) → pair_of p q ≡ pair_of q p
pair_of_swap p q = go (dec_lt p q) (dec_lt q p)
  where
    go : Dec (p < q) → Dec (q < p) → pair_of p q ≡ pair_of q p
    go (yes h) x = pair_of_up p q h ∙ sym (pair_of_down q p (omega arith))
    go (no x) (yes h) = pair_of_down p q (omega arith) ∙ sym (pair_of_up q p h)
    go (no x) (no y) = let e : p ≡ q = omega arith in subst (λ (k : ℕ). pair_of p k ≡ pair_of k p) e refl

pub pair_of_below : (p q n : ℕ) → (p ≡ q → ⊥) → p < n → q < n → pair_of p q < pair_count n
pair_of_below p q n d h k = go (dec_lt p q)
  where
    go : Dec (p < q) → pair_of p q < pair_count n
    go (yes l) = rw (pair_of_up p q l) (pair_below p q n l k)
    go (no x) = rw (pair_of_down p q (omega arith)) (pair_below q p n (⊎_elim (λ e. absurd (d (sym e))) (λ l. l) (eq-or-lt_of_le (let z : q ≤ p = omega arith in z))) h)

-- ---- the pairs that are left
own_number : (p : Pair) → p.a < p.b → Numbered (pair_number p.a p.b) p
own_number p h = record { up = h; number = refl }

pub next_up : (p : Pair) → p.a < p.b → (next_pair p).a < (next_pair p).b
next_up p h = (next_numbered (pair_number p.a p.b) p (own_number p h)).up

pub left_more : (p : Pair) (n : ℕ) → p.a < p.b → p.b < n → pairs_left p n ≡ p ∷ pairs_left (next_pair p) n
unfolding pairs_from
left_more p n h l = rw (one_more, pair_at_number p.a p.b h, next, less) refl
  where
    i : ℕ
    i = pair_number p.a p.b

    less : pair_count n - (i + 1) ≡ pair_count n - suc i
    less = omega arith

    one_more : pair_count n - i ≡ suc (pair_count n - suc i)
    one_more = let b = pair_below p.a p.b n h l in omega arith

    next : pair_number (next_pair p).a (next_pair p).b ≡ i + 1
    next = let e = (next_numbered i p (own_number p h)).number in omega arith

pub left_none : (p : Pair) (n : ℕ) → p.a < p.b → n ≤ p.b → pairs_left p n ≡ []
unfolding pairs_from
left_none p n h l =
    let u = pair_count_up n p.b l in
    let e : pair_count n - pair_number p.a p.b ≡ 0 = omega arith in
    rw e refl

-- ---- the list of all pairs: as many as there are, each at its number
pub pairs_from_length : (i k : ℕ) → length (pairs_from i k) ≡ k
unfolding pairs_from
pairs_from_length i zero = refl
pairs_from_length i (suc k) = ap suc (pairs_from_length (i + 1) k)

pub pairs_from_at : (i k j : ℕ) (d : Pair) → j < k → get_or (pairs_from i k) j d ≡ pair_at (i + j)
unfolding pairs_from
pairs_from_at i zero j d h = absurd (not-suc-le-zero h)
pairs_from_at i (suc k) zero d h = let e : i ≡ i + 0 = omega arith in ap pair_at e
pairs_from_at i (suc k) (suc j) d h =
    let e : i + 1 + j ≡ i + suc j = omega arith in
    pairs_from_at (i + 1) k j d (le_of_suc-le-suc h) ∙ ap pair_at e
