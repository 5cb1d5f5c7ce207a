-- Laws of the table. What is written for one ordered pair leaves the others, so that pair after pair in pair order fills the table; no
-- mark lies left of a line through one mark alone, so that nothing else is to be written. Assumes nothing.
use mathlib.Core.Path.{◌≡◌, refl, sym, ap, ap₂, ◌∙◌, subst}
use mathlib.Core.Logic.{◌⊎◌, inl, inr, ⊎_elim}
use mathlib.Core.Bool.{Bool, true, false, cond}
use mathlib.Core.List.{List}
use Prim.Native.Nat.{ℕ, ◌+◌, ◌/◌, ◌%◌, ◌≤◌, ◌<◌}
use native.Mathlib.Nat.{eq-or-lt_of_le}
use native.Mathlib.Omega.{arith}
use borrow.Author.Tests.{lt-ltb, le-ltb}
use lib.Dec.{ltb}
use lib.IntN.{ℤ}
use lib.ListN.{length, get_or, replicate, length-set, length-replicate, get_or-replicate}
use lib.Seq.{get_or-set_same, get_or-set_other, ext_get_or}
use Rattle.plane.specs.Marks.{count, mark}
use Rattle.plane.specs.Side.{left_of}
use Rattle.pairs.specs.Pairs.{pair_count, pair_number, pair_of}
use Rattle.plane.proofs.Laws.Tells.{tells_false, cond_yes, cond_no}
use Rattle.plane.proofs.Laws.Side.{left_of_tells, same}
use Rattle.pairs.proofs.Laws.{pair_unique, pair_of_up, pair_of_down, pair_of_below}
use Rattle.sets.specs.declared.Set.{Set}
use Rattle.sets.specs.Sets.{set_of}
use Rattle.sides.specs.Sides.{is_mark, left_mark, left_set}
use Rattle.masks.specs.Table.{place, entry, Table, Filled, empty_set, put_entry}
use Rattle.sets.proofs.Laws.Numbers.{split, and_no}
use Rattle.sets.proofs.Laws.Words.{word_empty}
use Rattle.sets.proofs.Laws.Sets.{set_words}
use Rattle.sides.proofs.Laws.{left_past_p, left_past_q}

-- ---- where no mark is left
pub empty-set : (f : ℕ → Bool) → ((i : ℕ) → f i ≡ false) → set_of f ≡ empty_set
unfolding set_of
empty-set f h = set_words (word_empty f 0 64 (λ i a b. h i)) (word_empty f 64 64 (λ i a b. h i))

module _ (m : List ℤ) (p q : ℕ) where
  pub left_none_p : count m ≤ p → left_set m p q ≡ empty_set
  unfolding left_set
  left_none_p h = empty-set (left_mark m p q) (λ i. left_past_p m p q i h)

  pub left_none_q : count m ≤ q → left_set m p q ≡ empty_set
  unfolding left_set
  left_none_q h = empty-set (left_mark m p q) (λ i. left_past_q m p q i h)

  pub left_none_same : p ≡ q → left_set m p q ≡ empty_set
  unfolding left_set left_mark
  left_none_same e = empty-set (left_mark m p q) at
    where
      off : (i : ℕ) → left_of (mark m p) (mark m q) (mark m i) ≡ false
      off i = ap (λ (x : ℕ). left_of (mark m p) (mark m x) (mark m i)) (sym e) ∙ tells_false left_of_tells (λ h. same h)

      at : (i : ℕ) → left_mark m p q i ≡ false
      at i =
          ap (λ (b : Bool). cond (is_mark m p) (cond (is_mark m q) (cond (is_mark m i) b false) false) false) (off i)
          ∙ ap (λ (b : Bool). cond (is_mark m p) (cond (is_mark m q) b false) false) (and_no (is_mark m i))
          ∙ ap (λ (b : Bool). cond (is_mark m p) b false) (and_no (is_mark m q)) ∙ and_no (is_mark m p)

-- ---- places
place_row : (a b p q : ℕ) → b < 128 → q < 128 → place a b ≡ place p q → a ≡ p
place_row a b p q hb hq e =
    ⊎_elim
    (λ h. ⊎_elim (λ d. d) (λ l. absurd (let z : ⊥ = omega arith in z)) (eq-or-lt_of_le h))
    (λ l. absurd (let z : ⊥ = omega arith in z))
    (split a p)

-- ---- one entry written
module _ (t : List Set) (p q : ℕ) (s : Set) where
  pub put_size : length (put_entry t p q s) ≡ length t
  put_size = length-set t (place p q) s

  pub put_here : length t ≡ 16384 → p < 128 → q < 128 → entry (put_entry t p q s) p q ≡ s
  unfolding entry
  put_here z hp hq = get_or-set_same t (place p q) s empty_set (omega arith)

  pub put_elsewhere : (a b : ℕ) → b < 128 → q < 128 → (a ≡ p → b ≡ q → ⊥) → entry (put_entry t p q s) a b ≡ entry t a b
  unfolding entry
  put_elsewhere a b hb hq d =
      get_or-set_other t (place p q) (place a b) s empty_set (λ e. let f = place_row a b p q hb hq e in d f (omega arith))

-- ---- the table is filled
pub fill_start : {m : List ℤ} (n : ℕ) → n ≡ 16384 → Filled m (replicate n empty_set) 0
unfolding entry
fill_start {m} n e =
    record {
      size = length-replicate n empty_set ∙ e;
      each = λ p q hp hq.
          get_or-replicate n (place p q) empty_set empty_set (omega arith) ∙ sym (cond_no _ _ (le-ltb (pair_of p q) 0 (omega arith)));
    }

-- another pair than (a, b): its number is before that of (a, b) exactly if it is not after
module _ (m : List ℤ) (a b p q : ℕ) (h : a < b) (d : p ≡ a → q ≡ b → ⊥) (d' : p ≡ b → q ≡ a → ⊥) where
  abbrev stored : Bool → Set
  stored t = cond t (left_set m p q) empty_set

  either_way : left_set m p q ≡ empty_set → (t u : Bool) → stored t ≡ stored u
  either_way e t u = one t ∙ sym (one u)
    where
      one : (t : Bool) → stored t ≡ empty_set
      one true = e
      one false = refl

  same_number : pair_of p q ≡ pair_number a b → left_set m p q ≡ empty_set
  same_number e = ⊎_elim (λ l. ⊎_elim (λ s. left_none_same m p q s) (λ u. absurd (up u)) (eq-or-lt_of_le l)) (λ u. absurd (down u)) (split p q)
    where
      up : p < q → ⊥
      up u = let f = pair_unique p q a b u h (sym (pair_of_up p q u) ∙ e) in d f.0 f.1

      down : q < p → ⊥
      down u = let f = pair_unique q p a b u h (sym (pair_of_down p q (omega arith)) ∙ e) in d' f.1 f.0

  pub next_same : stored (ltb (pair_of p q) (pair_number a b)) ≡ stored (ltb (pair_of p q) (pair_number a b + 1))
  next_same =
      ⊎_elim
      (λ l.
      ⊎_elim
      (λ e. either_way (same_number e) (ltb (pair_of p q) (pair_number a b)) (ltb (pair_of p q) (pair_number a b + 1)))
      (λ u. ap stored (lt-ltb (pair_of p q) (pair_number a b) u ∙ sym (lt-ltb (pair_of p q) (pair_number a b + 1) (omega arith))))
      (eq-or-lt_of_le l))
      (λ g. ap stored (le-ltb (pair_of p q) (pair_number a b) (omega arith) ∙ sym (le-ltb (pair_of p q) (pair_number a b + 1) (omega arith))))
      (split (pair_of p q) (pair_number a b))

-- a pair of numbers is (a, b), or is not
pub data Is (p q a b : ℕ) : Type 0 where
  here : p ≡ a → q ≡ b → Is p q a b
  off : (p ≡ a → q ≡ b → ⊥) → Is p q a b

is? : (p q a b : ℕ) → Is p q a b
is? p q a b = ⊎_elim (λ l. ⊎_elim (λ e. second e) (λ u. off (λ e f. omega arith)) (eq-or-lt_of_le l)) (λ u. off (λ e f. omega arith)) (split p a)
  where
    second : p ≡ a → Is p q a b
    second e = ⊎_elim (λ l. ⊎_elim (λ f. here e f) (λ u. off (λ e f. omega arith)) (eq-or-lt_of_le l)) (λ u. off (λ e f. omega arith)) (split q b)

-- one pair more, in both orders
pub fill_next :
    {m : List ℤ} {t : List Set} {s s' : Set} (a b : ℕ) → a < b → b < 128 → Filled m t (pair_number a b) → s ≡ left_set m a b → s' ≡ left_set m b a →
    Filled m (put_entry (put_entry t a b s) b a s') (pair_number a b + 1)
fill_next {m} {t} {s} {s'} a b h hb f e e' = record { size = put_size (put_entry t a b s) b a s' ∙ size₁; each = λ p q hp hq. at p q hp hq (is? p q a b) (is? p q b a) }
  where
    size₁ : length (put_entry t a b s) ≡ 16384
    size₁ = put_size t a b s ∙ f.size

    now_stored : (p q : ℕ) → pair_of p q ≡ pair_number a b → left_set m p q ≡ cond (ltb (pair_of p q) (pair_number a b + 1)) (left_set m p q) empty_set
    now_stored p q n = sym (cond_yes _ _ (lt-ltb (pair_of p q) (pair_number a b + 1) (omega arith)))

    at :
        (p q : ℕ) → p < 128 → q < 128 → Is p q a b → Is p q b a →
        entry (put_entry (put_entry t a b s) b a s') p q ≡ cond (ltb (pair_of p q) (pair_number a b + 1)) (left_set m p q) empty_set
    at p q hp hq (here x y) (here z w) = absurd (let v : ⊥ = omega arith in v)
    at p q hp hq (here x y) (off d) =
        put_elsewhere (put_entry t a b s) b a s' p q hq (omega arith) d
        ∙ ap₂ (λ (u v : ℕ). entry (put_entry t a b s) u v) x y ∙ put_here t a b s f.size (omega arith) hb ∙ e
        ∙ sym (ap₂ (left_set m) x y) ∙ now_stored p q (ap₂ pair_of x y ∙ pair_of_up a b h)
    at p q hp hq (off d) (here x y) =
        ap₂ (λ (u v : ℕ). entry (put_entry (put_entry t a b s) b a s') u v) x y ∙ put_here (put_entry t a b s) b a s' size₁ hb (omega arith) ∙ e'
        ∙ sym (ap₂ (left_set m) x y) ∙ now_stored p q (ap₂ pair_of x y ∙ pair_of_down b a (omega arith))
    at p q hp hq (off d) (off d') =
        put_elsewhere (put_entry t a b s) b a s' p q hq (omega arith) d' ∙ put_elsewhere t a b s p q hq hb d
        ∙ f.each p q hp hq ∙ next_same m a b p q h d d'

-- all pairs
pub fill_end : {m : List ℤ} {t : List Set} → Filled m t (pair_count (count m)) → Table m t
fill_end {m} {t} f = record { size = f.size; each = λ p q hp hq. f.each p q hp hq ∙ at p q (split p q) (split (count m) p) (split (count m) q) }
  where
    none : (p q : ℕ) → left_set m p q ≡ empty_set → cond (ltb (pair_of p q) (pair_count (count m))) (left_set m p q) empty_set ≡ left_set m p q
    none p q e = go (ltb (pair_of p q) (pair_count (count m)))
      where
        go : (b : Bool) → cond b (left_set m p q) empty_set ≡ left_set m p q
        go true = refl
        go false = sym e

    all : (p q : ℕ) → (p ≡ q → ⊥) → p < count m → q < count m → cond (ltb (pair_of p q) (pair_count (count m))) (left_set m p q) empty_set ≡ left_set m p q
    all p q d hp hq = cond_yes _ _ (lt-ltb (pair_of p q) (pair_count (count m)) (pair_of_below p q (count m) d hp hq))

    at :
        (p q : ℕ) → (p ≤ q) ⊎ (q < p) → (count m ≤ p) ⊎ (p < count m) → (count m ≤ q) ⊎ (q < count m) →
        cond (ltb (pair_of p q) (pair_count (count m))) (left_set m p q) empty_set ≡ left_set m p q
    at p q o (inl hp) y = none p q (left_none_p m p q hp)
    at p q o (inr hp) (inl hq) = none p q (left_none_q m p q hq)
    at p q (inl l) (inr hp) (inr hq) = ⊎_elim (λ e. none p q (left_none_same m p q e)) (λ u. all p q (λ e. omega arith) hp hq) (eq-or-lt_of_le l)
    at p q (inr u) (inr hp) (inr hq) = all p q (λ e. omega arith) hp hq

-- ---- the table is determined: a table is its entries
entries_unique :
    (t t' : List Set) → length t ≡ 16384 → length t' ≡ 16384 →
    ((p q : ℕ) → p < 128 → q < 128 → entry t p q ≡ entry t' p q) → t ≡ t'
unfolding entry
entries_unique t t' f g pair = ext_get_or empty_set t t' (f ∙ sym g) (λ i h. at i (omega (arith, f)))
  where
    at : (i : ℕ) → i < 16384 → get_or t i empty_set ≡ get_or t' i empty_set
    at i h =
        let e : place (i / 128) (i % 128) ≡ i = omega arith in
        subst (λ (k : ℕ). get_or t k empty_set ≡ get_or t' k empty_set) e (pair (i / 128) (i % 128) (omega arith) (omega arith))

pub table_unique : {m : List ℤ} {t t' : List Set} → Table m t → Table m t' → t ≡ t'
table_unique {m} {t} {t'} f g =
    entries_unique t t' f.size g.size (λ p q hp hq. f.each p q hp hq ∙ sym (g.each p q hp hq))

pub filled_unique : {m : List ℤ} {t t' : List Set} {i : ℕ} → Filled m t i → Filled m t' i → t ≡ t'
filled_unique {m} {t} {t'} f g =
    entries_unique t t' f.size g.size (λ p q hp hq. f.each p q hp hq ∙ sym (g.each p q hp hq))
