-- Laws of sets. A set whose words fit is the set of its members, so that two sets with the same members are one, and what the machine
-- does to the words is an equation between sets. Assumes nothing.
use mathlib.Core.Path.{◌≡◌, refl, sym, ap, ap₂, ◌∙◌, subst}
use mathlib.Core.Logic.{◌⊎◌, inl, inr, ⊎_elim}
use mathlib.Core.Bool.{Bool, true, false, not, cond}
use Prim.Native.Nat.{ℕ, ◌+◌, ◌*◌, ◌-◌, ◌%◌, ◌^◌, ◌≤◌, ◌<◌}
use native.Mathlib.Omega.{arith}
use borrow.Author.Tests.{lt-ltb, le-ltb, eq-eqb, ne_eqb}
use lib.Bits.{bit_and, bit_or}
use lib.Count.{count_trailing_zeros, trailing_of_zero}
use lib.Dec.{eqb}
use lib.Pow.{shl_exact}
use Rattle.plane.specs.Numbers.{all_to, first_to}
use Rattle.plane.proofs.Laws.Numbers.{all_no, first_here, first_none}
use Rattle.plane.proofs.Laws.Tells.{cond_yes, cond_no}
use Rattle.sets.specs.declared.Set.{Set}
use Rattle.sets.specs.Sets.{word, set_of, in_word, has, lacks, none, both, either, including, without}
use Rattle.sets.proofs.Laws.Numbers.{split, true_false, first_found, all_true, all_same}
use Rattle.sets.proofs.Laws.Words.{one, word_lt, word_same, word_self, word_at, word_and, word_or, word_not, word_one, word_less, word_off, zero_word, without_off}
use Rattle.sets.proofs.Laws.Lowest.{Lowest, lowest, dropped}

pub record Fits (s : Set) : Type 0 where
  pub low_fits : s.low < 2 ^ 64
  pub high_fits : s.high < 2 ^ 64

pub set_words : {s t : Set} → s.low ≡ t.low → s.high ≡ t.high → s ≡ t
set_words e f = λ i. record { low = e i; high = f i }

pub set_fits : (f : ℕ → Bool) → Fits (set_of f)
unfolding set_of
set_fits f = record { low_fits = word_lt f 0 64; high_fits = word_lt f 64 64 }

-- ---- members
pub has_low : (s : Set) (i : ℕ) → i < 64 → has s i ≡ in_word s.low 0 i
unfolding has
has_low s i h = cond_yes _ _ (lt-ltb i 64 h)

pub has_high : (s : Set) (i : ℕ) → 64 ≤ i → has s i ≡ in_word s.high 64 i
unfolding has
has_high s i h = cond_no _ _ (le-ltb i 64 h)

-- the members of the set of f are the numbers below 128 that have f
pub has-set : (f : ℕ → Bool) (i : ℕ) → i < 128 → has (set_of f) i ≡ f i
unfolding set_of
has-set f i h =
    ⊎_elim
    (λ l. has_high (set_of f) i l ∙ word_at f 64 64 i l (omega arith))
    (λ l. has_low (set_of f) i l ∙ word_at f 0 64 i (omega arith) (omega arith))
    (split 64 i)

module _ (s : Set) (h : Fits s) where
  pub low_word : s.low ≡ word (has s) 0 64
  low_word = word_self s.low 0 64 h.low_fits ∙ word_same (in_word s.low 0) (has s) 0 64 (λ i a b. sym (has_low s i (omega arith)))

  pub high_word : s.high ≡ word (has s) 64 64
  high_word = word_self s.high 64 64 h.high_fits ∙ word_same (in_word s.high 64) (has s) 64 64 (λ i a b. sym (has_high s i a))

  -- a set is the set of its members
  pub set_has : s ≡ set_of (has s)
  unfolding set_of
  set_has = set_words low_word high_word

pub set_same : (f g : ℕ → Bool) → ((i : ℕ) → i < 128 → f i ≡ g i) → set_of f ≡ set_of g
unfolding set_of
set_same f g h = set_words (word_same f g 0 64 (λ i a b. h i (omega arith))) (word_same f g 64 64 (λ i a b. h i (omega arith)))

-- two sets with the same members are one
pub set_eq : (s t : Set) → Fits s → Fits t → ((i : ℕ) → i < 128 → has s i ≡ has t i) → s ≡ t
set_eq s t h k e = set_has s h ∙ set_same (has s) (has t) e ∙ sym (set_has t k)

-- ---- both, either
pub both-set : (s t : Set) → Fits s → Fits t → record { low = bit_and s.low t.low; high = bit_and s.high t.high } ≡ set_of (both (has s) (has t))
unfolding set_of
both-set s t h k =
    set_words
    (ap₂ bit_and (low_word s h) (low_word t k) ∙ word_and (has s) (has t) 0 64)
    (ap₂ bit_and (high_word s h) (high_word t k) ∙ word_and (has s) (has t) 64 64)

pub either-set : (s t : Set) → Fits s → Fits t → record { low = bit_or s.low t.low; high = bit_or s.high t.high } ≡ set_of (either (has s) (has t))
unfolding set_of
either-set s t h k =
    set_words
    (ap₂ bit_or (low_word s h) (low_word t k) ∙ word_or (has s) (has t) 0 64)
    (ap₂ bit_or (high_word s h) (high_word t k) ∙ word_or (has s) (has t) 64 64)

-- of sets that are given by their members
pub both_sets : (f g : ℕ → Bool) → set_of (both (has (set_of f)) (has (set_of g))) ≡ set_of (both f g)
unfolding both
both_sets f g = set_same (both (has (set_of f)) (has (set_of g))) (both f g) (λ i l. ap₂ (λ (a b : Bool). cond a b false) (has-set f i l) (has-set g i l))

pub either_sets : (f g : ℕ → Bool) → set_of (either (has (set_of f)) (has (set_of g))) ≡ set_of (either f g)
unfolding either
either_sets f g = set_same (either (has (set_of f)) (has (set_of g))) (either f g) (λ i l. ap₂ (λ (a b : Bool). cond a true b) (has-set f i l) (has-set g i l))

-- ---- one more, one less
module _ (f : ℕ → Bool) (k i : ℕ) where
  pub including_at : i ≡ k → including f k i ≡ true
  unfolding including
  including_at e = cond_yes _ _ (eq-eqb i k e)

  pub including_off : (i ≡ k → ⊥) → including f k i ≡ f i
  unfolding including
  including_off d = cond_no _ _ (ne_eqb i k d)

  or_one : either f (one k) i ≡ including f k i
  unfolding either including
  or_one = go (f i) (eqb i k)
    where
      go : (a b : Bool) → cond a true b ≡ cond b true a
      go true true = refl
      go true false = refl
      go false true = refl
      go false false = refl

  and_others : both f (lacks (one k)) i ≡ without f k i
  unfolding both lacks without
  and_others = go (f i) (eqb i k)
    where
      go : (a b : Bool) → cond a (not b) false ≡ cond b false a
      go true true = refl
      go true false = refl
      go false true = refl
      go false false = refl

-- one half of a set: the digits of the numbers from x to x + 63, of which k is one
module _ (f : ℕ → Bool) (k x w b : ℕ) (e : w ≡ word f x 64) (l : x ≤ k) (u : k < x + 64) (p : b ≡ 2 ^ (k - x)) where
  digit : b ≡ word (one k) x 64
  digit = p ∙ sym (word_one k x 64 l u)

  pub half_more : bit_or w b ≡ word (including f k) x 64
  half_more = ap₂ bit_or e digit ∙ word_or f (one k) x 64 ∙ word_same (either f (one k)) (including f k) x 64 (λ i _ _. or_one f k i)

  pub half_less : bit_and w (2 ^ 64 - 1 - b) ≡ word (without f k) x 64
  half_less =
      ap₂ bit_and e (ap (λ (y : ℕ). 2 ^ 64 - 1 - y) digit ∙ sym (word_not (one k) x 64)) ∙ word_and f (lacks (one k)) x 64
      ∙ word_same (both f (lacks (one k))) (without f k) x 64 (λ i _ _. and_others f k i)

-- the other half
module _ (f : ℕ → Bool) (k x w : ℕ) (e : w ≡ word f x 64) (o : (k < x) ⊎ (x + 64 ≤ k)) where
  apart : (i : ℕ) → x ≤ i → i < x + 64 → i ≡ k → ⊥
  apart i a b q = ⊎_elim (λ l. omega arith) (λ l. omega arith) o

  pub half_kept_more : w ≡ word (including f k) x 64
  half_kept_more = e ∙ word_same f (including f k) x 64 (λ i a b. sym (including_off f k i (apart i a b)))

  pub half_kept_less : w ≡ word (without f k) x 64
  half_kept_less = e ∙ word_same f (without f k) x 64 (λ i a b. sym (without_off f k i (apart i a b)))

-- a digit shifted up by less than 64
shifted : (k x : ℕ) → k < 64 → k ≡ x → 1 * 2 ^ k % 2 ^ 64 ≡ 2 ^ x
shifted k x l e = let p : 1 * 2 ^ k ≡ 2 ^ k = omega arith in shl_exact 1 k 64 (omega arith) (omega arith) ∙ p ∙ ap (λ (n : ℕ). 2 ^ n) e

module _ (s : Set) (k : ℕ) (h : Fits s) where
  pub add_low : k < 64 → record { low = bit_or s.low (1 * 2 ^ k % 2 ^ 64); high = s.high } ≡ set_of (including (has s) k)
  unfolding set_of
  add_low l =
      set_words
      (half_more (has s) k 0 s.low (1 * 2 ^ k % 2 ^ 64) (low_word s h) (omega arith) (omega arith) (shifted k (k - 0) l (omega arith)))
      (half_kept_more (has s) k 64 s.high (high_word s h) (inl (omega arith)))

  pub add_high : 64 ≤ k → k < 128 → record { low = s.low; high = bit_or s.high (1 * 2 ^ (k - 64) % 2 ^ 64) } ≡ set_of (including (has s) k)
  unfolding set_of
  add_high l u =
      set_words
      (half_kept_more (has s) k 0 s.low (low_word s h) (inr (omega arith)))
      (half_more (has s) k 64 s.high (1 * 2 ^ (k - 64) % 2 ^ 64) (high_word s h) l (omega arith) (shifted (k - 64) (k - 64) (omega arith) refl))

  pub remove_low : k < 64 → record { low = bit_and s.low (2 ^ 64 - 1 - 1 * 2 ^ k % 2 ^ 64); high = s.high } ≡ set_of (without (has s) k)
  unfolding set_of
  remove_low l =
      set_words
      (half_less (has s) k 0 s.low (1 * 2 ^ k % 2 ^ 64) (low_word s h) (omega arith) (omega arith) (shifted k (k - 0) l (omega arith)))
      (half_kept_less (has s) k 64 s.high (high_word s h) (inl (omega arith)))

  pub remove_high : 64 ≤ k → k < 128 → record { low = s.low; high = bit_and s.high (2 ^ 64 - 1 - 1 * 2 ^ (k - 64) % 2 ^ 64) } ≡ set_of (without (has s) k)
  unfolding set_of
  remove_high l u =
      set_words
      (half_kept_less (has s) k 0 s.low (low_word s h) (inr (omega arith)))
      (half_less (has s) k 64 s.high (1 * 2 ^ (k - 64) % 2 ^ 64) (high_word s h) l (omega arith) (shifted (k - 64) (k - 64) (omega arith) refl))

-- ---- the first, and the rest
module _ (s : Set) (h : Fits s) where
  low_lowest : (s.low ≡ 0 → ⊥) → Lowest (has s) 0 64 (count_trailing_zeros 64 s.low)
  low_lowest n =
      let e = low_word s h in
      subst (λ (x : ℕ). Lowest (has s) 0 64 (count_trailing_zeros 64 x)) (sym e) (lowest (has s) 64 0 64 (omega arith) (λ z. n (e ∙ z)))

  high_lowest : (s.high ≡ 0 → ⊥) → Lowest (has s) 64 64 (count_trailing_zeros 64 s.high)
  high_lowest n =
      let e = high_word s h in
      subst (λ (x : ℕ). Lowest (has s) 64 64 (count_trailing_zeros 64 x)) (sym e) (lowest (has s) 64 64 64 (omega arith) (λ z. n (e ∙ z)))

  low_none : s.low ≡ 0 → (i : ℕ) → i < 64 → has s i ≡ false
  low_none z i l = zero_word (has s) 0 64 i (sym (low_word s h) ∙ z) (omega arith) (omega arith)

  high_none : s.high ≡ 0 → (i : ℕ) → 64 ≤ i → i < 128 → has s i ≡ false
  high_none z i a l = zero_word (has s) 64 64 i (sym (high_word s h) ∙ z) a (omega arith)

  pub first_low : (s.low ≡ 0 → ⊥) → count_trailing_zeros 64 s.low ≡ first_to 128 (has s)
  first_low n =
      let l = low_lowest n in
      let b = l.within in
      let z : 0 + count_trailing_zeros 64 s.low ≡ count_trailing_zeros 64 s.low = omega arith in
      first_here (has s) 128 (count_trailing_zeros 64 s.low) (omega arith) (λ i u. l.before i (omega arith) (omega arith)) (ap (has s) (sym z) ∙ l.there)

  pub first_high : s.low ≡ 0 → 64 + count_trailing_zeros 64 s.high ≡ first_to 128 (has s)
  first_high z = ⊎_elim (λ e. last (omega arith)) (λ p. some (λ e. omega arith)) (split s.high 0)
    where
      last : s.high ≡ 0 → 64 + count_trailing_zeros 64 s.high ≡ first_to 128 (has s)
      last e =
          let t : count_trailing_zeros 64 s.high ≡ 64 = ap (count_trailing_zeros 64) e ∙ trailing_of_zero 64 in
          first_none (has s) 128 (64 + count_trailing_zeros 64 s.high) (omega arith)
          (λ i u. ⊎_elim (λ l. high_none e i l (omega arith)) (λ l. low_none z i l) (split 64 i))

      some : (s.high ≡ 0 → ⊥) → 64 + count_trailing_zeros 64 s.high ≡ first_to 128 (has s)
      some n =
          let l = high_lowest n in
          let b = l.within in
          first_here (has s) 128 (64 + count_trailing_zeros 64 s.high) (omega arith)
          (λ i u. ⊎_elim (λ c. l.before i c u) (λ c. low_none z i c) (split 64 i)) l.there

  -- the set without its first
  pub rest_low : (k : ℕ) → (s.low ≡ 0 → ⊥) → k ≡ first_to 128 (has s) → record { low = bit_and s.low (s.low - 1); high = s.high } ≡ set_of (without (has s) k)
  unfolding set_of
  rest_low k n e =
      let t : 0 + count_trailing_zeros 64 s.low ≡ k = (let q = first_low n in omega arith) in
      let b = (low_lowest n).within in
      set_words
      (ap (λ (x : ℕ). bit_and x (x - 1)) (low_word s h)
      ∙ dropped (has s) (count_trailing_zeros 64 s.low) 0 64 (low_lowest n)
      ∙ ap (λ (x : ℕ). word (without (has s) x) 0 64) t)
      (half_kept_less (has s) k 64 s.high (high_word s h) (inl (omega arith)))

  pub high_some : (k : ℕ) → s.low ≡ 0 → k ≡ first_to 128 (has s) → k < 128 → s.high ≡ 0 → ⊥
  high_some k z e l y =
      true_false ((first_found (has s) 128 k e).there l) (⊎_elim (λ c. high_none y k c l) (λ c. low_none z k c) (split 64 k))

  pub rest_high : (k : ℕ) → s.low ≡ 0 → k ≡ first_to 128 (has s) → k < 128 → record { low = s.low; high = bit_and s.high (s.high - 1) } ≡ set_of (without (has s) k)
  unfolding set_of
  rest_high k z e l =
      let n = high_some k z e l in
      let t : 64 + count_trailing_zeros 64 s.high ≡ k = (let q = first_high z in omega arith) in
      set_words
      (half_kept_less (has s) k 0 s.low (low_word s h) (inr (omega arith)))
      (ap (λ (x : ℕ). bit_and x (x - 1)) (high_word s h)
      ∙ dropped (has s) (count_trailing_zeros 64 s.high) 64 64 (high_lowest n)
      ∙ ap (λ (x : ℕ). word (without (has s) x) 64 64) t)

  -- ---- emptiness
  pub none_low : (s.low ≡ 0 → ⊥) → false ≡ none s
  unfolding none lacks
  none_low n =
      let l = low_lowest n in
      let b = l.within in
      sym (all_no (lacks (has s)) (0 + count_trailing_zeros 64 s.low) 128 (omega arith) (ap not l.there))

  pub none_high : s.low ≡ 0 → eqb s.high 0 ≡ none s
  unfolding none lacks
  none_high z = ⊎_elim (λ e. empty (omega arith)) (λ p. some (λ e. omega arith)) (split s.high 0)
    where
      empty : s.high ≡ 0 → eqb s.high 0 ≡ none s
      empty e =
          eq-eqb s.high 0 e
          ∙ sym (all_true (lacks (has s)) 128 (λ i l. ap not (⊎_elim (λ c. high_none e i c l) (λ c. low_none z i c) (split 64 i))))

      some : (s.high ≡ 0 → ⊥) → eqb s.high 0 ≡ none s
      some n =
          let l = high_lowest n in
          let b = l.within in
          ne_eqb s.high 0 n ∙ sym (all_no (lacks (has s)) (64 + count_trailing_zeros 64 s.high) 128 (omega arith) (ap not l.there))

pub none-set : (f : ℕ → Bool) → none (set_of f) ≡ all_to 128 (lacks f)
unfolding none lacks
none-set f = all_same (lacks (has (set_of f))) (lacks f) 128 (λ i l. ap not (has-set f i l))

-- ---- a measure: a set that has lost a member is smaller
abbrev pub size : Set → ℕ
size s = s.low + s.high

pub without_less : (f : ℕ → Bool) (k : ℕ) → k < 128 → f k ≡ true → size (set_of (without f k)) < size (set_of f)
unfolding set_of
without_less f k l t =
    ⊎_elim
    (λ c. let a = word_off f k 0 64 (inr (omega arith)) in let b = word_less f k 64 64 c (omega arith) t in omega arith)
    (λ c. let a = word_less f k 0 64 (omega arith) (omega arith) t in let b = word_off f k 64 64 (inl (omega arith)) in omega arith)
    (split 64 k)

-- so is the rest of a set
pub rest_less : (s r : Set) (k : ℕ) → Fits s → k ≡ first_to 128 (has s) → k < 128 → r ≡ set_of (without (has s) k) → size r < size s
rest_less s r k h e l q =
    let a = without_less (has s) k l ((first_found (has s) 128 k e).there l) in
    let b : size r ≡ size (set_of (without (has s) k)) = ap (λ (x : Set). x.low + x.high) q in
    let d : size s ≡ size (set_of (has s)) = ap (λ (x : Set). x.low + x.high) (set_has s h) in
    omega arith
