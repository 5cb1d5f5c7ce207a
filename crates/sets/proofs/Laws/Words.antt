-- Words as sets of numbers: a word below 2 ^ j is the word of its own digits, so that two words with the same digits are one; and what
-- `&`, `|`, sums and complements do to the digits. By induction on the number of digits, the lowest first. Assumes nothing.
use mathlib.Core.Path.{◌≡◌, refl, sym, ap, ap₂, ◌∙◌, subst}
use mathlib.Core.Logic.{◌⊎◌, ⊎_elim}
use mathlib.Core.Bool.{Bool, true, false, not, cond}
use Prim.Native.Nat.{ℕ, zero, suc, ◌+◌, ◌*◌, ◌-◌, ◌/◌, ◌%◌, ◌^◌, ◌≤◌, ◌<◌, min, max}
use native.Mathlib.Nat.{pow-suc, eq-or-lt_of_le, div-div-eq-div-mul, mul_comm}
use native.Mathlib.Omega.{arith}
use borrow.Author.Tests.{eqb-true, eqb-false, eq-eqb, ne_eqb}
use lib.Bits.{bit_and, bit_or, and_step, or_step, and_zero_l, or_zero_l}
use lib.Dec.{eqb}
use Rattle.sets.specs.Sets.{bit, word, in_word, lacks, both, either, without}

bit_small : (b : Bool) → bit b < 2
bit_small true = omega arith
bit_small false = omega arith

bit_same : (x y : Bool) → bit x ≡ bit y → x ≡ y
bit_same true true e = refl
bit_same false false e = refl
bit_same true false e = absurd (let z : ⊥ = omega arith in z)
bit_same false true e = absurd (let z : ⊥ = omega arith in z)

pub word_none : (f : ℕ → Bool) (k : ℕ) → word f k 0 ≡ 0
unfolding word
word_none f k = refl

pub word_step : (f : ℕ → Bool) (k j : ℕ) → word f k (suc j) ≡ word f (suc k) j * 2 + bit (f k)
unfolding word
word_step f k j = refl

pub word_half : (f : ℕ → Bool) (k j : ℕ) → word f k (suc j) / 2 ≡ word f (suc k) j
unfolding word
word_half f k j = omega (arith, bit_small (f k))

pub word_low : (f : ℕ → Bool) (k j : ℕ) → word f k (suc j) % 2 ≡ bit (f k)
unfolding word
word_low f k j = omega (arith, bit_small (f k))

pub word_lt : (f : ℕ → Bool) (k j : ℕ) → word f k j < 2 ^ j
unfolding word
word_lt f k zero = omega arith
word_lt f k (suc j) = omega (arith, word_lt f (suc k) j, pow-suc 2 j, bit_small (f k))

pub word_same : (f g : ℕ → Bool) (k j : ℕ) → ((i : ℕ) → k ≤ i → i < k + j → f i ≡ g i) → word f k j ≡ word g k j
unfolding word
word_same f g k zero h = refl
word_same f g k (suc j) h =
    ap₂ (λ (x : ℕ) (b : Bool). x * 2 + bit b) (word_same f g (suc k) j (λ i a b. h i (omega arith) (omega arith))) (h k (omega arith) (omega arith))

-- ---- nothing in it
pub word_empty : (f : ℕ → Bool) (k j : ℕ) → ((i : ℕ) → k ≤ i → i < k + j → f i ≡ false) → word f k j ≡ 0
unfolding word
word_empty f k zero h = refl
word_empty f k (suc j) h = omega (arith, word_empty f (suc k) j (λ i a b. h i (omega arith) (omega arith)), ap bit (h k (omega arith) (omega arith)))

-- digits past the last member add nothing
pub word_short : (f : ℕ → Bool) (k j d : ℕ) → j ≤ d → ((i : ℕ) → k + j ≤ i → i < k + d → f i ≡ false) → word f k j ≡ word f k d
unfolding word
word_short f k zero d l h = sym (word_empty f k d (λ i a b. h i (omega arith) b))
word_short f k (suc j) zero l h = absurd (let z : ⊥ = omega arith in z)
word_short f k (suc j) (suc d) l h = ap (λ (x : ℕ). x * 2 + bit (f k)) (word_short f (suc k) j d (omega arith) (λ i a b. h i (omega arith) (omega arith)))

-- ---- digits
odd_bit : (n : ℕ) → n < 2 → bit (eqb n 1) ≡ n
odd_bit n l = go (eqb n 1) refl
  where
    go : (b : Bool) → eqb n 1 ≡ b → bit (eqb n 1) ≡ n
    go true e = ap bit e ∙ sym (eqb-true n 1 e)
    go false e = ap bit e ∙ (let d = eqb-false n 1 e in let z : 0 ≡ n = omega arith in z)

in_half : (w k i : ℕ) → suc k ≤ i → in_word w k i ≡ in_word (w / 2) (suc k) i
unfolding in_word
in_half w k i h =
    let e : i - k ≡ suc (i - suc k) = omega arith in
    ap (λ (x : ℕ). eqb (w / 2 ^ x % 2) 1) e
    ∙ ap (λ (x : ℕ). eqb (w / x % 2) 1) (pow-suc 2 (i - suc k) ∙ mul_comm (2 ^ (i - suc k)) 2)
    ∙ ap (λ (x : ℕ). eqb (x % 2) 1) (sym (div-div-eq-div-mul w 2 (2 ^ (i - suc k))))

in_low : (w k : ℕ) → bit (in_word w k k) ≡ w % 2
unfolding in_word
in_low w k =
    let e : k - k ≡ 0 = omega arith in
    let o : w / 1 ≡ w = omega arith in
    ap (λ (x : ℕ). bit (eqb (w / 2 ^ x % 2) 1)) e ∙ ap (λ (x : ℕ). bit (eqb (x % 2) 1)) o ∙ odd_bit (w % 2) (omega arith)

-- a number is the word of its digits
pub word_self : (w k j : ℕ) → w < 2 ^ j → w ≡ word (in_word w k) k j
unfolding word
word_self w k zero h = omega arith
word_self w k (suc j) h =
    let u = pow-suc 2 j in
    let s = word_self (w / 2) (suc k) j (omega arith) in
    let e = word_same (in_word w k) (in_word (w / 2) (suc k)) (suc k) j (λ i a b. in_half w k i a) in
    let l = in_low w k in
    omega arith

-- digit i of the word of f is f's
pub word_at : (f : ℕ → Bool) (k j i : ℕ) → k ≤ i → i < k + j → in_word (word f k j) k i ≡ f i
word_at f k zero i a b = absurd (let z : ⊥ = omega arith in z)
word_at f k (suc j) i a b =
    ⊎_elim
    (λ e. subst (λ (x : ℕ). in_word (word f k (suc j)) k x ≡ f x) e (bit_same (in_word (word f k (suc j)) k k) (f k) (in_low (word f k (suc j)) k ∙ word_low f k j)))
    (λ l. in_half (word f k (suc j)) k i l ∙ ap (λ (w : ℕ). in_word w (suc k) i) (word_half f k j) ∙ word_at f (suc k) j i l (omega arith))
    (eq-or-lt_of_le a)

-- ---- both, either
min_bit : (a b : Bool) → min (bit a) (bit b) ≡ bit (cond a b false)
min_bit true true = refl
min_bit true false = refl
min_bit false true = refl
min_bit false false = refl

max_bit : (a b : Bool) → max (bit a) (bit b) ≡ bit (cond a true b)
max_bit true true = refl
max_bit true false = refl
max_bit false true = refl
max_bit false false = refl

module _ (f g : ℕ → Bool) where
  pub word_and : (k j : ℕ) → bit_and (word f k j) (word g k j) ≡ word (both f g) k j
  unfolding word both
  word_and k zero = and_zero_l 0
  word_and k (suc j) =
      and_step (word f k (suc j)) (word g k (suc j))
      ∙ ap₂ (λ (x y : ℕ). x * 2 + y)
      (ap₂ bit_and (word_half f k j) (word_half g k j) ∙ word_and (suc k) j)
      (ap₂ min (word_low f k j) (word_low g k j) ∙ min_bit (f k) (g k))

  pub word_or : (k j : ℕ) → bit_or (word f k j) (word g k j) ≡ word (either f g) k j
  unfolding word either
  word_or k zero = or_zero_l 0
  word_or k (suc j) =
      or_step (word f k (suc j)) (word g k (suc j))
      ∙ ap₂ (λ (x y : ℕ). x * 2 + y)
      (ap₂ bit_or (word_half f k j) (word_half g k j) ∙ word_or (suc k) j)
      (ap₂ max (word_low f k j) (word_low g k j) ∙ max_bit (f k) (g k))

-- ---- all but those that have f
bit_not : (b : Bool) → bit (not b) + bit b ≡ 1
bit_not true = refl
bit_not false = refl

word_all : (f : ℕ → Bool) (k j : ℕ) → word (lacks f) k j + word f k j + 1 ≡ 2 ^ j
unfolding word lacks
word_all f k zero = refl
word_all f k (suc j) = omega (arith, word_all f (suc k) j, bit_not (f k), pow-suc 2 j)

pub word_not : (f : ℕ → Bool) (k j : ℕ) → word (lacks f) k j ≡ 2 ^ j - 1 - word f k j
word_not f k j = omega (arith, word_all f k j)

-- ---- one number
abbrev pub one : ℕ → ℕ → Bool
one x i = eqb i x

pub word_one : (x k j : ℕ) → k ≤ x → x < k + j → word (one x) k j ≡ 2 ^ (x - k)
unfolding word
word_one x k zero a b = absurd (let z : ⊥ = omega arith in z)
word_one x k (suc j) a b = ⊎_elim here (λ l. there l (word_one x (suc k) j l (omega arith))) (eq-or-lt_of_le a)
  where
    here : k ≡ x → word (one x) k (suc j) ≡ 2 ^ (x - k)
    here e =
        let z : x - k ≡ 0 = omega arith in
        let w = word_empty (one x) (suc k) j (λ i u v. ne_eqb i x (λ q. omega arith)) in
        rw z (omega (arith, w, ap bit (eq-eqb k x e)))

    there : k < x → word (one x) (suc k) j ≡ 2 ^ (x - suc k) → word (one x) k (suc j) ≡ 2 ^ (x - k)
    there l w =
        let z : x - k ≡ suc (x - suc k) = omega arith in
        rw z (omega (arith, w, pow-suc 2 (x - suc k), ap bit (ne_eqb k x (λ q. omega arith))))

-- ---- one number less
module _ (f : ℕ → Bool) (x i : ℕ) where
  pub without_at : i ≡ x → without f x i ≡ false
  unfolding without
  without_at e = ap (λ (c : Bool). cond c false (f i)) (eq-eqb i x e)

  pub without_off : (i ≡ x → ⊥) → without f x i ≡ f i
  unfolding without
  without_off d = ap (λ (c : Bool). cond c false (f i)) (ne_eqb i x d)

-- a member less is a smaller word
pub word_less : (f : ℕ → Bool) (x k j : ℕ) → k ≤ x → x < k + j → f x ≡ true → word (without f x) k j < word f k j
unfolding word
word_less f x k zero a b t = absurd (let z : ⊥ = omega arith in z)
word_less f x k (suc j) a b t = ⊎_elim here (λ l. there l (word_less f x (suc k) j l (omega arith) t)) (eq-or-lt_of_le a)
  where
    here : k ≡ x → word (without f x) k (suc j) < word f k (suc j)
    here e =
        let w = word_same (without f x) f (suc k) j (λ i u v. without_off f x i (λ q. omega arith)) in
        let n : bit (without f x k) ≡ 0 = ap bit (without_at f x k e) in
        let y : bit (f k) ≡ 1 = ap (λ (i : ℕ). bit (f i)) e ∙ ap bit t in
        omega arith

    there : k < x → word (without f x) (suc k) j < word f (suc k) j → word (without f x) k (suc j) < word f k (suc j)
    there l w =
        let n : bit (without f x k) ≡ bit (f k) = ap bit (without_off f x k (λ q. omega arith)) in
        omega arith

pub word_off : (f : ℕ → Bool) (x k j : ℕ) → (x < k) ⊎ (k + j ≤ x) → word (without f x) k j ≡ word f k j
word_off f x k j o = word_same (without f x) f k j (λ i a b. without_off f x i (⊎_elim (λ l q. omega arith) (λ l q. omega arith) o))

-- ---- a word that is 0
pub zero_word : (f : ℕ → Bool) (k j i : ℕ) → word f k j ≡ 0 → k ≤ i → i < k + j → f i ≡ false
unfolding word
zero_word f k zero i e h l = absurd (let z : ⊥ = omega arith in z)
zero_word f k (suc j) i e h l =
    ⊎_elim
    (λ q. subst (λ (x : ℕ). f x ≡ false) q (bit_same (f k) false (omega arith)))
    (λ q. zero_word f (suc k) j i (omega arith) q (omega arith))
    (eq-or-lt_of_le h)
