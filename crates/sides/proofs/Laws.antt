-- A pass of the marks against a pair: what one mark more adds to it, and what the two halves make together. Right of a to b is left of b
-- to a, so one side test gives a digit of both left sets. Assumes nothing.
use mathlib.Core.Path.{◌≡◌, refl, sym, ap, ap₂, ◌∙◌, subst}
use mathlib.Core.Logic.{⊎_elim}
use mathlib.Core.Bool.{Bool, true, false, not, cond}
use mathlib.Core.List.{List}
use Prim.Native.Nat.{ℕ, zero, suc, ◌+◌, ◌*◌, ◌-◌, ◌^◌, ◌≤◌, ◌<◌, min}
use native.Mathlib.Nat.{add-zero, lt_of_lt_of_le}
use native.Mathlib.Omega.{arith}
use borrow.Author.Tests.{lt-ltb, le-ltb}
use lib.Dec.{T, eqb, ltb, ltb→lt, lt→ltb}
use lib.IntN.{ℤ}
use lib.Pow.{pow_mono}
use Rattle.plane.specs.declared.marks.Point.{Point}
use Rattle.plane.specs.declared.hull.Kind.{Kind}
use Rattle.plane.specs.declared.hull.Kind.TheVariants.{Blocked, Hull, Inner}
use Rattle.plane.specs.Numbers.{all_to}
use Rattle.plane.specs.Marks.{count, mark, IsMark, Plate, every_mark}
use Rattle.plane.specs.Side.{left_of, right_of, on_line}
use Rattle.plane.specs.Edge.{between, on_segment, clear, empty_edge}
use Rattle.plane.specs.Hull.{not_left, not_right, one_sided, kind_of}
use Rattle.plane.proofs.Laws.Numbers.{all_none}
use Rattle.plane.proofs.Laws.Tells.{Tells, tells_map, tells_and, tells_same, cond_yes, cond_no}
use Rattle.plane.proofs.Laws.Side.{left_of_tells, right_of_tells}
use Rattle.sets.specs.declared.Set.{Set}
use Rattle.sides.specs.declared.Sides.{Sides}
use Rattle.sets.specs.Sets.{bit, word, set_of, has, lacks, none}
use Rattle.sides.specs.Sides.{is_mark, left_mark, left_set, all_in, Passed, Found, kind_by}
use Rattle.sets.proofs.Laws.Numbers.{split, and_true, and_no, all_same, all_short}
use Rattle.sets.proofs.Laws.Words.{word_none, word_step, word_short, word_lt}
use Rattle.sets.proofs.Laws.Sets.{set_words, has-set, none-set}

-- ---- left marks
pub left_right : (p q k : Point) → left_of q p k ≡ right_of p q k
left_right p q k = tells_same left_of_tells right_of_tells (λ h. h) (λ h. h)

module _ (m : List ℤ) (i : ℕ) where
  pub is_mark_lem : IsMark m i → is_mark m i ≡ true
  unfolding is_mark
  is_mark_lem h = lt-ltb i (count m) h

  pub no_mark : count m ≤ i → is_mark m i ≡ false
  unfolding is_mark
  no_mark h = le-ltb i (count m) h

module _ (m : List ℤ) (p q k : ℕ) where
  pub left_mark_lem : IsMark m p → IsMark m q → IsMark m k → left_mark m p q k ≡ left_of (mark m p) (mark m q) (mark m k)
  unfolding left_mark
  left_mark_lem hp hq hk = cond_yes _ _ (is_mark_lem m p hp) ∙ cond_yes _ _ (is_mark_lem m q hq) ∙ cond_yes _ _ (is_mark_lem m k hk)

  -- a number that is no mark's
  pub left_past_p : count m ≤ p → left_mark m p q k ≡ false
  unfolding left_mark
  left_past_p h = cond_no _ _ (no_mark m p h)

  pub left_past_q : count m ≤ q → left_mark m p q k ≡ false
  unfolding left_mark
  left_past_q h = ap (λ (b : Bool). cond (is_mark m p) b false) (cond_no _ _ (no_mark m q h)) ∙ and_no (is_mark m p)

  pub left_past : count m ≤ k → left_mark m p q k ≡ false
  unfolding left_mark
  left_past h =
      ap (λ (b : Bool). cond (is_mark m p) (cond (is_mark m q) b false) false) (cond_no _ _ (no_mark m k h))
      ∙ ap (λ (b : Bool). cond (is_mark m p) b false) (and_no (is_mark m q)) ∙ and_no (is_mark m p)

-- what a left mark is
pub record Left (m : List ℤ) (p q k : ℕ) : Type 0 where
  pub first : IsMark m p
  pub second : IsMark m q
  pub third : IsMark m k
  pub left : left_of (mark m p) (mark m q) (mark m k) ≡ true

module _ (m : List ℤ) (p q k : ℕ) where
  pub left_tells : Tells (left_mark m p q k) (Left m p q k)
  unfolding left_mark is_mark
  left_tells =
      tells_map
      (λ h. record { first = ltb→lt p (count m) h.0; second = ltb→lt q (count m) h.1.0; third = ltb→lt k (count m) h.1.1.0; left = is_true (left_of (mark m p) (mark m q) (mark m k)) h.1.1.1 })
      (λ h. (lt→ltb p (count m) h.first, (lt→ltb q (count m) h.second, (lt→ltb k (count m) h.third, subst T (sym h.left) tt))))
      (tells_and (itself (ltb p (count m))) (tells_and (itself (ltb q (count m))) (tells_and (itself (ltb k (count m))) (itself (left_of (mark m p) (mark m q) (mark m k))))))
    where
      itself : (b : Bool) → Tells b (T b)
      itself b = record { to = λ t. t; from = λ t. t }

      is_true : (b : Bool) → T b → b ≡ true
      is_true true t = refl
      is_true false t = absurd t

  pub has_left : k < 128 → has (left_set m p q) k ≡ left_mark m p q k
  unfolding left_set
  has_left h = has-set (left_mark m p q) k h

-- ---- a mark off the segment leaves the edge clear
pub clear_past : (m : List ℤ) (a b k : ℕ) → between (mark m a) (mark m b) (mark m k) ≡ false → clear m a b k ≡ true
unfolding clear on_segment
clear_past m a b k e = ap (λ (t : Bool). cond (eqb k a) true (cond (eqb k b) true (not (cond (on_line (mark m a) (mark m b) (mark m k)) t false)))) e ∙ go (eqb k a) (eqb k b) (on_line (mark m a) (mark m b) (mark m k))
  where
    go : (x y z : Bool) → cond x true (cond y true (not (cond z false false))) ≡ true
    go true y z = refl
    go false true z = refl
    go false false true = refl
    go false false false = refl

-- ---- one mark more, from the last down
word_down : (f : ℕ → Bool) (k hi : ℕ) → 0 < k → k ≤ hi → word f (k - 1) (hi - (k - 1)) ≡ word f k (hi - k) * 2 + bit (f (k - 1))
word_down f k hi h l =
    let e : hi - (k - 1) ≡ suc (hi - k) = omega arith in
    let d : suc (k - 1) ≡ k = omega arith in
    ap (word f (k - 1)) e ∙ word_step f (k - 1) (hi - k) ∙ ap (λ (x : ℕ). word f x (hi - k) * 2 + bit (f (k - 1))) d

all_down : (f : ℕ → Bool) (k hi : ℕ) → 0 < k → k ≤ hi → all_in (k - 1) (hi - (k - 1)) f ≡ cond (all_in k (hi - k) f) (f (k - 1)) false
unfolding all_in
all_down f k hi h l =
    let e : hi - (k - 1) ≡ suc (hi - k) = omega arith in
    let d : suc (k - 1) ≡ k = omega arith in
    ap (λ (j : ℕ). all_in (k - 1) j f) e ∙ ap (λ (x : ℕ). cond (all_in x (hi - k) f) (f (k - 1)) false) d

abbrev pub found : ℕ → ℕ → Bool → Sides ℕ
found l r c = record { left = l; right = r; clear = c }

pub pass_none : (m : List ℤ) (a b hi : ℕ) → Passed m a b hi (hi - hi) (found 0 0 true)
unfolding all_in
pass_none m a b hi =
    let e : hi - hi ≡ 0 = omega arith in
    rw e (record { lefts = sym (word_none (left_mark m a b) hi); rights = sym (word_none (left_mark m b a) hi); free = refl })

pub pass_down :
    {m : List ℤ} {a b l r l' r' : ℕ} {c c' x y : Bool} (k hi : ℕ) → 0 < k → k ≤ hi → hi ≤ count m → IsMark m a → IsMark m b →
    Passed m a b k (hi - k) (found l r c) →
    x ≡ left_of (mark m a) (mark m b) (mark m (k - 1)) → y ≡ right_of (mark m a) (mark m b) (mark m (k - 1)) →
    l' ≡ l * 2 + bit x → r' ≡ r * 2 + bit y → c' ≡ cond c (clear m a b (k - 1)) false →
    Passed m a b (k - 1) (hi - (k - 1)) (found l' r' c')
pass_down {m} {a} {b} k hi h le hn ha hb i ex ey el er ec =
    let hk : IsMark m (k - 1) = omega arith in
    record {
      lefts =
          el ∙ ap₂ (λ (w : ℕ) (t : Bool). w * 2 + bit t) i.lefts (ex ∙ sym (left_mark_lem m a b (k - 1) ha hb hk))
          ∙ sym (word_down (left_mark m a b) k hi h le);
      rights =
          er ∙ ap₂ (λ (w : ℕ) (t : Bool). w * 2 + bit t) i.rights (ey ∙ sym (left_right _ _ _) ∙ sym (left_mark_lem m b a (k - 1) hb ha hk))
          ∙ sym (word_down (left_mark m b a) k hi h le);
      free = ec ∙ ap (λ (t : Bool). cond t (clear m a b (k - 1)) false) i.free ∙ sym (all_down (clear m a b) k hi h le);
    }

-- a word of at most 63 digits leaves room for one more
pub room : (f : ℕ → Bool) (k j : ℕ) {w : ℕ} → w ≡ word f k j → j ≤ 63 → w < 2 ^ 63
room f k j e h = rw e (lt_of_lt_of_le (word_lt f k j) (pow_mono h))

-- ---- the two halves
shuffle : (a b c : Bool) → cond a (cond b c false) false ≡ cond (cond a c false) b false
shuffle true true true = refl
shuffle true true false = refl
shuffle true false true = refl
shuffle true false false = refl
shuffle false b c = refl

all_on : (f : ℕ → Bool) (k j : ℕ) → cond (all_to k f) (all_in k j f) false ≡ all_to (k + j) f
unfolding all_to all_in
all_on f k zero = rw (add-zero k) (and_true (all_to k f))
all_on f k (suc j) =
    shuffle (all_to k f) (all_in (suc k) j f) (f k) ∙ all_on f (suc k) j
    ∙ ap (λ (x : ℕ). all_to x f) (let e : suc k + j ≡ k + suc j = omega arith in e)

all_two : (f : ℕ → Bool) (h n : ℕ) → h ≤ n → cond (all_in 0 (h - 0) f) (all_in h (n - h) f) false ≡ all_to n f
all_two f h n l =
    ap (λ (b : Bool). cond b (all_in h (n - h) f) false) (low f ∙ all_on f 0 (h - 0) ∙ ap (λ (x : ℕ). all_to x f) (let e : 0 + (h - 0) ≡ h = omega arith in e))
    ∙ all_on f h (n - h) ∙ ap (λ (x : ℕ). all_to x f) (let e : h + (n - h) ≡ n = omega arith in e)
  where
    low : (f : ℕ → Bool) → all_in 0 (h - 0) f ≡ cond (all_to 0 f) (all_in 0 (h - 0) f) false
    low f = sym (cond_yes _ _ (all_none f))

module _ (m : List ℤ) (p q : ℕ) (plate : Plate m) where
  -- a half's word, whatever of the half has marks
  low_half : (h : ℕ) → h ≡ min (count m) 64 → word (left_mark m p q) 0 (h - 0) ≡ word (left_mark m p q) 0 64
  low_half h e = word_short (left_mark m p q) 0 (h - 0) 64 (omega arith) (λ i a b. left_past m p q i (omega arith))

  high_half : (h : ℕ) → h ≡ min (count m) 64 → word (left_mark m p q) h (count m - h) ≡ word (left_mark m p q) 64 64
  high_half h e = ⊎_elim small large (split (count m) 64)
    where
      few : count m ≤ 128
      few = plate.few

      small : count m ≤ 64 → word (left_mark m p q) h (count m - h) ≡ word (left_mark m p q) 64 64
      small l =
          let z : count m - h ≡ 0 = omega arith in
          ap (word (left_mark m p q) h) z ∙ word_none (left_mark m p q) h
          ∙ sym (word_none (left_mark m p q) 64) ∙ word_short (left_mark m p q) 64 0 64 (omega arith) (λ i a b. left_past m p q i (omega arith))

      large : 64 < count m → word (left_mark m p q) h (count m - h) ≡ word (left_mark m p q) 64 64
      large l =
          let z : h ≡ 64 = omega arith in
          ap (λ (x : ℕ). word (left_mark m p q) x (count m - x)) z
          ∙ word_short (left_mark m p q) 64 (count m - 64) 64 (omega arith) (λ i a b. left_past m p q i (omega arith))

pub two_halves :
    {m : List ℤ} {a b h n : ℕ} {x y : Sides ℕ} {c : Bool} → Plate m → n ≡ count m → h ≡ min n 64 →
    Passed m a b 0 (h - 0) x → Passed m a b h (n - h) y → c ≡ cond x.clear y.clear false →
    Found m a b (record { left = record { low = x.left; high = y.left }; right = record { low = x.right; high = y.right }; clear = c })
unfolding left_set set_of empty_edge
two_halves {m} {a} {b} {h} {n} {x} {y} {c} plate en eh px py ec =
    let e : h ≡ min (count m) 64 = omega arith in
    record {
      lefts =
          set_words (px.lefts ∙ low_half m a b plate h e)
          (py.lefts ∙ ap (λ (k : ℕ). word (left_mark m a b) h (k - h)) en ∙ high_half m a b plate h e);
      rights =
          set_words (px.rights ∙ low_half m b a plate h e)
          (py.rights ∙ ap (λ (k : ℕ). word (left_mark m b a) h (k - h)) en ∙ high_half m b a plate h e);
      free =
          ec ∙ ap₂ (λ (s t : Bool). cond s t false) px.free py.free
          ∙ all_two (clear m a b) h n (omega arith) ∙ ap (λ (k : ℕ). all_to k (clear m a b)) en;
    }

-- ---- the kind of the pair
none_left_of : (m : List ℤ) (p q : ℕ) (g : ℕ → Bool) → Plate m → ((k : ℕ) → IsMark m k → not (left_mark m p q k) ≡ g k) → none (left_set m p q) ≡ every_mark m g
unfolding left_set lacks
none_left_of m p q g plate h =
    none-set (left_mark m p q)
    ∙ all_short (lacks (left_mark m p q)) (count m) 128 plate.few (λ k a b. ap not (left_past m p q k a))
    ∙ all_same (lacks (left_mark m p q)) g (count m) h

pub kind_found : {m : List ℤ} {a b : ℕ} {x : Sides Set} → Plate m → IsMark m a → IsMark m b → Found m a b x → kind_by x ≡ kind_of m a b
unfolding kind_by kind_of one_sided not_left not_right
kind_found {m} {a} {b} {x} plate ha hb f =
    (λ i. cond (f.free i) (cond (nl i) Hull (cond (nr i) Hull Inner)) Blocked)
    ∙ ap (λ (k : Kind). cond (empty_edge m a b) k Blocked) (go (every_mark m (not_left m a b)) (every_mark m (not_right m a b)))
  where
    go : (s t : Bool) → cond s Hull (cond t Hull Inner) ≡ cond (cond s true t) Hull Inner
    go true t = refl
    go false t = refl

    nl : none x.left ≡ every_mark m (not_left m a b)
    nl = ap none f.lefts ∙ none_left_of m a b (not_left m a b) plate (λ k hk. ap not (left_mark_lem m a b k ha hb hk))

    nr : none x.right ≡ every_mark m (not_right m a b)
    nr = ap none f.rights ∙ none_left_of m b a (not_right m a b) plate (λ k hk. ap not (left_mark_lem m b a k hb ha hk ∙ left_right _ _ _))

-- a mark that the edge is clear of changes nothing; one that it is not clear of decides
pub stays : (t c : Bool) → c ≡ true → t ≡ cond t c false
stays true c e = sym e
stays false c e = refl

pub stops : (t c : Bool) → c ≡ false → false ≡ cond t c false
stops true c e = sym e
stops false c e = refl
