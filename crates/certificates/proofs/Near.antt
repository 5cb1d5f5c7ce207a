-- Rows of marks. The edge (a, b) stands in two rows alone, that of a and that of b, so a set that changes at (a, b) changes b in
-- the one row and a in the other; pair after pair, in pair order, gives the rows of the whole set. Assumes nothing.
use mathlib.Core.Path.{◌≡◌, refl, sym, ap, ap₂, ◌∙◌, subst}
use mathlib.Core.Bool.{Bool, true, false, cond}
use mathlib.Core.List.{List}
use Prim.Native.Nat.{ℕ, ◌+◌, ◌≤◌, ◌<◌}
use native.Mathlib.Decide.{ℕ_discrete, dec_lt}
use native.Mathlib.Omega.{arith}
use borrow.Author.Tests.{eq-eqb, ne_eqb, lt-ltb, le-ltb}
use lib.Dec.{eqb, ltb}
use lib.IntN.{ℤ}
use lib.ListN.{length, get_or, set, replicate, length-set, length-replicate, get_or-replicate, get_or-eq_default}
use lib.Seq.{get_or-set_same, get_or-set_other, ext_get_or}
use Rattle.plane.specs.Marks.{IsMark, Plate}
use Rattle.pairs.specs.Pairs.{pair_number}
use Rattle.plane.specs.Edge.{empty_edge}
use Rattle.plane.proofs.Laws.Tells.{cond_yes, cond_no}
use Rattle.pairs.proofs.Laws.{pair_unique}
use Rattle.sets.specs.declared.Set.{Set}
use Rattle.sets.specs.Sets.{set_of, has, including, without}
use Rattle.sides.specs.Sides.{is_mark}
use Rattle.masks.specs.Table.{empty_set}
use Rattle.masks.proofs.Laws.Table.{empty-set}
use Rattle.sets.proofs.Laws.Words.{without_at, without_off}
use Rattle.sets.proofs.Laws.Sets.{has-set, set_same, including_at, including_off}
use Rattle.sides.proofs.Laws.{is_mark_lem}
use Rattle.striking.specs.Status.{remaining}
use Rattle.striking.proofs.Tests.{not_both, both, both_second}
use Rattle.striking.proofs.Remaining.{remaining_not, struck_gone, others_stay}
use Rattle.certificates.specs.Certificate.{joined}
use Rattle.certificates.specs.Plate.{pairs_of, edges_of}
use Rattle.certificates.specs.Rows.{near_mark, near_set, row_at, put_row, Rows, below, Clean}

-- ---- one row written
module _ (d : List Set) (p : ℕ) (s : Set) where
  put_size : length (put_row d p s) ≡ length d
  put_size = length-set d p s

  put_here : length d ≡ 128 → p < 128 → row_at (put_row d p s) p ≡ s
  put_here z h = get_or-set_same d p s empty_set (omega arith)

  put_elsewhere : (o : ℕ) → (o ≡ p → ⊥) → row_at (put_row d p s) o ≡ row_at d o
  put_elsewhere o n = get_or-set_other d p o s empty_set n

-- ---- the edge (a, b) in the rows
module _ (m : List ℤ) (K : ℕ → ℕ → Bool) (a b : ℕ) (h : a < b) where
  joined_up : joined K a b ≡ K a b
  unfolding joined
  joined_up = cond_yes _ _ (lt-ltb a b h)

  joined_down : joined K b a ≡ K a b
  unfolding joined
  joined_down = cond_no _ _ (le-ltb b a (omega arith))

  module _ (hb : IsMark m b) where
    pub near_up : near_mark m K a b ≡ K a b
    unfolding near_mark
    near_up =
        cond_yes _ _ (is_mark_lem m a (omega arith)) ∙ cond_yes _ _ (is_mark_lem m b hb) ∙ cond_no _ _ (ne_eqb a b (λ e. omega arith)) ∙
        joined_up

    pub near_down : near_mark m K b a ≡ K a b
    unfolding near_mark
    near_down =
        cond_yes _ _ (is_mark_lem m b hb) ∙ cond_yes _ _ (is_mark_lem m a (omega arith)) ∙ cond_no _ _ (ne_eqb b a (λ e. omega arith)) ∙
        joined_down

-- no mark has an edge to itself
pub near_apart : (m : List ℤ) (K : ℕ → ℕ → Bool) (p i : ℕ) → near_mark m K p i ≡ true → p ≡ i → ⊥
unfolding near_mark
near_apart m K p i h e =
    not_both (both_second (is_mark m i) _ (both_second (is_mark m p) _ h)) (cond_yes _ _ (eq-eqb p i e))

-- two sets that agree on the edge of p and i
near_same :
    (m : List ℤ) (K K' : ℕ → ℕ → Bool) (p i : ℕ) → (p < i → K p i ≡ K' p i) → (i < p → K i p ≡ K' i p) →
    near_mark m K p i ≡ near_mark m K' p i
unfolding near_mark
near_same m K K' p i f g = ap (λ (t : Bool). cond (is_mark m p) (cond (is_mark m i) t false) false) (go (dec_lt p i) (dec_lt i p))
  where
    go : Dec (p < i) → Dec (i < p) → cond (eqb p i) false (joined K p i) ≡ cond (eqb p i) false (joined K' p i)
    go (yes l) x = ap (cond (eqb p i) false) (joined_up m K p i l ∙ f l ∙ sym (joined_up m K' p i l))
    go (no x) (yes l) = ap (cond (eqb p i) false) (joined_down m K i p l ∙ g l ∙ sym (joined_down m K' i p l))
    go (no x) (no y) = let e = eq-eqb p i (omega arith) in cond_yes _ _ e ∙ sym (cond_yes _ _ e)

-- two sets with the same pairs have the same rows
pub rows_same :
    {m : List ℤ} {K K' : ℕ → ℕ → Bool} {d : List Set} → ((c e : ℕ) → c < e → K c e ≡ K' c e) → Rows m K d → Rows m K' d
unfolding near_set
rows_same {m} {K} {K'} f r =
    record {
      size = r.size;
      each = λ p l. r.each p l ∙ set_same (near_mark m K p) (near_mark m K' p) (λ i _. near_same m K K' p i (f p i) (f i p));
    }

-- ---- two sets that agree but on (a, b), where the second says v
module _ (m : List ℤ) (K K' : ℕ → ℕ → Bool) (a b : ℕ) (v : Bool) (h : a < b) (hb : IsMark m b) (at : K' a b ≡ v)
    (off : (c e : ℕ) → c < e → (c ≡ a → e ≡ b → ⊥) → K c e ≡ K' c e) where
  near_off : (p i : ℕ) → (p ≡ a → i ≡ b → ⊥) → (p ≡ b → i ≡ a → ⊥) → near_mark m K p i ≡ near_mark m K' p i
  near_off p i x y = near_same m K K' p i (λ l. off p i l x) (λ l. off i p l (λ e f. y f e))

  -- G takes a test and a number, and says v of that number alone
  module _ (G : (ℕ → Bool) → ℕ → ℕ → Bool) (G-at : (f : ℕ → Bool) (k i : ℕ) → i ≡ k → G f k i ≡ v)
      (G-off : (f : ℕ → Bool) (k i : ℕ) → (i ≡ k → ⊥) → G f k i ≡ f i) where
    row_edited :
        (p k : ℕ) (x s : Set) → x ≡ near_set m K p → s ≡ set_of (G (has x) k) → near_mark m K' p k ≡ v →
        ((i : ℕ) → (i ≡ k → ⊥) → near_mark m K p i ≡ near_mark m K' p i) → s ≡ near_set m K' p
    unfolding near_set
    row_edited p k x s ex es ek f = es ∙ set_same (G (has x) k) (near_mark m K' p) (λ i l. go i l (ℕ_discrete i k))
      where
        go : (i : ℕ) → i < 128 → Dec (i ≡ k) → G (has x) k i ≡ near_mark m K' p i
        go i l (yes e) = G-at (has x) k i e ∙ sym ek ∙ ap (near_mark m K' p) (sym e)
        go i l (no n) = G-off (has x) k i n ∙ ap (λ (y : Set). has y i) ex ∙ has-set (near_mark m K p) i l ∙ f i n

    -- it is put to work on row a, then on row b
    rows_edited :
        {d d₁ d₂ : List Set} {x y s t : Set} → b < 128 → Rows m K d → x ≡ row_at d a → s ≡ set_of (G (has x) b) → d₁ ≡ put_row d a s →
        y ≡ row_at d₁ b → t ≡ set_of (G (has y) a) → d₂ ≡ put_row d₁ b t → Rows m K' d₂
    unfolding near_set
    rows_edited {d} {d₁} {d₂} {x} {y} {s} {t} small r ex es e₁ ey et e₂ =
        record { size = ap length e₂ ∙ put_size d₁ b t ∙ size₁; each = λ p l. row p l (ℕ_discrete p a) (ℕ_discrete p b) }
      where
        size₁ : length d₁ ≡ 128
        size₁ = ap length e₁ ∙ put_size d a s ∙ r.size

        row_a : s ≡ near_set m K' a
        row_a =
            row_edited a b x s (ex ∙ r.each a (omega arith)) es (near_up m K' a b h hb ∙ at)
            (λ i n. near_off a i (λ e. n) (λ e. absurd (let z : ⊥ = omega arith in z)))

        row_b : t ≡ near_set m K' b
        row_b =
            row_edited b a y t
            (ey ∙ ap (λ (k : List Set). row_at k b) e₁ ∙ put_elsewhere d a s b (λ e. omega arith) ∙ r.each b small) et
            (near_down m K' a b h hb ∙ at)
            (λ i n. near_off b i (λ e. absurd (let z : ⊥ = omega arith in z)) (λ e. n))

        row : (p : ℕ) → p < 128 → Dec (p ≡ a) → Dec (p ≡ b) → row_at d₂ p ≡ near_set m K' p
        row p l (yes e) n =
            ap₂ row_at e₂ e ∙ put_elsewhere d₁ b t a (λ f. omega arith) ∙ ap (λ (k : List Set). row_at k a) e₁ ∙
            put_here d a s r.size (omega arith) ∙ row_a ∙ ap (near_set m K') (sym e)
        row p l (no n) (yes e) = ap₂ row_at e₂ e ∙ put_here d₁ b t size₁ small ∙ row_b ∙ ap (near_set m K') (sym e)
        row p l (no n) (no n') =
            ap (λ (k : List Set). row_at k p) e₂ ∙ put_elsewhere d₁ b t p n' ∙ ap (λ (k : List Set). row_at k p) e₁ ∙
            put_elsewhere d a s p n ∙ r.each p l ∙
            set_same (near_mark m K p) (near_mark m K' p) (λ i _. near_off p i (λ e. absurd (n e)) (λ e. absurd (n' e)))

-- ---- sets of pairs by their numbers
other_number : (a b c e : ℕ) → a < b → c < e → (c ≡ a → e ≡ b → ⊥) → pair_number c e ≡ pair_number a b → ⊥
other_number a b c e h k n q = let u = pair_unique c e a b k h q in n u.0 u.1

module _ (m : List ℤ) (S S' : ℕ → Bool) (a b : ℕ) where
  edges_same : S (pair_number a b) ≡ S' (pair_number a b) → edges_of m S a b ≡ edges_of m S' a b
  unfolding edges_of pairs_of
  edges_same e = ap (λ (t : Bool). cond t (empty_edge m a b) false) e

module _ (m : List ℤ) (S : ℕ → Bool) (a b : ℕ) where
  edges_none : S (pair_number a b) ≡ false → edges_of m S a b ≡ false
  unfolding edges_of pairs_of
  edges_none e = cond_no _ _ e

  pub edges_yes : S (pair_number a b) ≡ true → empty_edge m a b ≡ true → edges_of m S a b ≡ true
  unfolding edges_of pairs_of
  edges_yes e f = both e f

-- ---- the byte of (a, b) becomes 0
pub rows_parted :
    {m : List ℤ} {d d₁ d₂ : List Set} {x y s t : Set} (st : List ℕ) (a b : ℕ) → Plate m → a < b → IsMark m b →
    Rows m (edges_of m (remaining st)) d → x ≡ row_at d a → s ≡ set_of (without (has x) b) → d₁ ≡ put_row d a s →
    y ≡ row_at d₁ b → t ≡ set_of (without (has y) a) → d₂ ≡ put_row d₁ b t →
    Rows m (edges_of m (remaining (set st (pair_number a b) 0))) d₂
rows_parted {m} st a b plate h hb r =
    let few = plate.few in
    rows_edited m (edges_of m (remaining st)) (edges_of m (remaining st')) a b false h hb
    (edges_none m (remaining st') a b (struck_gone st (pair_number a b)))
    (λ c e l n. edges_same m (remaining st) (remaining st') c e
    (sym (others_stay st (pair_number a b) (pair_number c e) (other_number a b c e h l n))))
    without without_at without_off (omega arith) r
  where
    st' : List ℕ
    st' = set st (pair_number a b) 0

-- ---- the pairs below i, and one more
module _ (S : ℕ → Bool) (i j : ℕ) where
  below_yes : j < i → below i S j ≡ S j
  unfolding below
  below_yes l = cond_yes _ _ (lt-ltb j i l)

  below_no : i ≤ j → below i S j ≡ false
  unfolding below
  below_no l = cond_no _ _ (le-ltb j i l)

  below_next : (j ≡ i → ⊥) → below i S j ≡ below (i + 1) S j
  unfolding below
  below_next n = go (dec_lt j i)
    where
      go : Dec (j < i) → below i S j ≡ below (i + 1) S j
      go (yes l) = below_yes l ∙ sym (cond_yes _ _ (lt-ltb j (i + 1) (omega arith)))
      go (no x) = below_no (omega arith) ∙ sym (cond_no _ _ (le-ltb j (i + 1) (omega arith)))

module _ (st : List ℕ) (i : ℕ) where
  abbrev before : ℕ → Bool
  before = below i (remaining st)

  abbrev after : ℕ → Bool
  after = below (i + 1) (remaining st)

module _ {m : List ℤ} {d : List Set} (st : List ℕ) (a b : ℕ) (h : a < b) (hb : IsMark m b)
    (r : Rows m (edges_of m (below (pair_number a b) (remaining st))) d) where
  abbrev here : ℕ
  here = pair_number a b

  other_pair : (c f : ℕ) → c < f → (c ≡ a → f ≡ b → ⊥) → edges_of m (before st here) c f ≡ edges_of m (after st here) c f
  other_pair c f l n =
      edges_same m (before st here) (after st here) c f
      (below_next (remaining st) here (pair_number c f) (λ q. other_number a b c f h l n q))

  after_at : after st here here ≡ remaining st here
  after_at = below_yes (remaining st) (here + 1) here (omega arith)

  pub rows_joined :
      {d₁ d₂ : List Set} {x y s t : Set} → Plate m → Clean m st → remaining st here ≡ true → x ≡ row_at d a →
      s ≡ set_of (including (has x) b) → d₁ ≡ put_row d a s → y ≡ row_at d₁ b → t ≡ set_of (including (has y) a) →
      d₂ ≡ put_row d₁ b t → Rows m (edges_of m (after st here)) d₂
  rows_joined plate clean y =
      let few = plate.few in
      rows_edited m (edges_of m (before st here)) (edges_of m (after st here)) a b true h hb
      (edges_yes m (after st here) a b (after_at ∙ y) (clean.edges a b h hb y))
      other_pair including including_at including_off (omega arith) r

-- a byte that is 0 adds no edge
pub rows_skipped :
    {m : List ℤ} {d : List Set} (st : List ℕ) (i : ℕ) → get_or st i 0 ≡ 0 → Rows m (edges_of m (before st i)) d →
    Rows m (edges_of m (after st i)) d
rows_skipped {m} st i z r = rows_same (λ c f l. go c f l (ℕ_discrete (pair_number c f) i)) r
  where
    go : (c f : ℕ) → c < f → Dec (pair_number c f ≡ i) → edges_of m (before st i) c f ≡ edges_of m (after st i) c f
    go c f l (yes q) =
        edges_none m (before st i) c f (ap (before st i) q ∙ below_no (remaining st) i i (omega arith)) ∙
        sym (edges_none m (after st i) c f
        (ap (after st i) q ∙ below_yes (remaining st) (i + 1) i (omega arith) ∙ remaining_not st i z))
    go c f l (no n) = edges_same m (before st i) (after st i) c f (below_next (remaining st) i (pair_number c f) n)

near_none : (m : List ℤ) (K : ℕ → ℕ → Bool) → ((c e : ℕ) → K c e ≡ false) → (p i : ℕ) → near_mark m K p i ≡ false
unfolding near_mark joined
near_none m K f p i =
    ap₂ (λ (x y : Bool). among (cond (ltb p i) x y)) (f p i) (f i p) ∙ go (is_mark m p) (is_mark m i) (eqb p i) (ltb p i)
  where
    among : Bool → Bool
    among t = cond (is_mark m p) (cond (is_mark m i) (cond (eqb p i) false t) false) false

    go : (x y z w : Bool) → cond x (cond y (cond z false (cond w false false)) false) false ≡ false
    go true true true w = refl
    go true true false true = refl
    go true true false false = refl
    go true false z w = refl
    go false y z w = refl

pub rows_start : {m : List ℤ} (S : ℕ → Bool) {d : List Set} → d ≡ replicate 128 empty_set → Rows m (edges_of m (below 0 S)) d
unfolding near_set
rows_start {m} S e = subst (Rows m (edges_of m (below 0 S))) (sym e) (record { size = length-replicate 128 empty_set; each = row })
  where
    none : (c f : ℕ) → edges_of m (below 0 S) c f ≡ false
    none c f = edges_none m (below 0 S) c f (below_no S 0 (pair_number c f) (omega arith))

    row : (p : ℕ) → p < 128 → row_at (replicate 128 empty_set) p ≡ near_set m (edges_of m (below 0 S)) p
    row p l = get_or-replicate 128 p empty_set empty_set (omega arith) ∙ sym (empty-set _ (λ i. near_none m _ none p i))

pub rows_end :
    {m : List ℤ} {d : List Set} (st : List ℕ) (i : ℕ) → length st ≤ i → Rows m (edges_of m (below i (remaining st))) d →
    Rows m (edges_of m (remaining st)) d
rows_end {m} st i l r =
    rows_same (λ c e _. edges_same m (below i (remaining st)) (remaining st) c e (go (pair_number c e) (dec_lt (pair_number c e) i))) r
  where
    go : (j : ℕ) → Dec (j < i) → below i (remaining st) j ≡ remaining st j
    go j (yes u) = below_yes (remaining st) i j u
    go j (no n) =
        below_no (remaining st) i j (omega arith) ∙ sym (remaining_not st j (get_or-eq_default st 0 (omega arith)))

-- ---- rows leave no choice: a plate and a set have one list of rows
pub rows_unique : {m : List ℤ} {K : ℕ → ℕ → Bool} {d d' : List Set} → Rows m K d → Rows m K d' → d ≡ d'
rows_unique {m} {K} {d} {d'} f g =
    ext_get_or empty_set d d' (f.size ∙ sym g.size) (λ i h. let l : i < 128 = omega (arith, f.size) in f.each i l ∙ sym (g.each i l))
