-- The marks from which the apexes of a certificate are chosen. A candidate has both its sides in the set of edges and lies on its
-- side of pq; the candidates are where two rows and a left set meet. Assumes nothing.
use mathlib.Core.Path.{◌≡◌, refl, sym, ◌∙◌}
use mathlib.Core.Bool.{Bool, true, false, cond}
use mathlib.Core.List.{List}
use Prim.Native.Nat.{ℕ}
use borrow.Author.Tests.{ltb-true, ne_eqb}
use lib.Dec.{eqb, ltb}
use lib.IntN.{ℤ}
use Rattle.plane.specs.Marks.{count, mark, IsMark}
use Rattle.plane.specs.Side.{left_of}
use Rattle.plane.proofs.Laws.Tells.{cond_yes, cond_no}
use Rattle.sets.specs.declared.Set.{Set}
use Rattle.sets.specs.Sets.{set_of, has, both}
use Rattle.sides.specs.Sides.{is_mark, left_mark, left_set}
use Rattle.masks.specs.Table.{none_left, empty_set}
use Rattle.sets.proofs.Laws.Sets.{set_same, both_sets}
use Rattle.sides.proofs.Laws.{is_mark_lem, left_mark_lem}
use Rattle.masks.proofs.Laws.Table.{empty-set}
use Rattle.striking.proofs.Tests as tests
use Rattle.striking.proofs.Tests.{not_both, both_first, both_second}
use Rattle.certificates.specs.Certificate.{joined}
use Rattle.certificates.specs.Rows.{near_mark, near_set, candidate, right_candidate}

-- ---- what a candidate is
module _ (m : List ℤ) (K : ℕ → ℕ → Bool) where
  near_mark_lem : (p i : ℕ) → near_mark m K p i ≡ true → IsMark m i
  unfolding near_mark is_mark
  near_mark_lem p i h = ltb-true i (count m) (both_first (ltb i (count m)) _ (both_second (ltb p (count m)) _ h))

  near_joined : (p i : ℕ) → near_mark m K p i ≡ true → joined K p i ≡ true
  unfolding near_mark
  near_joined p i h = go (eqb p i) (both_second (is_mark m i) _ (both_second (is_mark m p) _ h))
    where
      go : (t : Bool) → cond t false (joined K p i) ≡ true → joined K p i ≡ true
      go true e = not_both e refl
      go false e = e

  is_near : (p i : ℕ) → IsMark m p → IsMark m i → (i ≡ p → ⊥) → joined K p i ≡ true → near_mark m K p i ≡ true
  unfolding near_mark
  is_near p i hp hi d j = tests.both (is_mark_lem m p hp) (tests.both (is_mark_lem m i hi) (cond_no _ _ (ne_eqb p i (λ e. d (sym e))) ∙ j))

  pub record Candidate (p q a b i : ℕ) : Type 0 where
    pub marked : IsMark m i
    pub p_in : joined K p i ≡ true
    pub q_in : joined K q i ≡ true
    pub left : left_of (mark m a) (mark m b) (mark m i) ≡ true

  module _ (p q a b i : ℕ) where
    near_both : candidate m K p q a b i ≡ true → (near_mark m K p i ≡ true) × (near_mark m K q i ≡ true)
    unfolding candidate both
    near_both h =
        let x = both_first (cond (near_mark m K p i) (near_mark m K q i) false) _ h in
        (both_first (near_mark m K p i) _ x, both_second (near_mark m K p i) _ x)

    pub candidate_mark : candidate m K p q a b i ≡ true → IsMark m i
    candidate_mark h = near_mark_lem p i (near_both h).0

  module _ (p q a b i : ℕ) (ha : IsMark m a) (hb : IsMark m b) where
    pub candidate_is : candidate m K p q a b i ≡ true → Candidate p q a b i
    unfolding candidate both
    candidate_is h =
        let n = near_both p q a b i h in
        let marked = candidate_mark p q a b i h in
        record {
          marked = marked;
          p_in = near_joined p i n.0;
          q_in = near_joined q i n.1;
          left = sym (left_mark_lem m a b i ha hb marked) ∙ both_second (cond (near_mark m K p i) (near_mark m K q i) false) _ h;
        }

    pub is_candidate :
        IsMark m p → IsMark m q → IsMark m i → (i ≡ p → ⊥) → (i ≡ q → ⊥) → joined K p i ≡ true → joined K q i ≡ true →
        left_of (mark m a) (mark m b) (mark m i) ≡ true → candidate m K p q a b i ≡ true
    unfolding candidate both
    is_candidate hp hq hi no-p no-q pi qi l =
        tests.both (tests.both (is_near p i hp hi no-p pi) (is_near q i hq hi no-q qi)) (left_mark_lem m a b i ha hb hi ∙ l)

pub right_mark : (m : List ℤ) (K : ℕ → ℕ → Bool) (p q r i : ℕ) → right_candidate m K p q r i ≡ true → IsMark m i
unfolding right_candidate
right_mark m K p q r i h = candidate_mark m K p q q p i (both_second (none_left m p q r) _ h)

-- ---- the sets
module _ (m : List ℤ) (K : ℕ → ℕ → Bool) where
  -- where the rows of p and q and the left set of (a, b) meet
  pub candidate-set :
      (p q a b : ℕ) {x y z u v : Set} → x ≡ near_set m K p → y ≡ near_set m K q →
      u ≡ set_of (both (has x) (has y)) → z ≡ left_set m a b → v ≡ set_of (both (has u) (has z)) → v ≡ set_of (candidate m K p q a b)
  unfolding near_set left_set candidate
  candidate-set p q a b {u = u} ex ey eu ez ev =
      ev ∙ (λ i. set_of (both (has (two i)) (has (ez i)))) ∙ both_sets (both (near_mark m K p) (near_mark m K q)) (left_mark m a b)
    where
      two : u ≡ set_of (both (near_mark m K p) (near_mark m K q))
      two =
          eu ∙ (λ i. set_of (both (has (ex i)) (has (ey i))))
          ∙ both_sets (near_mark m K p) (near_mark m K q)

  -- all of those on the right where no mark lies inside pqr, and none where one does
  pub right_all :
      (p q r : ℕ) {x : Set} → none_left m p q r ≡ true → x ≡ set_of (candidate m K p q q p) → x ≡ set_of (right_candidate m K p q r)
  unfolding right_candidate
  right_all p q r e h = h ∙ set_same (candidate m K p q q p) (right_candidate m K p q r) (λ i l. sym (cond_yes _ _ e))

  pub right_none : (p q r : ℕ) → none_left m p q r ≡ false → empty_set ≡ set_of (right_candidate m K p q r)
  unfolding right_candidate
  right_none p q r e = sym (empty-set (right_candidate m K p q r) (λ i. cond_no _ _ e))
