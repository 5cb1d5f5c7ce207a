-- Crossed, by sets of marks. An edge of the set that crosses (p, q) has one end r strictly left of p to q and the other end s
-- strictly right, and p and q lie on opposite sides of it; so what crosses (p, q) is found from the marks r on the left. Assumes
-- nothing.
use mathlib.Core.Path.{◌≡◌, sym, ap, ◌∙◌}
use mathlib.Core.Logic.{⊎_elim}
use mathlib.Core.Bool.{Bool, true, false, not, cond}
use mathlib.Core.List.{List}
use Prim.Native.Nat.{ℕ, ◌≤◌, ◌<◌}
use native.Mathlib.Decide.{ℕ_discrete, dec_lt}
use native.Mathlib.Omega.{arith}
use borrow.Author.Tests.{not-true, not-false}
use lib.IntN.{ℤ}
use Rattle.plane.specs.Numbers.{first_to}
use Rattle.plane.specs.Marks.{IsMark, count, mark}
use Rattle.pairs.specs.Pairs.{pair_number, pair_at}
use Rattle.plane.specs.Edge.{empty_edge}
use Rattle.plane.specs.Cross.{crosses}
use Rattle.plane.proofs.Laws.Tells.{tells_true, tells_yes}
use Rattle.plane.proofs.Laws.Numbers.{all_miss, all_no}
use Rattle.plane.proofs.Laws.Side.{L, left_of_tells, right_of_tells}
use Rattle.pairs.proofs.Laws.{pair_at_numbered, pair_at_below}
use Rattle.plane.proofs.Laws.Cross.{crosses_ends, crosses_tells}
use Rattle.sets.specs.declared.Set.{Set}
use Rattle.sets.specs.Sets.{set_of, has, lacks, none, both, without}
use Rattle.sides.specs.Sides.{left_mark, left_set}
use Rattle.masks.specs.Table.{split_mark}
use Rattle.sets.proofs.Laws.Sets.{both_sets, none-set}
use Rattle.sets.proofs.Laws.Members.{first_before, has_rest}
use Rattle.sets.proofs.Laws.Words.{without_at, without_off}
use Rattle.sides.proofs.Laws.{Left, left_right, left_mark_lem, left_tells, has_left}
use Rattle.masks.proofs.Laws.Cross.{split_crosses}
use Rattle.striking.specs.System.{crossed}
use Rattle.striking.proofs.Tests.{not_both, is_false, both_first, both_second}
use Rattle.striking.proofs.System.{crossed_by, crossing}
use Rattle.striking.proofs.Tests as tests
use Rattle.certificates.specs.Plate.{pairs_of, edges_of, plate}
use Rattle.certificates.specs.Rule9.{IsPair}
use Rattle.certificates.specs.Rows.{near_mark, near_set, cross_mark, crossed_from}
use Rattle.certificates.proofs.Sides.{edges_pairs}
use Rattle.certificates.proofs.Pairs.{pair_first, number_below, cross_at}
use Rattle.certificates.proofs.Near.{near_up, near_down, near_apart, edges_yes}

-- ---- the test on three sets
module _ (m : List ℤ) (K : ℕ → ℕ → Bool) (p q r : ℕ) where
  pub from_three :
      {x y z u v : Set} {b : Bool} → x ≡ near_set m K r → y ≡ left_set m q p → u ≡ set_of (both (has x) (has y)) →
      z ≡ set_of (split_mark m p q r) → v ≡ set_of (both (has u) (has z)) → b ≡ none v → not b ≡ crossed_from m K p q r
  unfolding near_set left_set crossed_from cross_mark
  from_three {u} ex ey eu ez ev eb =
      ap not (eb ∙ ap none (ev ∙ (λ i. set_of (both (has (right i)) (has (ez i)))) ∙ both_sets _ _) ∙ none-set (cross_mark m K p q r))
    where
      right : u ≡ set_of (both (near_mark m K r) (left_mark m q p))
      right = eu ∙ (λ i. set_of (both (has (ex i)) (has (ey i)))) ∙ both_sets _ _

  -- ---- what it tells
  from_find : crossed_from m K p q r ≡ true → (s : ℕ) × (s < 128) × (cross_mark m K p q r s ≡ true)
  unfolding crossed_from lacks
  from_find h =
      let w = all_miss (lacks (cross_mark m K p q r)) 128 (not-true _ h) in
      (w.0, w.1, not-false _ w.2)

  from_hit : (s : ℕ) → s < 128 → cross_mark m K p q r s ≡ true → crossed_from m K p q r ≡ true
  unfolding crossed_from lacks
  from_hit s l h = ap not (all_no (lacks (cross_mark m K p q r)) s 128 l (ap not h))

  module _ (s : ℕ) where
    cross_near : cross_mark m K p q r s ≡ true → near_mark m K r s ≡ true
    unfolding cross_mark both
    cross_near h = both_first (near_mark m K r s) (left_mark m q p s) (both_first _ (split_mark m p q r s) h)

    cross_right : cross_mark m K p q r s ≡ true → left_mark m q p s ≡ true
    unfolding cross_mark both
    cross_right h = both_second (near_mark m K r s) (left_mark m q p s) (both_first _ (split_mark m p q r s) h)

    cross_split : cross_mark m K p q r s ≡ true → split_mark m p q r s ≡ true
    unfolding cross_mark both
    cross_split h = both_second (cond (near_mark m K r s) (left_mark m q p s) false) (split_mark m p q r s) h

    is_cross : near_mark m K r s ≡ true → left_mark m q p s ≡ true → split_mark m p q r s ≡ true → cross_mark m K p q r s ≡ true
    unfolding cross_mark both
    is_cross x y z = tests.both (tests.both x y) z

-- ---- what crosses the pair (p, q)
number_mark : (m : List ℤ) (j : ℕ) → j < (plate m).size → IsMark m (pair_at j).b
unfolding plate
number_mark m j l = pair_at_below (count m) j l

module _ (m : List ℤ) (S : ℕ → Bool) (p q : ℕ) (h : IsPair m p q) where
  abbrev K : ℕ → ℕ → Bool
  K = edges_of m S

  p_mark : IsMark m p
  p_mark = pair_first h

  edge_crosses :
      (c d : ℕ) → c < d → IsMark m d → K c d ≡ true → crosses (mark m p) (mark m q) (mark m c) (mark m d) ≡ true →
      crossed (plate m) S (pair_number p q) ≡ true
  unfolding pairs_of
  edge_crosses c d l hd e x =
      crossed_by (plate m) S (pair_number p q) (pair_number c d) (number_below m c d (record { up = l; marks = hd }))
      (edges_pairs m S c d e) (cross_at m p q h c d l ∙ x)

  pub from_crosses :
      (r : ℕ) → left_mark m p q r ≡ true → crossed_from m K p q r ≡ true → crossed (plate m) S (pair_number p q) ≡ true
  from_crosses r l f = at w.0 w.2
    where
      w : (s : ℕ) × (s < 128) × (cross_mark m K p q r s ≡ true)
      w = from_find m K p q r f

      at : (s : ℕ) → cross_mark m K p q r s ≡ true → crossed (plate m) S (pair_number p q) ≡ true
      at s e = go (dec_lt r s) (dec_lt s r)
        where
          left : Left m p q r
          left = tells_yes (left_tells m p q r) l

          right : Left m q p s
          right = tells_yes (left_tells m q p s) (cross_right m K p q r s e)

          near : near_mark m K r s ≡ true
          near = cross_near m K p q r s e

          across : crosses (mark m p) (mark m q) (mark m r) (mark m s) ≡ true
          across =
              sym
              (split_crosses m p q r s p_mark h.marks left.third right.third left.left
              (sym (left_right _ _ _) ∙ right.left)) ∙
              cross_split m K p q r s e

          go : Dec (r < s) → Dec (s < r) → crossed (plate m) S (pair_number p q) ≡ true
          go (yes u) x = edge_crosses r s u right.third (sym (near_up m K r s u right.third) ∙ near) across
          go (no x) (yes u) =
              edge_crosses s r u left.third (sym (near_down m K s r u left.third) ∙ near) (crosses_ends _ _ _ _ ∙ across)
          go (no x) (no y) = absurd (near_apart m K r s near (omega arith))

  module _ (few : count m ≤ 128)
      (clean : (a b : ℕ) → a < b → IsMark m b → S (pair_number a b) ≡ true → empty_edge m a b ≡ true) where
    pub from_none :
        ((r : ℕ) → r < 128 → left_mark m p q r ≡ true → crossed_from m K p q r ≡ false) →
        crossed (plate m) S (pair_number p q) ≡ false
    from_none f = is_false _ (λ t. let j = crossing (plate m) S (pair_number p q) t in number j.0 j.1 j.2 j.3)
      where
        side :
            (r s : ℕ) → IsMark m r → IsMark m s → near_mark m K r s ≡ true → L (mark m p) (mark m q) (mark m r) →
            L (mark m q) (mark m p) (mark m s) → crosses (mark m p) (mark m q) (mark m r) (mark m s) ≡ true → ⊥
        side r s hr hs near up down x =
            let left = tells_true left_of_tells up in
            let split = split_crosses m p q r s p_mark h.marks hr hs left (tells_true right_of_tells down) ∙ x in
            let right = left_mark_lem m q p s h.marks p_mark hs ∙ tells_true left_of_tells down in
            not_both (from_hit m K p q r s (omega arith) (is_cross m K p q r s near right split))
            (f r (omega arith) (left_mark_lem m p q r p_mark h.marks hr ∙ left))

        ends :
            (c d : ℕ) → c < d → IsMark m d → S (pair_number c d) ≡ true →
            crosses (mark m p) (mark m q) (mark m c) (mark m d) ≡ true → ⊥
        ends c d l hd e x =
            let k = edges_yes m S c d e (clean c d l hd e) in
            let hc : IsMark m c = omega arith in
            ⊎_elim
            (λ w. side c d hc hd (near_up m K c d l hd ∙ k) w.up w.down x)
            (λ w. side d c hd hc (near_down m K c d l hd ∙ k) w.up w.down (sym (crosses_ends _ _ _ _) ∙ x))
            (tells_yes (crosses_tells _ _ _ _) x)

        number : (j : ℕ) → j < (plate m).size → S j ≡ true → (plate m).cross (pair_number p q) j ≡ true → ⊥
        number j l e x =
            let n = pair_at_numbered j in
            ends (pair_at j).a (pair_at j).b n.up (number_mark m j l) (ap S n.number ∙ e)
            (sym (cross_at m p q h _ _ n.up) ∙ ap ((plate m).cross (pair_number p q)) n.number ∙ x)

-- ---- going through the marks left of p to q: no edge from a mark that is passed crosses (p, q)
pub record Passed (m : List ℤ) (K : ℕ → ℕ → Bool) (p q : ℕ) (s : Set) : Type 0 where
  pub lefts : (i : ℕ) → i < 128 → has s i ≡ true → left_mark m p q i ≡ true
  pub passed : (i : ℕ) → i < 128 → left_mark m p q i ≡ true → has s i ≡ false → crossed_from m K p q i ≡ false

module _ (m : List ℤ) (K : ℕ → ℕ → Bool) (p q : ℕ) where
  pub pass_start : {s : Set} → s ≡ left_set m p q → Passed m K p q s
  pass_start {s} e = record { lefts = λ i l h. sym (same i l) ∙ h; passed = λ i l t f. not_both (same i l ∙ t) f }
    where
      same : (i : ℕ) → i < 128 → has s i ≡ left_mark m p q i
      same i l = ap (λ (x : Set). has x i) e ∙ has_left m p q i l

  pub pass_next :
      {s r : Set} (k : ℕ) → k ≡ first_to 128 (has s) → r ≡ set_of (without (has s) k) → crossed_from m K p q k ≡ false →
      Passed m K p q s → Passed m K p q r
  pass_next {s} {r} k e w c v = record { lefts = λ i l. left i l (ℕ_discrete i k); passed = λ i l. pass i l (ℕ_discrete i k) }
    where
      off : (i : ℕ) → i < 128 → (i ≡ k → ⊥) → has r i ≡ has s i
      off i l n = has_rest s k e r w i l ∙ without_off (has s) k i n

      left : (i : ℕ) → i < 128 → Dec (i ≡ k) → has r i ≡ true → left_mark m p q i ≡ true
      left i l (yes q) h = not_both h (has_rest s k e r w i l ∙ without_at (has s) k i q)
      left i l (no n) h = v.lefts i l (sym (off i l n) ∙ h)

      pass : (i : ℕ) → i < 128 → Dec (i ≡ k) → left_mark m p q i ≡ true → has r i ≡ false → crossed_from m K p q i ≡ false
      pass i l (yes z) t f = ap (crossed_from m K p q) z ∙ c
      pass i l (no n) t f = v.passed i l t (sym (off i l n) ∙ f)

  pub pass_end :
      {s : Set} {k : ℕ} → k ≡ first_to 128 (has s) → 128 ≤ k → Passed m K p q s → (r : ℕ) → r < 128 → left_mark m p q r ≡ true →
      crossed_from m K p q r ≡ false
  pass_end {s} {k} e l v r u t = v.passed r u t (first_before s k e r (omega arith))
