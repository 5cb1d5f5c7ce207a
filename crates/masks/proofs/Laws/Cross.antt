-- Rule 4 by left sets. p lies left of the line from r to i exactly if i lies left of p to r, since the side test keeps its answer when
-- its points rotate; so four left sets tell on which sides of it p and q lie. Assumes nothing.
use mathlib.Core.Path.{◌≡◌, refl, sym, ◌∙◌}
use mathlib.Core.Bool.{Bool, true, false, cond}
use mathlib.Core.List.{List}
use Prim.Native.Nat.{ℕ, ◌<◌}
use lib.IntN.{ℤ}
use Rattle.plane.specs.declared.marks.Point.{Point}
use Rattle.plane.specs.Marks.{mark, IsMark}
use Rattle.plane.specs.Side.{area2, left_of, right_of, opposite}
use Rattle.plane.specs.Cross.{crosses}
use Rattle.plane.proofs.Laws.Tells.{tells_same, tells_yes, cond_yes}
use Rattle.plane.proofs.Laws.Side.{weak, clash, rot, rot², left_of_tells, right_of_tells}
use Rattle.sets.specs.declared.Set.{Set}
use Rattle.sets.specs.Sets.{set_of, has, both, either}
use Rattle.sides.specs.Sides.{is_mark, left_mark, left_set}
use Rattle.masks.specs.Table.{split_mark}
use Rattle.sets.proofs.Laws.Sets.{has-set, set_same, both_sets, either_sets}
use Rattle.sides.proofs.Laws.{is_mark_lem}

-- ---- the side test with its points rotated
left_turn : (r i p : Point) → left_of p r i ≡ left_of r i p
left_turn r i p = tells_same left_of_tells left_of_tells rot rot²

right_turn : (r i p : Point) → left_of r p i ≡ right_of r i p
right_turn r i p = tells_same left_of_tells right_of_tells rot² rot

-- ---- four left sets
fork : (a b c d : Bool) → (a ≡ true → c ≡ true → ⊥) → cond (cond a b false) true (cond c d false) ≡ cond a b (cond c d false)
fork true true c d n = refl
fork true false true d n = absurd (n refl refl)
fork true false false d n = refl
fork false b c d n = refl

four_sides :
    (p q r i : Point) →
    cond (cond (left_of p r i) (left_of r q i) false) true (cond (left_of r p i) (left_of q r i) false) ≡
    opposite (area2 r i p) (area2 r i q)
unfolding opposite
four_sides p q r i =
    fork (left_of p r i) (left_of r q i) (left_of r p i) (left_of q r i) (λ a c. clash (tells_yes left_of_tells a) (weak (tells_yes left_of_tells c)))
    ∙ (λ t. cond (left_turn r i p t) (right_turn r i q t) (cond (right_turn r i p t) (left_turn r i q t) false))

-- of four numbers, of which each is a mark or not
all_marks : (P Q R I : Bool) (a b c d o : Bool) → cond (cond a b false) true (cond c d false) ≡ o →
    cond (cond (cond P (cond R (cond I a false) false) false) (cond R (cond Q (cond I b false) false) false) false) true
    (cond (cond R (cond P (cond I c false) false) false) (cond Q (cond R (cond I d false) false) false) false)
    ≡ cond P (cond Q (cond R (cond I o false) false) false) false
all_marks true true true true a b c d o e = e
all_marks true true true false a b c d o e = refl
all_marks true true false I a b c d o e = refl
all_marks true false true true a b c d o e = lone a c
  where
    lone : (x y : Bool) → cond (cond x false false) true (cond y false false) ≡ false
    lone true true = refl
    lone true false = refl
    lone false true = refl
    lone false false = refl
all_marks true false true false a b c d o e = refl
all_marks true false false I a b c d o e = refl
all_marks false Q true I a b c d o e = refl
all_marks false Q false I a b c d o e = refl

module _ (m : List ℤ) (p q r : ℕ) where
  split_mark_lem : (i : ℕ) → either (both (left_mark m p r) (left_mark m r q)) (both (left_mark m r p) (left_mark m q r)) i ≡ split_mark m p q r i
  unfolding either both left_mark split_mark
  split_mark_lem i = all_marks (is_mark m p) (is_mark m q) (is_mark m r) (is_mark m i) _ _ _ _ _ (four_sides (mark m p) (mark m q) (mark m r) (mark m i))

  pub split_four :
      {x y z w u v s : Set} → x ≡ left_set m p r → y ≡ left_set m r q → z ≡ left_set m r p → w ≡ left_set m q r →
      u ≡ set_of (both (has x) (has y)) → v ≡ set_of (both (has z) (has w)) → s ≡ set_of (either (has u) (has v)) → s ≡ set_of (split_mark m p q r)
  unfolding left_set
  split_four ex ey ez ew eu ev es =
      es
      ∙ (λ i. set_of (either
      (has ((eu ∙ (λ j. set_of (both (has (ex j)) (has (ey j)))) ∙ both_sets (left_mark m p r) (left_mark m r q)) i))
      (has ((ev ∙ (λ j. set_of (both (has (ez j)) (has (ew j)))) ∙ both_sets (left_mark m r p) (left_mark m q r)) i))))
      ∙ either_sets (both (left_mark m p r) (left_mark m r q)) (both (left_mark m r p) (left_mark m q r))
      ∙ set_same (either (both (left_mark m p r) (left_mark m r q)) (both (left_mark m r p) (left_mark m q r))) (split_mark m p q r) (λ i l. split_mark_lem i)

  -- ---- what they say of rule 4: r strictly left and s strictly right of p to q
  module _ (s : ℕ) (hp : IsMark m p) (hq : IsMark m q) (hr : IsMark m r) (hs : IsMark m s) where
    pub split_crosses :
        left_of (mark m p) (mark m q) (mark m r) ≡ true → right_of (mark m p) (mark m q) (mark m s) ≡ true →
        split_mark m p q r s ≡ crosses (mark m p) (mark m q) (mark m r) (mark m s)
    unfolding split_mark crosses opposite
    split_crosses l t =
        cond_yes _ _ (is_mark_lem m p hp) ∙ cond_yes _ _ (is_mark_lem m q hq) ∙ cond_yes _ _ (is_mark_lem m r hr) ∙ cond_yes _ _ (is_mark_lem m s hs)
        ∙ sym (cond_yes _ _ (cond_yes _ _ l ∙ t))

    pub has_crosses :
        s < 128 → left_of (mark m p) (mark m q) (mark m r) ≡ true → right_of (mark m p) (mark m q) (mark m s) ≡ true →
        has (set_of (split_mark m p q r)) s ≡ crosses (mark m p) (mark m q) (mark m r) (mark m s)
    has_crosses h l t = has-set (split_mark m p q r) s h ∙ split_crosses l t
