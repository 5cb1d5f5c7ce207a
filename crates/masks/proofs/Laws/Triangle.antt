-- Rule 6 by left sets. A mark that is strictly left of all three sides of a triangle that turns left is strictly inside it, and no mark
-- is strictly right of all three: the three areas at the mark add up to the triangle's. Assumes nothing.
use mathlib.Core.Path.{◌≡◌, refl, ap, ◌∙◌}
use mathlib.Core.Bool.{Bool, true, false, not, cond}
use mathlib.Core.List.{List, [], ◌∷◌}
use Prim.Native.Nat.{ℕ}
use lib.IntN.{ℤ}
use Rattle.plane.specs.declared.marks.Point.{Point}
use Rattle.plane.specs.Numbers.{all_to}
use Rattle.plane.specs.Marks.{count, mark, IsMark, Plate}
use Rattle.plane.specs.Side.{left_of, right_of}
use Rattle.plane.specs.Triangle.{inside, outside, hollow}
use Rattle.plane.proofs.Whole.Order.{add_pos, pos_eq}
use Rattle.plane.proofs.Whole.Points.{D, ◌⊕◌, geo}
use Rattle.plane.proofs.Laws.Tells.{tells_yes}
use Rattle.plane.proofs.Laws.Side.{L, weak, clash, left_of_tells, right_of_tells}
use Rattle.sets.specs.declared.Set.{Set}
use Rattle.sets.specs.Sets.{set_of, has, lacks, none, both}
use Rattle.sides.specs.Sides.{left_mark, left_set}
use Rattle.masks.specs.Table.{in_three, none_left}
use Rattle.sets.proofs.Laws.Numbers.{all_same, all_short}
use Rattle.sets.proofs.Laws.Sets.{both_sets, none-set}
use Rattle.sides.proofs.Laws.{left_right, left_mark_lem, left_past}

-- ---- the test on three left sets
module _ (m : List ℤ) (p q r : ℕ) where
  pub none_three :
      {x y z u v : Set} {b : Bool} → x ≡ left_set m p q → y ≡ left_set m q r → z ≡ left_set m r p → u ≡ set_of (both (has x) (has y)) → v ≡ set_of (both (has u) (has z)) → b ≡ none v →
      b ≡ none_left m p q r
  unfolding left_set none_left
  none_three ex ey ez eu ev eb =
      eb
      ∙ ap none
      (ev
      ∙ (λ i. set_of (both (has ((eu ∙ (λ j. set_of (both (has (ex j)) (has (ey j)))) ∙ both_sets (left_mark m p q) (left_mark m q r)) i)) (has (ez i))))
      ∙ both_sets (both (left_mark m p q) (left_mark m q r)) (left_mark m r p))
      ∙ none-set (in_three m p q r)

-- ---- what it says of the triangle
-- the triangle turns left: nothing is right of all three sides
not_all_right : {p q r k : Point} → L p q r → L q p k → L r q k → L p r k → ⊥
not_all_right {p} {q} {r} {k} h a b c =
    clash h (weak (record { l = pos_eq (add_pos (add_pos a.l b.l) c.l) (geo (p ∷ q ∷ r ∷ k ∷ []) (D 1 0 3 ⊕ D 2 1 3 ⊕ D 0 2 3) (D 1 0 2) tt) }))

by_left : (l₁ l₂ l₃ r₁ r₂ r₃ : Bool) → (r₁ ≡ true → r₂ ≡ true → r₃ ≡ true → ⊥) →
    cond (cond l₁ l₂ false) l₃ false ≡ cond l₁ (cond l₂ l₃ false) (cond r₁ (cond r₂ r₃ false) false)
by_left true l₂ l₃ r₁ r₂ r₃ n = refl
by_left false l₂ l₃ true true true n = absurd (n refl refl refl)
by_left false l₂ l₃ true true false n = refl
by_left false l₂ l₃ true false r₃ n = refl
by_left false l₂ l₃ false r₂ r₃ n = refl

by_right : (l₁ l₂ l₃ r₁ r₂ r₃ : Bool) → (l₁ ≡ true → l₂ ≡ true → l₃ ≡ true → ⊥) → (l₁ ≡ true → r₁ ≡ true → ⊥) →
    cond (cond r₁ r₃ false) r₂ false ≡ cond l₁ (cond l₂ l₃ false) (cond r₁ (cond r₂ r₃ false) false)
by_right true l₂ l₃ true r₂ r₃ n d = absurd (d refl refl)
by_right true true true false r₂ r₃ n d = absurd (n refl refl refl)
by_right true true false false r₂ r₃ n d = refl
by_right true false l₃ false r₂ r₃ n d = refl
by_right false l₂ l₃ false r₂ r₃ n d = refl
by_right false l₂ l₃ true true true n d = refl
by_right false l₂ l₃ true true false n d = refl
by_right false l₂ l₃ true false true n d = refl
by_right false l₂ l₃ true false false n d = refl

module _ (p q r k : Point) where
  inside_left : L p q r → cond (cond (left_of p q k) (left_of q r k) false) (left_of r p k) false ≡ inside p q r k
  unfolding inside
  inside_left h =
      by_left (left_of p q k) (left_of q r k) (left_of r p k) (right_of p q k) (right_of q r k) (right_of r p k)
      (λ a b c. not_all_right h (tells_yes right_of_tells a) (tells_yes right_of_tells b) (tells_yes right_of_tells c))

  inside_right : L q p r → cond (cond (right_of p q k) (right_of r p k) false) (right_of q r k) false ≡ inside p q r k
  unfolding inside
  inside_right h =
      by_right (left_of p q k) (left_of q r k) (left_of r p k) (right_of p q k) (right_of q r k) (right_of r p k)
      (λ a b c. not_all_right h (tells_yes left_of_tells a) (tells_yes left_of_tells c) (tells_yes left_of_tells b))
      (λ a b. clash (tells_yes left_of_tells a) (weak (tells_yes right_of_tells b)))

module _ (m : List ℤ) (p q r : ℕ) (plate : Plate m) where
  -- a number that is no mark's is in no left set
  past : (a b c : ℕ) (g : ℕ → Bool) → ((k : ℕ) → IsMark m k → not (in_three m a b c k) ≡ g k) → none_left m a b c ≡ all_to (count m) g
  unfolding none_left lacks both
  past a b c g h =
      all_short (lacks (in_three m a b c)) (count m) 128 plate.few
      (λ k l u. ap (λ (t : Bool). not (cond (cond t (left_mark m b c k) false) (left_mark m c a k) false)) (left_past m a b k l))
      ∙ all_same (lacks (in_three m a b c)) g (count m) h

  module _ (hp : IsMark m p) (hq : IsMark m q) (hr : IsMark m r) where
    -- r strictly left of p to q
    pub hollow_left : left_of (mark m p) (mark m q) (mark m r) ≡ true → none_left m p q r ≡ hollow m p q r
    unfolding hollow outside both
    hollow_left t =
        past p q r (outside m p q r)
        (λ k hk.
        ap not
        ((λ i. cond (cond (left_mark_lem m p q k hp hq hk i) (left_mark_lem m q r k hq hr hk i) false) (left_mark_lem m r p k hr hp hk i) false)
        ∙ inside_left (mark m p) (mark m q) (mark m r) (mark m k) (tells_yes left_of_tells t)))

    -- r strictly right of p to q
    pub hollow_right : right_of (mark m p) (mark m q) (mark m r) ≡ true → none_left m q p r ≡ hollow m p q r
    unfolding hollow outside both
    hollow_right t =
        past q p r (outside m p q r)
        (λ k hk.
        ap not
        ((λ i.
        cond
        (cond ((left_mark_lem m q p k hq hp hk ∙ left_right _ _ _) i) ((left_mark_lem m p r k hp hr hk ∙ left_right _ _ _) i) false)
        ((left_mark_lem m r q k hr hq hk ∙ left_right _ _ _) i) false)
        ∙ inside_right (mark m p) (mark m q) (mark m r) (mark m k) (tells_yes right_of_tells t)))
