-- Rule 5's laws: what the tests tell; a hull edge is crossed by nothing; straight lines. Assumes nothing.
use mathlib.Core.Path.{◌≡◌, refl, sym, ap, ◌∙◌}
use mathlib.Core.Bool.{Bool, true, false, not, cond}
use mathlib.Core.List.{List}
use mathlib.Core.Logic.{◌⊎◌, inl, inr}
use Prim.Native.Nat.{ℕ, ◌<◌}
use lib.IntN.{ℤ}
use Rattle.plane.specs.declared.hull.Kind.TheVariants.{Blocked, Hull, Inner}
use Rattle.plane.specs.Marks.{count, mark, IsMark, every_mark}
use Rattle.plane.specs.Edge.{empty_edge}
use Rattle.plane.specs.Cross.{crosses}
use Rattle.plane.specs.Hull.{not_left, not_right, one_sided, hull_edge, inner_edge, kind_of}
use Rattle.plane.proofs.Laws.Tells.{Tells, tells_map, tells_and, tells_or, tells_not, tells_all, tells_true, tells_false, tells_yes, tells_same, cond_yes, cond_no, not_not}
use Rattle.plane.proofs.Laws.Numbers.{all_miss}
use Rattle.plane.proofs.Laws.Side.{L, N, Z, Half, over, under, half, clash, off, left_of_tells, right_of_tells}
use Rattle.plane.proofs.Laws.Edge.{Empty, empty_edge_tells, empty_swap}
use Rattle.plane.proofs.Laws.Cross.{Crossing, crosses_tells}
use Rattle.plane.proofs.Laws.Line.{Along, onward, backward, along?, along_side}

-- ---- the kind of a pair, from what a pass of the marks has found
module _ (m : List ℤ) (a b : ℕ) where
  pub kind_blocked : empty_edge m a b ≡ false → kind_of m a b ≡ Blocked
  unfolding kind_of
  kind_blocked e = cond_no _ _ e

  pub kind_left : empty_edge m a b ≡ true → every_mark m (not_left m a b) ≡ true → kind_of m a b ≡ Hull
  unfolding kind_of one_sided
  kind_left e l = cond_yes _ _ e ∙ cond_yes _ _ (cond_yes _ _ l)

  pub kind_right : empty_edge m a b ≡ true → every_mark m (not_right m a b) ≡ true → kind_of m a b ≡ Hull
  unfolding kind_of one_sided
  kind_right e r = cond_yes _ _ e ∙ cond_yes _ _ (go (every_mark m (not_left m a b)))
    where
      go : (t : Bool) → cond t true (every_mark m (not_right m a b)) ≡ true
      go true = refl
      go false = r

  pub kind_inner : empty_edge m a b ≡ true → every_mark m (not_left m a b) ≡ false → every_mark m (not_right m a b) ≡ false → kind_of m a b ≡ Inner
  unfolding kind_of one_sided
  kind_inner e l r = cond_yes _ _ e ∙ cond_no _ _ (cond_no _ _ l ∙ r)

-- ---- rule 5 as it is written
pub data OneSided (m : List ℤ) (a b : ℕ) : Type 0 where
  none_left : ((k : ℕ) → IsMark m k → ¬ L (mark m a) (mark m b) (mark m k)) → OneSided m a b
  none_right : ((k : ℕ) → IsMark m k → ¬ L (mark m b) (mark m a) (mark m k)) → OneSided m a b

pub one_sided_tells : (m : List ℤ) (a b : ℕ) → Tells (one_sided m a b) (OneSided m a b)
unfolding one_sided not_left not_right
one_sided_tells m a b =
    tells_map to from
    (tells_or
    (tells_all (count m) (not_left m a b) (λ k h. ¬ L (mark m a) (mark m b) (mark m k)) (λ k h. tells_not left_of_tells))
    (tells_all (count m) (not_right m a b) (λ k h. ¬ L (mark m b) (mark m a) (mark m k)) (λ k h. tells_not right_of_tells)))
  where
    Either : Type 0
    Either = ((k : ℕ) → IsMark m k → ¬ L (mark m a) (mark m b) (mark m k)) ⊎ ((k : ℕ) → IsMark m k → ¬ L (mark m b) (mark m a) (mark m k))

    to : Either → OneSided m a b
    to (inl h) = none_left h
    to (inr h) = none_right h

    from : OneSided m a b → Either
    from (none_left h) = inl h
    from (none_right h) = inr h

pub hull_edge_tells : (m : List ℤ) (a b : ℕ) → Tells (hull_edge m a b) (Empty m a b × OneSided m a b)
unfolding hull_edge
hull_edge_tells m a b = tells_and (empty_edge_tells m a b) (one_sided_tells m a b)

pub inner_edge_tells : (m : List ℤ) (a b : ℕ) → Tells (inner_edge m a b) (Empty m a b × (¬ OneSided m a b))
unfolding inner_edge
inner_edge_tells m a b = tells_and (empty_edge_tells m a b) (tells_not (one_sided_tells m a b))

-- every empty edge is one of the two, and none is both
pub inner_or_hull : (m : List ℤ) (a b : ℕ) → empty_edge m a b ≡ true → inner_edge m a b ≡ not (hull_edge m a b)
unfolding inner_edge hull_edge
inner_or_hull m a b e = cond_yes _ _ e ∙ sym (ap not (cond_yes _ _ e))

-- an inner edge has a mark strictly on either side
pub record TwoSided (m : List ℤ) (a b : ℕ) : Type 0 where
  pub above : ℕ
  pub is_above_lem : IsMark m above
  pub left : L (mark m a) (mark m b) (mark m above)
  pub below : ℕ
  pub is_below : IsMark m below
  pub right : L (mark m b) (mark m a) (mark m below)

pub inner_two_sided : (m : List ℤ) (a b : ℕ) → inner_edge m a b ≡ true → TwoSided m a b
unfolding inner_edge one_sided not_left not_right
inner_two_sided m a b e = go (every_mark m (not_left m a b)) (every_mark m (not_right m a b)) refl refl (tells_yes (inner_edge_tells m a b) e).1
  where
    up : (k : ℕ) × (k < count m) × (not_left m a b k ≡ false) → (k : ℕ) × (k < count m) × (not_right m a b k ≡ false) → TwoSided m a b
    up x y = record {
      above = x.0;
      is_above_lem = x.1;
      left = tells_yes left_of_tells (sym (not_not _) ∙ ap not x.2);
      below = y.0;
      is_below = y.1;
      right = tells_yes right_of_tells (sym (not_not _) ∙ ap not y.2);
    }

    go : (s t : Bool) → every_mark m (not_left m a b) ≡ s → every_mark m (not_right m a b) ≡ t → ¬ OneSided m a b → TwoSided m a b
    go true t p q n = absurd (n (tells_yes (one_sided_tells m a b) (cond_yes _ _ p)))
    go false true p q n = absurd (n (tells_yes (one_sided_tells m a b) (cond_no _ _ p ∙ q)))
    go false false p q n = up (all_miss (not_left m a b) (count m) p) (all_miss (not_right m a b) (count m) q)

-- ---- a hull edge is crossed by nothing
pub hull_uncrossed : (m : List ℤ) (a b c d : ℕ) → hull_edge m a b ≡ true → IsMark m c → IsMark m d → crosses (mark m a) (mark m b) (mark m c) (mark m d) ≡ false
hull_uncrossed m a b c d h p q = tells_false (crosses_tells _ _ _ _) (λ x. go (tells_yes (hull_edge_tells m a b) h).1 x)
  where
    go : OneSided m a b → Crossing (mark m a) (mark m b) (mark m c) (mark m d) → ⊥
    go (none_left n) (inl x) = n c p x.up
    go (none_left n) (inr x) = n d q x.up
    go (none_right n) (inl x) = n d q x.down
    go (none_right n) (inr x) = n c p x.down

-- ---- the same from either end
one_sided_swap : {m : List ℤ} {a b : ℕ} → OneSided m a b → OneSided m b a
one_sided_swap (none_left h) = none_right h
one_sided_swap (none_right h) = none_left h

pub hull_edge_swap : (m : List ℤ) (a b : ℕ) → hull_edge m a b ≡ hull_edge m b a
hull_edge_swap m a b = tells_same (hull_edge_tells m a b) (hull_edge_tells m b a) (λ h. (empty_swap h.0, one_sided_swap h.1)) (λ h. (empty_swap h.0, one_sided_swap h.1))

pub inner_edge_swap : (m : List ℤ) (a b : ℕ) → inner_edge m a b ≡ inner_edge m b a
inner_edge_swap m a b =
    tells_same (inner_edge_tells m a b) (inner_edge_tells m b a)
    (λ h. (empty_swap h.0, λ o. h.1 (one_sided_swap o))) (λ h. (empty_swap h.0, λ o. h.1 (one_sided_swap o)))

-- ---- straight lines
-- if all marks lie on one line, every empty edge is a hull edge
pub line_hull : (m : List ℤ) (a b : ℕ) → ((k : ℕ) → IsMark m k → Z (mark m a) (mark m b) (mark m k)) → empty_edge m a b ≡ true → hull_edge m a b ≡ true
line_hull m a b z e = tells_true (hull_edge_tells m a b) (tells_yes (empty_edge_tells m a b) e, none_left (λ k h l. off l (z k h)))

-- marks on a side of the plate split it into hull edges: if no mark lies strictly left of a to b, an empty edge of the line is a hull edge
pub side_hull :
    (m : List ℤ) (a b c d : ℕ) → ¬ (mark m a ≡ mark m b) → ((k : ℕ) → IsMark m k → ¬ L (mark m a) (mark m b) (mark m k)) →
    Z (mark m a) (mark m b) (mark m c) → Z (mark m a) (mark m b) (mark m d) → empty_edge m c d ≡ true → hull_edge m c d ≡ true
side_hull m a b c d x n zc zd e = tells_true (hull_edge_tells m c d) (tells_yes (empty_edge_tells m c d) e, go (along? (mark m a) (mark m b) (mark m c) (mark m d)))
  where
    right : (k : ℕ) → IsMark m k → N (mark m b) (mark m a) (mark m k)
    right k h = split half
      where
        split : Half (mark m a) (mark m b) (mark m k) → N (mark m b) (mark m a) (mark m k)
        split (over l) = absurd (n k h l)
        split (under w) = w

    go : Along (mark m a) (mark m b) (mark m c) (mark m d) → OneSided m c d
    go (onward u) = none_left (λ k h l. clash l (along_side x u zc zd (right k h)))
    go (backward u) = none_right (λ k h l. clash l (along_side x u zd zc (right k h)))
