-- Rule 7 by left sets. A candidate's sides are empty edges, so that its triangle with pq is empty if no mark lies inside; left sets
-- tell that, and whether pq and rs cross. A mark that is no candidate is no apex. Assumes nothing.
use mathlib.Core.Path.{◌≡◌, refl, sym, ap, ap₂, ◌∙◌}
use mathlib.Core.Bool.{Bool, true, false, cond}
use mathlib.Core.List.{List}
use Prim.Native.Nat.{ℕ, ◌<◌}
use native.Mathlib.Omega.{arith}
use lib.Dec.{ltb}
use lib.IntN.{ℤ}
use lib.Signed.{le_z}
use mir.Syntax.{w32}
use mir.Val.{SFits}
use Rattle.plane.specs.declared.marks.Point.{Point}
use Rattle.plane.specs.Marks.{count, mark, IsMark, Plate}
use Rattle.plane.specs.Side.{left_of, right_of, on_line}
use Rattle.plane.specs.Edge.{empty_edge}
use Rattle.plane.specs.Triangle.{hollow, empty_triangle}
use Rattle.plane.specs.Weight.{weight}
use Rattle.plane.proofs.Laws.Tells.{tells_yes, tells_false, cond_yes, cond_no}
use Rattle.plane.proofs.Laws.Side.{off, zswap, left_of_tells, right_of_tells, on_line_tells}
use Rattle.plane.proofs.Laws.Bounds.{rd, back}
use Rattle.sets.specs.declared.Set.{Set}
use Rattle.sets.specs.Sets.{set_of, has}
use Rattle.masks.specs.Table.{none_left, split_mark}
use Rattle.sets.proofs.Laws.Sets.{has-set}
use Rattle.sides.proofs.Laws.{left_right}
use Rattle.masks.proofs.Laws.Triangle.{hollow_left, hollow_right}
use Rattle.masks.proofs.Laws.Cross.{split_crosses}
use Rattle.striking.proofs.Tests as tests
use Rattle.striking.proofs.Tests.{not_both, is_false, both_first, both_second}
use Rattle.std.specs.Prelude.{None}
use Rattle.certificates.specs.Certificate.{joined, holds_against, apex, left_apex, right_apex, fits, pick_fitting, pick_right, found}
use Rattle.certificates.specs.Plate.{pairs_of, edges_of}
use Rattle.certificates.specs.Rows.{candidate, right_candidate, goes_with}
use Rattle.certificates.proofs.Rule7.{lighter, apex_is, left_apart}
use Rattle.certificates.proofs.First.{pick_none}
use Rattle.plane.proofs.Laws.Edge.{empty_edge_swap}
use Rattle.certificates.proofs.Candidates.{Candidate, candidate_is, is_candidate}

-- a side that belongs to the set is an empty edge
joined_empty : (m : List ℤ) (S : ℕ → Bool) (p i : ℕ) → joined (edges_of m S) p i ≡ true → empty_edge m p i ≡ true
unfolding joined edges_of
joined_empty m S p i h = go (ltb p i) h
  where
    go : (t : Bool) → cond t (edges_of m S p i) (edges_of m S i p) ≡ true → empty_edge m p i ≡ true
    go true e = both_second (pairs_of S p i) (empty_edge m p i) e
    go false e = empty_edge_swap m p i ∙ both_second (pairs_of S i p) (empty_edge m i p) e

swap_tests : (a b : Bool) → cond a b false ≡ cond b a false
swap_tests true true = refl
swap_tests true false = refl
swap_tests false true = refl
swap_tests false false = refl

-- ---- the two apexes
-- what is given of the edge (p, q)
pub record Given (m : List ℤ) (p q : ℕ) : Type 0 where
  pub plate : Plate m
  pub p_mark : IsMark m p
  pub q_mark : IsMark m q
  pub empty : empty_edge m p q ≡ true

module _ {m : List ℤ} {p q : ℕ} (given : Given m p q) where
  pub p_small : p < 128
  p_small = let few = given.plate.few in let l = given.p_mark in omega arith

  pub q_small : q < 128
  q_small = let few = given.plate.few in let l = given.q_mark in omega arith

module _ (m : List ℤ) (S : ℕ → Bool) (p q : ℕ) (given : Given m p q) where
  abbrev K : ℕ → ℕ → Bool
  K = edges_of m S

  abbrev hp : IsMark m p
  hp = given.p_mark

  abbrev hq : IsMark m q
  hq = given.q_mark

  -- off the line of p and q, with sides of the set
  apex_hollow :
      (r : ℕ) → on_line (mark m p) (mark m q) (mark m r) ≡ false → joined K p r ≡ true → joined K q r ≡ true →
      apex m K p q r ≡ hollow m p q r
  unfolding apex empty_triangle
  apex_hollow r n pr qr =
      cond_yes _ _ pr ∙ cond_yes _ _ qr ∙ cond_no _ _ n ∙ cond_yes _ _ given.empty ∙ cond_yes _ _ (joined_empty m S q r qr)
      ∙ cond_yes _ _ (empty_edge_swap m r p ∙ joined_empty m S p r pr)

  left_apex_lem : (r : ℕ) → Candidate m K p q p q r → left_apex m K p q r ≡ none_left m p q r
  unfolding left_apex
  left_apex_lem r c =
      cond_yes _ _ c.left
      ∙ apex_hollow r (tells_false on_line_tells (λ z. off (tells_yes left_of_tells c.left) z)) c.p_in c.q_in
      ∙ sym (hollow_left m p q r given.plate hp hq c.marked c.left)

  right_of_lem : (s : ℕ) → Candidate m K p q q p s → right_of (mark m p) (mark m q) (mark m s) ≡ true
  right_of_lem s c = sym (left_right (mark m p) (mark m q) (mark m s)) ∙ c.left

  right_apex_lem : (s : ℕ) → Candidate m K p q q p s → right_apex m K p q s ≡ none_left m q p s
  unfolding right_apex
  right_apex_lem s c =
      cond_yes _ _ (right_of_lem s c)
      ∙ apex_hollow s (tells_false on_line_tells (λ z. off (tells_yes left_of_tells c.left) (zswap z))) c.p_in c.q_in
      ∙ sym (hollow_right m p q s given.plate hp hq c.marked (right_of_lem s c))

  -- what is an apex is a candidate
  left_candidate : (r : ℕ) → IsMark m r → left_apex m K p q r ≡ true → candidate m K p q p q r ≡ true
  unfolding left_apex
  left_candidate r hr h =
      let l = both_first (left_of (mark m p) (mark m q) (mark m r)) _ h in
      let j = apex_is m K p q r (both_second (left_of (mark m p) (mark m q) (mark m r)) _ h) in
      let d = left_apart m p q r (tells_yes left_of_tells l) in
      is_candidate m K p q p q r hp hq hp hq hr d.0 d.1 j.0 j.1 l

  right_candidate_lem : (s : ℕ) → IsMark m s → right_apex m K p q s ≡ true → candidate m K p q q p s ≡ true
  unfolding right_apex
  right_candidate_lem s hs h =
      let l = both_first (right_of (mark m p) (mark m q) (mark m s)) _ h in
      let j = apex_is m K p q s (both_second (right_of (mark m p) (mark m q) (mark m s)) _ h) in
      let d = left_apart m q p s (tells_yes right_of_tells l) in
      is_candidate m K p q q p s hq hp hp hq hs d.1 d.0 j.0 j.1 (left_right _ _ _ ∙ l)

  -- ---- what is picked
  pick_no : (r s : ℕ) → fits m K p q r s ≡ false → pick_fitting m K p q r s ≡ None
  unfolding pick_fitting
  pick_no r s e = cond_no _ _ e

  pick_yes : (r s : ℕ) → fits m K p q r s ≡ true → pick_fitting m K p q r s ≡ found r s
  unfolding pick_fitting
  pick_yes r s e = cond_yes _ _ e

  -- nothing with a mark that is no candidate on the left
  pub left_miss : (r : ℕ) → IsMark m r → candidate m K p q p q r ≡ false → pick_right m K p q r ≡ None
  unfolding pick_right fits
  left_miss r hr e =
      pick_none (pick_fitting m K p q r) (count m)
      (λ s l. pick_no r s (cond_no _ _ (is_false (left_apex m K p q r) (λ h. not_both (left_candidate r hr h) e))))

  module _ (r : ℕ) (e : candidate m K p q p q r ≡ true) where
    left_one : Candidate m K p q p q r
    left_one = candidate_is m K p q p q r hp hq e

    -- nor with one that is none on the right
    pub right_miss : (s : ℕ) → IsMark m s → right_candidate m K p q r s ≡ false → pick_fitting m K p q r s ≡ None
    unfolding fits right_candidate
    right_miss s hs n =
        pick_no r s
        (is_false (fits m K p q r s)
        (λ h.
        not_both
        (tests.both (sym (left_apex_lem r left_one) ∙ both_first (left_apex m K p q r) _ h)
        (right_candidate_lem s hs (both_first (right_apex m K p q s) _ (both_second (left_apex m K p q r) _ h))))
        n))

    -- with candidates on both sides the sets tell what fits
    module _ (s : ℕ) (n : right_candidate m K p q r s ≡ true) where
      right_one : Candidate m K p q q p s
      unfolding right_candidate
      right_one = candidate_is m K p q q p s hq hp (both_second (none_left m p q r) _ n)

      goes_with_lem : goes_with m p q r s ≡ fits m K p q r s
      unfolding fits goes_with holds_against right_candidate
      goes_with_lem =
          ap (λ (t : Bool). cond (cond t (lighter m p q r s) true) (none_left m q p s) false)
          (split_crosses m p q r s hp hq left_one.marked right_one.marked left_one.left (right_of_lem s right_one))
          ∙ swap_tests _ (none_left m q p s)
          ∙ ap (λ (t : Bool). cond t (holds_against m p q r s) false) (sym (right_apex_lem s right_one))
          ∙ sym (cond_yes _ _ (left_apex_lem r left_one ∙ both_first (none_left m p q r) _ n))

      pub match_no : goes_with m p q r s ≡ false → pick_fitting m K p q r s ≡ None
      match_no h = pick_no r s (sym goes_with_lem ∙ h)

      pub match_yes : goes_with m p q r s ≡ true → pick_fitting m K p q r s ≡ found r s
      match_yes h = pick_yes r s (sym goes_with_lem ∙ h)

-- ---- the tie rule and the marks inside pqs, as they are asked
module _ (m : List ℤ) (p q r s : ℕ) where
  -- as the machine compares them
  pub compared :
      {a b c d : Point} {u v : ℤ} → a ≡ mark m p → b ≡ mark m q → c ≡ mark m r → d ≡ mark m s → SFits w32 u → SFits w32 v →
      u ≡ weight a b → v ≡ weight c d → le_z (rd u) (rd v) ≡ lighter m p q r s
  compared ea eb ec ed fu fv eu ev = ap₂ le_z (back fu ∙ eu ∙ ap₂ weight ea eb) (back fv ∙ ev ∙ ap₂ weight ec ed)

  pub across_has : {x : Set} {b : Bool} → s < 128 → x ≡ set_of (split_mark m p q r) → b ≡ has x s → split_mark m p q r s ≡ b
  across_has l e h = sym (has-set (split_mark m p q r) s l) ∙ ap (λ (y : Set). has y s) (sym e) ∙ sym h

  pub goes_light : lighter m p q r s ≡ true → none_left m q p s ≡ goes_with m p q r s
  unfolding goes_with
  goes_light e = sym (cond_yes _ _ (ap (λ (t : Bool). cond (split_mark m p q r s) t true) e ∙ go (split_mark m p q r s)))
    where
      go : (t : Bool) → cond t true true ≡ true
      go true = refl
      go false = refl

  pub goes_across : lighter m p q r s ≡ false → split_mark m p q r s ≡ true → false ≡ goes_with m p q r s
  unfolding goes_with
  goes_across e h = sym (cond_no _ _ (cond_yes _ _ h ∙ e))

  pub goes_apart : split_mark m p q r s ≡ false → none_left m q p s ≡ goes_with m p q r s
  unfolding goes_with
  goes_apart h = sym (cond_yes _ _ (cond_no _ _ h))
