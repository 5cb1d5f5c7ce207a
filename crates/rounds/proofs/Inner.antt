-- Rule 5 by the table: an empty edge is inner exactly if it has a left set on either side. Assumes nothing.
use mathlib.Core.Path.{◌≡◌, sym, subst}
use mathlib.Core.Bool.{true, false, not}
use mathlib.Core.List.{List}
use Prim.Native.Nat.{ℕ, ◌<◌, ◌≤◌}
use native.Mathlib.Omega.{arith}
use lib.Dec.{T}
use lib.IntN.{ℤ}
use Rattle.plane.specs.Numbers.{all_to}
use Rattle.plane.specs.Marks.{count, mark, IsMark}
use Rattle.plane.specs.Edge.{empty_edge}
use Rattle.plane.specs.Hull.{inner_edge}
use Rattle.plane.proofs.Laws.Tells.{Tells, tells_map, tells_not, tells_all, tells_true, tells_false, tells_yes, tells_no, tells_same}
use Rattle.plane.proofs.Laws.Side.{L, left_of_tells}
use Rattle.plane.proofs.Laws.Edge.{empty_edge_tells}
use Rattle.plane.proofs.Laws.Hull.{OneSided, none_left, none_right, inner_edge_tells}
use Rattle.sets.specs.Sets.{lacks, none}
use Rattle.sides.specs.Sides.{left_mark, left_set}
use Rattle.sets.proofs.Laws.Sets.{none-set}
use Rattle.sides.proofs.Laws.{Left, left_tells}

module _ (m : List ℤ) (few : count m ≤ 128) where
  -- no mark lies strictly left of a to b
  abbrev Free : ℕ → ℕ → Type 0
  Free a b = (k : ℕ) → IsMark m k → ¬ L (mark m a) (mark m b) (mark m k)

  none_tells : (a b : ℕ) → IsMark m a → IsMark m b → Tells (none (left_set m a b)) (Free a b)
  unfolding left_set lacks
  none_tells a b ha hb =
      tells_map to from
      (record { to = λ t. all.to (subst T (none-set (left_mark m a b)) t); from = λ h. subst T (sym (none-set (left_mark m a b))) (all.from h) })
    where
      all : Tells (all_to 128 (lacks (left_mark m a b))) ((k : ℕ) → k < 128 → ¬ Left m a b k)
      all = tells_all 128 (lacks (left_mark m a b)) (λ k l. ¬ Left m a b k) (λ k l. tells_not (left_tells m a b k))

      to : ((k : ℕ) → k < 128 → ¬ Left m a b k) → Free a b
      to f k h l = f k (omega arith) (record { first = ha; second = hb; third = h; left = tells_true left_of_tells l })

      from : Free a b → (k : ℕ) → k < 128 → ¬ Left m a b k
      from f k l h = f k h.third (tells_yes left_of_tells h.left)

  module _ (a b : ℕ) (ha : IsMark m a) (hb : IsMark m b) where
    pub inner_no : none (left_set m a b) ≡ true → inner_edge m a b ≡ false
    inner_no e = tells_false (inner_edge_tells m a b) (λ h. h.1 (none_left (tells_yes (none_tells a b ha hb) e)))

    pub inner_by : none (left_set m a b) ≡ false → empty_edge m a b ≡ true → inner_edge m a b ≡ not (none (left_set m b a))
    inner_by e f = tells_same (inner_edge_tells m a b) (tells_not (none_tells b a hb ha)) (λ h n. h.1 (none_right n)) (λ n. (tells_yes (empty_edge_tells m a b) f, λ o. split n o))
      where
        split : ¬ Free b a → OneSided m a b → ⊥
        split n (none_left h) = tells_no (none_tells a b ha hb) e h
        split n (none_right h) = n h
