-- Laws of a loop over all pairs, in pair order, beside a list with an item for each: after k turns the first k of both have come, and what
-- is left is the rest of both. Assumes nothing.
use mathlib.Core.Path.{◌≡◌, sym, ap, ◌∙◌}
use mathlib.Core.List.{List, ◌∷◌}
use Prim.Native.Nat.{ℕ, ◌+◌, ◌≤◌, ◌<◌}
use native.Mathlib.Nat.{zero-add}
use native.Mathlib.Omega.{arith}
use lib.ListN.{length, get_or, drop, length-drop}
use Rattle.std.proofs.lemmas.List.{drop_more}
use Rattle.pairs.specs.declared.Pair.{Pair}
use Rattle.pairs.specs.Pairs.{pair_count, pair_at, all_pairs}
use Rattle.pairs.proofs.Laws.{pairs_from_length, pairs_from_at}

pub all_pairs_length : (n : ℕ) → length (all_pairs n) ≡ pair_count n
all_pairs_length n = pairs_from_length 0 (pair_count n)

-- a turn: item k is x
pub record Turn {X : Type 0} (all : List X) (k : ℕ) (x : X) (xs : List X) : Type 0 where
  pub below : k < length all
  pub item : (d : X) → x ≡ get_or all k d
  pub left : xs ≡ drop (k + 1) all

pub turn_of : {X : Type 0} (all : List X) (k : ℕ) {x : X} {xs : List X} → drop k all ≡ x ∷ xs → Turn all k x xs
turn_of {X} all k {x} {xs} h = record { below = below; item = λ d. (let e = opened d in cc); left = let e = opened x in cc }
  where
    below : k < length all
    below = let e = ap length h in omega (arith, length-drop k all)

    opened : (d : X) → get_or all k d ∷ drop (k + 1) all ≡ x ∷ xs
    opened d = sym (drop_more all k d below) ∙ h

-- a turn at a pair
pub pair_is : (n k : ℕ) {p : Pair} {ps : List Pair} → Turn (all_pairs n) k p ps → p ≡ pair_at k
pair_is n k {p} t = t.item p ∙ pairs_from_at 0 (pair_count n) k p (omega (arith, t.below, all_pairs_length n)) ∙ ap pair_at (zero-add k)

-- the last turn was the last pair's
pub none_left : {X : Type 0} (all : List X) (k : ℕ) → length (drop k all) ≡ 0 → length all ≤ k
none_left all k h = omega (arith, length-drop k all)
