-- A loop over the pairs of a plate: the pair of a turn, and the end. Assumes nothing.
use mathlib.Core.Path.{◌≡◌, sym, ap, ◌∙◌}
use mathlib.Core.List.{List, [], ◌∷◌}
use Prim.Native.Nat.{ℕ, ◌+◌, ◌≤◌, ◌<◌}
use native.Mathlib.Omega.{arith}
use lib.IntN.{ℤ}
use lib.ListN.{length, drop}
use Rattle.plane.specs.Marks.{count}
use Rattle.pairs.specs.declared.Pair.{Pair}
use Rattle.pairs.specs.Pairs.{pair_count, all_pairs}
use Rattle.pairs.proofs.Turns.{turn_of, pair_is, none_left, all_pairs_length}
use Rattle.certificates.specs.Rule9.{IsPair}
use Rattle.certificates.proofs.Places.{Place, place}

pub record PairTurn (m : List ℤ) (k : ℕ) (p : Pair) (ps : List Pair) : Type 0 where
  pub here : Place m k p
  pub pair : IsPair m p.a p.b
  pub below : k < pair_count (count m)
  pub left : ps ≡ drop (k + 1) (all_pairs (count m))

pub pair_turn : (m : List ℤ) (k : ℕ) {xs ps : List Pair} {p : Pair} → xs ≡ drop k (all_pairs (count m)) → xs ≡ p ∷ ps → PairTurn m k p ps
pair_turn m k e s =
    let t = turn_of (all_pairs (count m)) k (sym e ∙ s) in
    let below : k < pair_count (count m) = omega (arith, t.below, all_pairs_length (count m)) in
    let h = place m k (pair_is _ k t) below in
    record { here = h; pair = record { up = h.up; marks = h.mark }; below = below; left = t.left }

pub pairs_over : (m : List ℤ) (k : ℕ) {xs : List Pair} → xs ≡ drop k (all_pairs (count m)) → xs ≡ [] → pair_count (count m) ≤ k
pairs_over m k e s = omega (arith, all_pairs_length (count m), none_left (all_pairs (count m)) k (ap length (sym e ∙ s)))
