-- The pair of a loop over the pairs: where the loop stands at number i, its pair is the i-th, and so is the next. Assumes nothing.
use mathlib.Core.Path.{◌≡◌, refl, sym, ap, ◌∙◌, subst}
use mathlib.Core.List.{List}
use Prim.Native.Nat.{ℕ, ◌+◌, ◌<◌}
use native.Mathlib.Numerals.{add-one}
use lib.IntN.{ℤ}
use Rattle.pairs.specs.declared.Pair.{Pair}
use Rattle.plane.specs.Marks.{count, IsMark}
use Rattle.pairs.specs.Pairs.{pair_count, pair_number, next_pair, pair_at}
use Rattle.pairs.proofs.Laws.{pair_at_numbered, pair_at_below}

pub record Place (m : List ℤ) (i : ℕ) (p : Pair) : Type 0 where
  pub up : p.a < p.b
  pub mark : IsMark m p.b
  pub number : i ≡ pair_number p.a p.b

pub place : (m : List ℤ) (i : ℕ) {p : Pair} → p ≡ pair_at i → i < pair_count (count m) → Place m i p
place m i {p} e l =
    subst (Place m i) (sym e)
    (let n = pair_at_numbered i in record { up = n.up; mark = pair_at_below (count m) i l; number = sym n.number })

pub pair_at_next : (i : ℕ) {p q : Pair} → q ≡ next_pair p → p ≡ pair_at i → q ≡ pair_at (i + 1)
unfolding pair_at
pair_at_next i f e = rw (add-one i) (f ∙ ap next_pair e)

pub pair_at_first : record { a = 0; b = 1 } ≡ pair_at 0
unfolding pair_at
pair_at_first = refl
