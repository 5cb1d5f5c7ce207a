-- The plate m as the theory of striking sees it: a system of edges, whose pairs are known by their numbers alone.
--   pairs_of S         the set of edges that the pair numbers S stand for
--   edges_of m S       those of them that are empty edges
--   is_pair m p        the pair p is one of the plate
--   empty_pair m p     it is an empty edge
--   inner_pair m p     it is an inner edge
--   cross_pairs m p q  p and q cross; rule 4 asks it only of empty edges
--   certified m K p    p has a certificate in K
--   plate m            the system: pair i is `pair_at i`
use Rattle.std.specs.Prelude.{Bool, false, cond, is_some, List, ℕ, ltb, ℤ}
use Rattle.pairs.specs.declared.Pair.{Pair}
use Rattle.plane.specs.Marks.{count}
use Rattle.pairs.specs.Pairs.{pair_count, pair_number, pair_at}
use Rattle.plane.specs.Edge.{empty_edge}
use Rattle.plane.specs.Hull.{inner_edge}
use Rattle.striking.specs.System.{System}
use Rattle.certificates.specs.Certificate.{crossing, first_certificate}

unfoldable pub pairs_of : (ℕ → Bool) → ℕ → ℕ → Bool
pairs_of S a b = S (pair_number a b)

unfoldable pub edges_of : List ℤ → (ℕ → Bool) → ℕ → ℕ → Bool
edges_of m S a b = cond (pairs_of S a b) (empty_edge m a b) false

-- of pairs as numbers give them, a < b: past the last pair of the plate b is no mark
unfoldable pub is_pair : List ℤ → Pair → Bool
is_pair m p = ltb p.b (count m)

unfoldable pub empty_pair : List ℤ → Pair → Bool
empty_pair m p = cond (is_pair m p) (empty_edge m p.a p.b) false

unfoldable pub inner_pair : List ℤ → Pair → Bool
inner_pair m p = cond (is_pair m p) (inner_edge m p.a p.b) false

unfoldable pub certified : List ℤ → (ℕ → ℕ → Bool) → Pair → Bool
certified m K p = is_some (first_certificate m K p.a p.b)

unfoldable pub cross_pairs : List ℤ → Pair → Pair → Bool
cross_pairs m p q = crossing m p.a p.b q.a q.b

unfoldable pub plate : List ℤ → System
plate m =
    record {
      size = pair_count (count m);
      edge = λ i. empty_pair m (pair_at i);
      inner = λ i. inner_pair m (pair_at i);
      cross = λ i j. cross_pairs m (pair_at i) (pair_at j);
      vouched = λ S i. certified m (edges_of m S) (pair_at i);
    }
