-- A plate is a lawful system of edges, whatever its list: a pair's number is below the number of pairs, rule 4 reads the same from
-- both edges, the ends of an edge lie on its line, and a certificate in a set is one in every larger set. Assumes nothing.
use mathlib.Core.Path.{◌≡◌, refl, sym, subst, ◌∙◌}
use mathlib.Core.Bool.{Bool, true}
use mathlib.Core.List.{List}
use Prim.Native.Nat.{ℕ, ◌<◌}
use borrow.Author.Tests.{ltb-true}
use lib.IntN.{ℤ}
use Rattle.pairs.specs.declared.Pair.{Pair}
use Rattle.plane.specs.Marks.{count}
use Rattle.pairs.specs.Pairs.{pair_count, pair_number, pair_at}
use Rattle.plane.specs.Edge.{empty_edge}
use Rattle.plane.specs.Hull.{inner_edge}
use Rattle.pairs.proofs.Laws.{pair_below, pair_at_numbered}
use Rattle.striking.specs.System.{Within, Lawful}
use Rattle.striking.proofs.Tests.{not_both, both, both_first, both_second}
use Rattle.std.specs.Prelude.{Option, None, Some, is_some}
use Rattle.certificates.specs.declared.certificate.Apexes.{Apexes}
use Rattle.certificates.specs.Certificate.{HasCertificate, first_certificate}
use Rattle.certificates.specs.Plate.{pairs_of, edges_of, is_pair, empty_pair, inner_pair, certified, cross_pairs, plate}
use Rattle.certificates.proofs.Rule7.{certificate_more}
use Rattle.certificates.proofs.First.{nothing_none, found_first}
use Rattle.plane.proofs.Laws.Cross.{crosses_other, crosses_itself}

-- ---- the test of a pair
pub pair_mark : (m : List ℤ) (p : Pair) → is_pair m p ≡ true → p.b < count m
unfolding is_pair
pair_mark m p h = ltb-true p.b (count m) h

module _ (m : List ℤ) (K : ℕ → ℕ → Bool) (p : Pair) where
  pub certified_has : certified m K p ≡ true → HasCertificate m K p.a p.b
  unfolding certified
  certified_has h = go (first_certificate m K p.a p.b) refl h
    where
      go : (x : Option Apexes) → first_certificate m K p.a p.b ≡ x → is_some x ≡ true → HasCertificate m K p.a p.b
      go None e t = not_both t refl
      go (Some x) e t = (x.r, x.s, (found_first m K p.a p.b e).certificate)

  pub has_certified : HasCertificate m K p.a p.b → certified m K p ≡ true
  unfolding certified
  has_certified h = go (first_certificate m K p.a p.b) refl
    where
      go : (x : Option Apexes) → first_certificate m K p.a p.b ≡ x → is_some x ≡ true
      go None e = absurd (nothing_none m K p.a p.b e h)
      go (Some x) e = refl

-- ---- the laws
edges_more : (m : List ℤ) (S S' : ℕ → Bool) → Within S S' → (a b : ℕ) → edges_of m S a b ≡ true → edges_of m S' a b ≡ true
unfolding edges_of pairs_of
edges_more m S S' w a b h =
    let i = pair_number a b in
    both (w i (both_first (S i) (empty_edge m a b) h)) (both_second (S i) (empty_edge m a b) h)

inner_empty : (m : List ℤ) (p : Pair) → inner_pair m p ≡ true → empty_pair m p ≡ true
unfolding inner_pair empty_pair inner_edge
inner_empty m p h = both (both_first (is_pair m p) _ h) (both_first (empty_edge m p.a p.b) _ (both_second (is_pair m p) _ h))

pub lawful : (m : List ℤ) → Lawful (plate m)
unfolding plate empty_pair cross_pairs
lawful m =
    record {
      edges_below = λ i h. below i (pair_mark m (pair_at i) (both_first (is_pair m (pair_at i)) _ h));
      inner_are_edges = λ i h. inner_empty m (pair_at i) h;
      cross_symmetric = λ i j h. sym (crosses_other _ _ _ _) ∙ h;
      cross_not_itself = λ i. crosses_itself _ _;
      vouched_grows = λ S S' w i h. more S S' w (pair_at i) (certified_has m (edges_of m S) (pair_at i) h);
    }
  where
    below : (i : ℕ) → (pair_at i).b < count m → i < pair_count (count m)
    below i l =
        let n = pair_at_numbered i in
        subst (λ (k : ℕ). k < pair_count (count m)) n.number (pair_below (pair_at i).a (pair_at i).b (count m) n.up l)

    more :
        (S S' : ℕ → Bool) → Within S S' → (p : Pair) → HasCertificate m (edges_of m S) p.a p.b →
        certified m (edges_of m S') p ≡ true
    more S S' w p h = has_certified m (edges_of m S') p (h.0, h.1, certificate_more (edges_more m S S' w) h.2)
