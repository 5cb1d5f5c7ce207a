-- The sides of an empty triangle are empty edges, so that a set of pairs gives the same certificates as those of its pairs that are
-- empty edges. Assumes nothing.
use mathlib.Core.Path.{◌≡◌, refl, sym, ◌∙◌}
use mathlib.Core.Bool.{Bool, true, false, cond}
use mathlib.Core.List.{List}
use Prim.Native.Nat.{ℕ}
use lib.Dec.{ltb}
use lib.IntN.{ℤ}
use Rattle.plane.specs.Marks.{mark}
use Rattle.plane.specs.Side.{on_line}
use Rattle.plane.specs.Edge.{empty_edge}
use Rattle.plane.specs.Triangle.{hollow, empty_triangle}
use Rattle.striking.proofs.Tests.{not_both, both, both_first, both_second}
use Rattle.std.specs.Prelude.{Option, None, Some}
use Rattle.certificates.specs.declared.certificate.Apexes.{Apexes}
use Rattle.certificates.specs.Certificate.{joined, IsCertificate, first_certificate}
use Rattle.certificates.specs.Plate.{pairs_of, edges_of}
use Rattle.certificates.proofs.Rule7.{certificate_sides, certificate_more}
use Rattle.certificates.proofs.First.{nothing_none, none_nothing, found_first, first_found, first_same}
use Rattle.plane.proofs.Laws.Edge.{empty_edge_swap}

-- ---- the sides of an empty triangle
triangle_sides : (m : List ℤ) (p q r : ℕ) → empty_triangle m p q r ≡ true → (empty_edge m p r ≡ true) × (empty_edge m q r ≡ true)
unfolding empty_triangle
triangle_sides m p q r h = go (on_line (mark m p) (mark m q) (mark m r)) h
  where
    rest : Bool
    rest = cond (empty_edge m p q) (cond (empty_edge m q r) (cond (empty_edge m r p) (hollow m p q r) false) false) false

    go : (t : Bool) → cond t false rest ≡ true → (empty_edge m p r ≡ true) × (empty_edge m q r ≡ true)
    go true h = not_both h refl
    go false h =
        let k = both_second (empty_edge m p q) _ h in
        (empty_edge_swap m p r ∙ both_first (empty_edge m r p) _ (both_second (empty_edge m q r) _ k), both_first (empty_edge m q r) _ k)

-- ---- so their emptiness needs no test of its own
module _ (m : List ℤ) (S : ℕ → Bool) where
  joined_edges : (u r : ℕ) → empty_edge m u r ≡ true → joined (pairs_of S) u r ≡ true → joined (edges_of m S) u r ≡ true
  unfolding joined edges_of
  joined_edges u r e h = go (ltb u r) h
    where
      go : (t : Bool) → cond t (pairs_of S u r) (pairs_of S r u) ≡ true → cond t (edges_of m S u r) (edges_of m S r u) ≡ true
      go true h = both h e
      go false h = both h (empty_edge_swap m r u ∙ e)

  pub edges_pairs : (a b : ℕ) → edges_of m S a b ≡ true → pairs_of S a b ≡ true
  unfolding edges_of
  edges_pairs a b h = both_first (pairs_of S a b) _ h

  module _ {p q r s : ℕ} where
    pub certificate_edges : IsCertificate m (pairs_of S) p q r s → IsCertificate m (edges_of m S) p q r s
    certificate_edges c =
        let x = triangle_sides m p q r c.pqr_empty in
        let y = triangle_sides m p q s c.pqs_empty in
        certificate_sides c
        (joined_edges p r x.0 c.pr_in) (joined_edges q r x.1 c.qr_in)
        (joined_edges p s y.0 c.ps_in) (joined_edges q s y.1 c.qs_in)

    pub certificate_pairs : IsCertificate m (edges_of m S) p q r s → IsCertificate m (pairs_of S) p q r s
    certificate_pairs c = certificate_more edges_pairs c

  pub first_edges : (p q : ℕ) → first_certificate m (pairs_of S) p q ≡ first_certificate m (edges_of m S) p q
  first_edges p q = go (first_certificate m (pairs_of S) p q) refl
    where
      go : (x : Option Apexes) → first_certificate m (pairs_of S) p q ≡ x → x ≡ first_certificate m (edges_of m S) p q
      go None e =
          sym (none_nothing m (edges_of m S) p q (λ h. nothing_none m (pairs_of S) p q e (h.0, h.1, certificate_pairs h.2)))
      go (Some x) e =
          let f = found_first m (pairs_of S) p q e in
          sym (first_found (first_same (λ r' s' c. certificate_edges c) (λ r' s' c. certificate_pairs c) f))
