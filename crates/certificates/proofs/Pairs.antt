-- A set of pairs of marks and a set of pair numbers: each pair of the plate has one number, so the sets of rule 9, said of marks,
-- are those of the theory of striking, said of numbers. Assumes nothing.
use mathlib.Core.Path.{◌≡◌, sym, ap, ap₂, ◌∙◌}
use mathlib.Core.Bool.{Bool, true, false, cond}
use mathlib.Core.List.{List}
use Prim.Native.Nat.{ℕ, ◌<◌}
use native.Mathlib.Omega.{arith}
use borrow.Author.Tests.{lt-ltb}
use lib.IntN.{ℤ}
use Rattle.pairs.specs.declared.Pair.{Pair}
use Rattle.plane.specs.Marks.{count, IsMark}
use Rattle.pairs.specs.Pairs.{pair_number, pair_at}
use Rattle.plane.specs.Edge.{empty_edge}
use Rattle.plane.specs.Hull.{hull_edge, inner_edge}
use Rattle.plane.proofs.Laws.Tells.{cond_yes}
use Rattle.pairs.proofs.Laws.{pair_below, pair_at_numbered, pair_at_number}
use Rattle.striking.specs.System.{Within}
use Rattle.striking.specs.Demands as any
use Rattle.striking.proofs.Tests.{both, both_first, both_second}
use Rattle.certificates.specs.Certificate.{crossing, HasCertificate}
use Rattle.certificates.specs.Plate.{pairs_of, edges_of, is_pair, empty_pair, inner_pair, certified, cross_pairs, plate}
use Rattle.certificates.specs.Rule9.{IsPair, Kept, LocallyMinimal, Supported, Largest}
use Rattle.certificates.proofs.Rule5.{hull_empty, hull_not_inner}
use Rattle.certificates.proofs.Rule7.{has_besides}
use Rattle.certificates.proofs.Sides.{certificate_pairs}
use Rattle.certificates.proofs.Lawful.{pair_mark, certified_has, has_certified}

-- a < n for a pair
pub pair_first : {m : List ℤ} {a b : ℕ} → IsPair m a b → IsMark m a
pair_first {m} {a} {b} h = let u = h.up in let l = h.marks in omega arith

-- ---- what the tests of a pair tell
empty_pair_lem : (m : List ℤ) (p : Pair) → empty_pair m p ≡ true → is_pair m p ≡ true
unfolding empty_pair
empty_pair_lem m p h = both_first (is_pair m p) _ h

empty_edge_lem : (m : List ℤ) (p : Pair) → empty_pair m p ≡ true → empty_edge m p.a p.b ≡ true
unfolding empty_pair
empty_edge_lem m p h = both_second (is_pair m p) _ h

-- ---- what the plate says of the pair (a, b)
module _ (m : List ℤ) (a b : ℕ) (h : IsPair m a b) where
  abbrev at : Pair
  at = record { a = a; b = b }

  is_pair_lem : is_pair m at ≡ true
  unfolding is_pair
  is_pair_lem = lt-ltb b (count m) h.marks

  pub number_below : pair_number a b < (plate m).size
  unfolding plate
  number_below = pair_below a b (count m) h.up h.marks

  pub edge_at : (plate m).edge (pair_number a b) ≡ empty_edge m a b
  unfolding plate empty_pair
  edge_at = ap (empty_pair m) (pair_at_number a b h.up) ∙ cond_yes _ _ is_pair_lem

  pub inner_at : (plate m).inner (pair_number a b) ≡ inner_edge m a b
  unfolding plate inner_pair
  inner_at = ap (inner_pair m) (pair_at_number a b h.up) ∙ cond_yes _ _ is_pair_lem

  pub cross_at : (c d : ℕ) → c < d → (plate m).cross (pair_number a b) (pair_number c d) ≡ crossing m a b c d
  unfolding plate cross_pairs
  cross_at c d l = ap₂ (cross_pairs m) (pair_at_number a b h.up) (pair_at_number c d l)

  pub vouched_at : (S : ℕ → Bool) → (plate m).vouched S (pair_number a b) ≡ certified m (edges_of m S) at
  unfolding plate
  vouched_at S = ap (certified m (edges_of m S)) (pair_at_number a b h.up)

-- ---- the pair numbers of a set of edges
unfoldable pub numbers_of : List ℤ → (ℕ → ℕ → Bool) → ℕ → Bool
numbers_of m K i = cond (is_pair m (pair_at i)) (K (pair_at i).a (pair_at i).b) false

-- pair i is a pair of the plate
pub numbered : (m : List ℤ) (i : ℕ) → is_pair m (pair_at i) ≡ true → IsPair m (pair_at i).a (pair_at i).b
numbered m i h = record { up = (pair_at_numbered i).up; marks = pair_mark m (pair_at i) h }

module _ (m : List ℤ) (K : ℕ → ℕ → Bool) where
  pub number_in : (a b : ℕ) → IsPair m a b → numbers_of m K (pair_number a b) ≡ K a b
  unfolding numbers_of
  number_in a b h =
      ap (λ (p : Pair). cond (is_pair m p) (K p.a p.b) false) (pair_at_number a b h.up) ∙ cond_yes _ _ (is_pair_lem m a b h)

  -- the number of a kept pair, and no other, is a member
  pub kept_member : (a b : ℕ) → Kept m K a b → numbers_of m K (pair_number a b) ≡ true
  kept_member a b h = number_in a b h.pair ∙ h.kept

  pub member_kept : (i : ℕ) → numbers_of m K i ≡ true → Kept m K (pair_at i).a (pair_at i).b
  unfolding numbers_of
  member_kept i h =
      record { pair = numbered m i (both_first (is_pair m (pair_at i)) _ h); kept = both_second (is_pair m (pair_at i)) _ h }

  module _ (edges : (a b : ℕ) → Kept m K a b → empty_edge m a b ≡ true) where
    member_edge : Within (numbers_of m K) (plate m).edge
    unfolding plate empty_pair numbers_of
    member_edge i h = both (both_first (is_pair m (pair_at i)) _ h) (edges _ _ (member_kept i h))

    kept_edges : (a b : ℕ) → IsPair m a b → K a b ≡ true → edges_of m (numbers_of m K) a b ≡ true
    unfolding edges_of pairs_of
    kept_edges a b p h = let k : Kept m K a b = record { pair = p; kept = h } in both (kept_member a b k) (edges a b k)

    member_vouched :
        ((a b : ℕ) → Kept m K a b → inner_edge m a b ≡ true → HasCertificate m K a b) → (i : ℕ) → numbers_of m K i ≡ true →
        (plate m).inner i ≡ true → (plate m).vouched (numbers_of m K) i ≡ true
    unfolding plate inner_pair
    member_vouched c i h t =
        let k = member_kept i h in
        let h = c _ _ k (both_second (is_pair m (pair_at i)) _ t) in
        let w = has_besides m K (edges_of m (numbers_of m K)) _ _ (pair_first k.pair) k.pair.marks in
        has_certified m _ (pair_at i) (w (λ a b p n. kept_edges a b p) h)

-- ---- rule 9 and demand 2, from marks to numbers
pub supported_numbers : {m : List ℤ} {K : ℕ → ℕ → Bool} → Supported m K → any.Supported (plate m) (numbers_of m K)
supported_numbers {m} {K} s = record { edges = member_edge m K s.edges; vouched = member_vouched m K s.edges s.certified }

pub minimal_numbers : {m : List ℤ} {K : ℕ → ℕ → Bool} → LocallyMinimal m K → any.LocallyMinimal (plate m) (numbers_of m K)
unfolding plate cross_pairs
minimal_numbers {m} {K} t =
    record {
      triangulation =
          record {
            edges = member_edge m K t.triangulation.edges;
            apart = λ i j h k. t.triangulation.apart _ _ _ _ (member_kept m K i h) (member_kept m K j k);
            full = full;
          };
      vouched = member_vouched m K t.triangulation.edges t.certified;
    }
  where
    full :
        (i : ℕ) → empty_pair m (pair_at i) ≡ true → numbers_of m K i ≡ false →
        (j : ℕ) × (numbers_of m K j ≡ true) × (cross_pairs m (pair_at i) (pair_at j) ≡ true)
    full i h n =
        let p = numbered m i (empty_pair_lem m (pair_at i) h) in
        let out = sym (number_in m K _ _ p) ∙ ap (numbers_of m K) (pair_at_numbered i).number ∙ n in
        let r = t.triangulation.full _ _ p (empty_edge_lem m (pair_at i) h) out in
        let crosses = ap (cross_pairs m (pair_at i)) (pair_at_number _ _ r.2.pair.up) ∙ r.3 in
        (pair_number r.0 r.1, kept_member m K _ _ r.2, crosses)

-- ---- demand 2, from numbers to marks
pub largest_pairs : {m : List ℤ} {S : ℕ → Bool} → any.Largest (plate m) S → Largest m (pairs_of S)
unfolding pairs_of
largest_pairs {m} {S} l = record { supported = record { edges = edges; hull = hull; certified = certified_in }; largest = largest }
  where
    edges : (a b : ℕ) → Kept m (pairs_of S) a b → empty_edge m a b ≡ true
    edges a b k = sym (edge_at m a b k.pair) ∙ l.supported.edges (pair_number a b) k.kept

    hull : (a b : ℕ) → IsPair m a b → hull_edge m a b ≡ true → S (pair_number a b) ≡ true
    hull a b p h =
        l.hull (pair_number a b) (edge_at m a b p ∙ hull_empty m a b h) (inner_at m a b p ∙ hull_not_inner m a b h)

    certified_in : (a b : ℕ) → Kept m (pairs_of S) a b → inner_edge m a b ≡ true → HasCertificate m (pairs_of S) a b
    certified_in a b k h =
        let v = l.supported.vouched (pair_number a b) k.kept (inner_at m a b k.pair ∙ h) in
        let c = certified_has m (edges_of m S) (record { a = a; b = b }) (sym (vouched_at m a b k.pair S) ∙ v) in
        (c.0, c.1, certificate_pairs m S c.2)

    largest : (K' : ℕ → ℕ → Bool) → Supported m K' → (a b : ℕ) → Kept m K' a b → S (pair_number a b) ≡ true
    largest K' s a b k = l.largest (numbers_of m K') (supported_numbers s) (pair_number a b) (kept_member m K' a b k)
