-- What the status bytes and answer 8 tell, carried from pair numbers to pairs of marks. Assumes nothing.
use mathlib.Core.Path.{◌≡◌, sym, ap, ◌∙◌, subst}
use mathlib.Core.Logic.{◌↔◌, ◌⊎◌}
use mathlib.Core.Bool.{Bool, true, false}
use mathlib.Core.List.{List}
use Prim.Native.Nat.{ℕ, ◌<◌}
use lib.ListN.{get_or}
use lib.IntN.{ℤ}
use Rattle.pairs.specs.Pairs.{pair_number, pair_at}
use Rattle.plane.specs.Hull.{hull_edge, inner_edge}
use Rattle.pairs.proofs.Laws.{pair_at_numbered, pair_at_number}
use Rattle.striking.specs.System.{due}
use Rattle.striking.specs.Search.{answer8, is_answer8, search_result, remaining_set, byte}
use Rattle.striking.proofs.Tests.{not_both, both_second}
use Rattle.striking.proofs.System.{due_in, due_inner}
use Rattle.striking.proofs.Theorems as striking
use Rattle.certificates.specs.Certificate.{crossing, HasCertificate}
use Rattle.certificates.specs.Plate.{pairs_of, edges_of, is_pair, inner_pair, cross_pairs, plate}
use Rattle.certificates.specs.Rule9.{IsPair, Kept}
use Rattle.skeleton.specs.Answers.{byte_after, remaining_edges, shown_search}
use Rattle.certificates.proofs.Sides.{certificate_edges}
use Rattle.certificates.proofs.Lawful.{lawful, has_certified}
use Rattle.certificates.proofs.Rule5.{hull_empty, hull_not_inner}
use Rattle.certificates.proofs.Pairs.{edge_at, inner_at}
use Rattle.skeleton.proofs.Crossed.{kept_number, uncrossed_pairs, crossed_pairs}
use Rattle.skeleton.proofs.Ended.{status_accepted, unrefused_free}

-- ---- what remains
module _ (m : List ℤ) (budget : ℕ) where
  abbrev S : ℕ → Bool
  S = remaining_set (plate m) budget

  pub below : (i : ℕ) → S i ≡ true → i < (plate m).size
  below = striking.remaining_below (plate m) (lawful m) budget

  inner_number : (i : ℕ) → (plate m).inner i ≡ true → inner_edge m (pair_at i).a (pair_at i).b ≡ true
  unfolding plate inner_pair
  inner_number i h = both_second (is_pair m (pair_at i)) _ h

  -- an inner edge that remains: an examination that is due
  pub due_pair : (i : ℕ) → due (plate m) S i ≡ true → (a : ℕ) × (b : ℕ) × Kept m (pairs_of S) a b × (inner_edge m a b ≡ true)
  due_pair i h =
      ((pair_at i).a, (pair_at i).b, kept_number m S below i (due_in (plate m) S i h), inner_number i (due_inner (plate m) S i h))

  -- what answer 8 names
  abbrev pub Named : ℕ → Type 0
  Named i =
      (a : ℕ) × (b : ℕ) × IsPair m a b × (i ≡ pair_number a b) × (inner_edge m a b ≡ true) × (HasCertificate m (pairs_of S) a b → ⊥) ×
      ((c d : ℕ) → Kept m (pairs_of S) c d → crossing m a b c d ≡ false)

  pub answer8_named : (i : ℕ) → (search_result (plate m) budget).outcome ≡ answer8 i → Named i
  unfolding plate pairs_of cross_pairs
  answer8_named i q =
      let r = striking.answer8_names (plate m) (lawful m) budget i q in
      let k = kept_number m S below i r.1 in (
        (pair_at i).a,
        (pair_at i).b,
        k.pair,
        sym (pair_at_numbered i).number,
        inner_number i r.2,
        (λ h. not_both (has_certified m (edges_of m S) (pair_at i) (h.0, h.1, certificate_edges m S h.2)) r.3),
        (λ c d t. sym (ap (cross_pairs m (pair_at i)) (pair_at_number c d t.pair.up)) ∙ r.4 (pair_number c d) t.kept),
      )

-- ---- the bytes of a search that is not refused
module _ (m : List ℤ) (st : List ℕ) (budget : ℕ) (u : (shown_search m st budget).number ≡ 0) where
  free : is_answer8 (search_result (plate m) budget).outcome ≡ false
  free = (unrefused_free m st budget u).1

  module _ (a b : ℕ) where
    byte_is : byte_after m st budget a b ≡ byte (search_result (plate m) budget) (pair_number a b)
    byte_is = ap (λ (s : List ℕ). get_or s (pair_number a b) 0) (status_accepted m st budget (unrefused_free m st budget u).0)

    pub byte_zero : (byte_after m st budget a b ≡ 0) ↔ (remaining_edges m budget a b ≡ false)
    unfolding pairs_of
    byte_zero =
        let s = striking.impossible_exactly (plate m) (lawful m) budget free (pair_number a b) in
        (λ h. s.0 (sym byte_is ∙ h), λ h. byte_is ∙ s.1 h)

    pub byte_two :
        IsPair m a b →
        (byte_after m st budget a b ≡ 2) ↔
        ((remaining_edges m budget a b ≡ true) × ((c d : ℕ) → Kept m (remaining_edges m budget) c d → crossing m a b c d ≡ false))
    unfolding pairs_of
    byte_two p =
        let s = striking.certain_exactly (plate m) (lawful m) budget free (pair_number a b) in
        let c = uncrossed_pairs m (remaining_set (plate m) budget) (below m budget) a b p in (
          λ h. (let r = s.0 (sym byte_is ∙ h) in (r.0, c.0 r.1)),
          λ h. byte_is ∙ s.1 (h.0, c.1 h.1),
        )

    pub byte_one :
        IsPair m a b →
        (byte_after m st budget a b ≡ 1) ↔
        ((remaining_edges m budget a b ≡ true) ×
        ((c : ℕ) × (d : ℕ) × Kept m (remaining_edges m budget) c d × (crossing m a b c d ≡ true)))
    unfolding pairs_of
    byte_one p =
        let s = striking.possible_exactly (plate m) (lawful m) budget free (pair_number a b) in
        let c = crossed_pairs m (remaining_set (plate m) budget) (below m budget) a b p in (
          λ h. (let r = s.0 (sym byte_is ∙ h) in (r.0, c.0 r.1)),
          λ h. byte_is ∙ s.1 (h.0, c.1 h.1),
        )

    pub byte_three : (byte_after m st budget a b ≡ 0) ⊎ (byte_after m st budget a b ≡ 1) ⊎ (byte_after m st budget a b ≡ 2)
    byte_three =
        subst (λ (x : ℕ). (x ≡ 0) ⊎ (x ≡ 1) ⊎ (x ≡ 2)) (sym byte_is)
        (striking.three_bytes (plate m) (lawful m) budget free (pair_number a b))

-- ---- a hull edge remains
pub hull_in : (m : List ℤ) (budget a b : ℕ) → IsPair m a b → hull_edge m a b ≡ true → remaining_edges m budget a b ≡ true
unfolding pairs_of
hull_in m budget a b p h =
    striking.hull_remains (plate m) (lawful m) budget (pair_number a b) (edge_at m a b p ∙ hull_empty m a b h)
    (inner_at m a b p ∙ hull_not_inner m a b h)
