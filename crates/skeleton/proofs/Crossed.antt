-- Crossed by an edge of a set: said of pairs of marks and said of pair numbers, it is the same. Assumes nothing.
use mathlib.Core.Path.{◌≡◌, sym, ap, ◌∙◌}
use mathlib.Core.Logic.{◌↔◌}
use mathlib.Core.Bool.{Bool, true, false}
use mathlib.Core.List.{List}
use Prim.Native.Nat.{ℕ, ◌<◌}
use native.Mathlib.Decide.{ℕ_discrete}
use lib.IntN.{ℤ}
use Rattle.pairs.specs.declared.Pair.{Pair}
use Rattle.plane.specs.Marks.{count}
use Rattle.pairs.specs.Pairs.{pair_number, pair_at}
use Rattle.pairs.proofs.Laws.{pair_at_numbered, pair_at_number, pair_at_below}
use Rattle.striking.proofs.Tests.{not_both}
use Rattle.certificates.specs.Certificate.{crossing}
use Rattle.certificates.specs.Plate.{pairs_of, cross_pairs, plate}
use Rattle.certificates.specs.Rule9.{IsPair, Kept}
use Rattle.certificates.proofs.Lawful.{lawful}
use Rattle.certificates.proofs.Pairs.{cross_at}

module _ (m : List ℤ) (S : ℕ → Bool) (below : (j : ℕ) → S j ≡ true → j < (plate m).size) where
  pub kept_number : (j : ℕ) → S j ≡ true → Kept m (pairs_of S) (pair_at j).a (pair_at j).b
  unfolding pairs_of plate
  kept_number j h =
      let n = pair_at_numbered j in
      record {
        pair = record { up = n.up; marks = pair_at_below (count m) j (below j h) };
        kept = ap S n.number ∙ h;
      }

  module _ (a b : ℕ) (p : IsPair m a b) where
    abbrev i : ℕ
    i = pair_number a b

    cross_number : (j : ℕ) → (plate m).cross i j ≡ crossing m a b (pair_at j).a (pair_at j).b
    unfolding plate cross_pairs
    cross_number j = ap (λ (q : Pair). cross_pairs m q (pair_at j)) (pair_at_number a b p.up)

    pub uncrossed_pairs :
        ((j : ℕ) → S j ≡ true → (j ≡ i → ⊥) → (plate m).cross i j ≡ false) ↔
        ((c d : ℕ) → Kept m (pairs_of S) c d → crossing m a b c d ≡ false)
    unfolding pairs_of
    uncrossed_pairs = (
      λ f c d k. sym (cross_at m a b p c d k.pair.up) ∙ here f c d k (ℕ_discrete (pair_number c d) i),
      λ f j h n. cross_number j ∙ f _ _ (kept_number j h),
    )
      where
        here :
            ((j : ℕ) → S j ≡ true → (j ≡ i → ⊥) → (plate m).cross i j ≡ false) → (c d : ℕ) → Kept m (pairs_of S) c d →
            Dec (pair_number c d ≡ i) → (plate m).cross i (pair_number c d) ≡ false
        here f c d k (yes e) = ap ((plate m).cross i) e ∙ (lawful m).cross_not_itself i
        here f c d k (no n) = f (pair_number c d) k.kept n

    pub crossed_pairs :
        ((j : ℕ) × (S j ≡ true) × (j ≡ i → ⊥) × ((plate m).cross i j ≡ true)) ↔
        ((c : ℕ) × (d : ℕ) × Kept m (pairs_of S) c d × (crossing m a b c d ≡ true))
    unfolding pairs_of
    crossed_pairs = (
      λ r. ((pair_at r.0).a, (pair_at r.0).b, kept_number r.0 r.1, sym (cross_number r.0) ∙ r.3),
      λ r. (pair_number r.0 r.1, r.2.kept, (λ e. itself r.2 e r.3), cross_at m a b p _ _ r.2.pair.up ∙ r.3),
    )
      where
        itself : {c d : ℕ} → Kept m (pairs_of S) c d → pair_number c d ≡ i → crossing m a b c d ≡ true → ⊥
        itself {c} {d} k e h =
            not_both (cross_at m a b p c d k.pair.up ∙ h) (ap ((plate m).cross i) e ∙ (lawful m).cross_not_itself i)
