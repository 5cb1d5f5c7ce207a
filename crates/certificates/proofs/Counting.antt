-- The inner edges counted mark by mark are as many as those counted by pair number: the pairs (0, b), (1, b), .. stand together in
-- pair order, after all pairs of smaller marks. Assumes nothing.
use mathlib.Core.Path.{◌≡◌, refl, sym, ap, ◌∙◌}
use mathlib.Core.Bool.{Bool, true, false}
use mathlib.Core.List.{List}
use Prim.Native.Nat.{ℕ, zero, suc, ◌+◌, ◌*◌, ◌/◌, ◌≤◌}
use native.Mathlib.Nat.{add-suc, add-zero}
use native.Mathlib.Omega.{arith}
use lib.IntN.{ℤ}
use Rattle.plane.specs.Marks.{count}
use Rattle.pairs.specs.Pairs.{pair_count, pair_number}
use Rattle.plane.specs.Hull.{inner_edge}
use Rattle.pairs.proofs.Laws.{pair_count_suc}
use Rattle.striking.specs.Below.{count_below}
use Rattle.striking.specs.System as system
use Rattle.striking.specs.Demands as demands
use Rattle.striking.proofs.Counting.{count_yes, count_no, count_same}
use Rattle.certificates.specs.Plate.{plate}
use Rattle.certificates.specs.Rule9.{inner_below, inner_edges, ample}
use Rattle.certificates.proofs.Pairs.{inner_at}

module _ (f : ℕ → Bool) (k : ℕ) where
  -- the numbers below k + j are those below k and j more
  abbrev Apart : ℕ → Type 0
  Apart j = count_below (k + j) f ≡ count_below k f + count_below j (λ a. f (k + a))

  count_apart : (j : ℕ) → Apart j
  unfolding count_below
  count_apart zero = rw (add-zero k) (sym (add-zero (count_below k f)))
  count_apart (suc j) = go (f (k + j)) refl (count_apart j)
    where
      go : (b : Bool) → f (k + j) ≡ b → Apart j → Apart (suc j)
      go true q e = rw add-suc (omega (arith, count_yes f (k + j) q, count_yes (λ a. f (k + a)) j q))
      go false q e = rw add-suc (omega (arith, count_no f (k + j) q, count_no (λ a. f (k + a)) j q))

module _ (m : List ℤ) where
  inner_below_lem : (n : ℕ) → n ≤ count m → inner_below m n ≡ count_below (pair_count n) (plate m).inner
  unfolding inner_below count_below
  inner_below_lem zero l = refl
  inner_below_lem (suc b) l =
      ap (λ (k : ℕ). k + count_below b (λ a. inner_edge m a b)) (inner_below_lem b (omega arith)) ∙
      ap (λ (k : ℕ). count_below (pair_count b) (plate m).inner + k)
      (count_same (λ a. inner_edge m a b) (λ a. (plate m).inner (pair_number a b)) b
      (λ a h. sym (inner_at m a b (record { up = h; marks = l })))) ∙
      sym (count_apart (plate m).inner (pair_count b) b) ∙ ap (λ (k : ℕ). count_below k (plate m).inner) (sym (pair_count_suc b))

  pub inner_edges_lem : inner_edges m ≡ system.inner_edges (plate m)
  unfolding inner_edges plate
  inner_edges_lem = inner_below_lem (count m) (omega arith)

  pub ample_is : ample m ≡ demands.ample (plate m)
  unfolding ample
  ample_is = ap (λ (k : ℕ). k * (k + 1) / 2) inner_edges_lem
