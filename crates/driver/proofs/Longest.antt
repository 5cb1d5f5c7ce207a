-- The longest budget that n marks can need is never too short: n marks have at most n(n-1)/2 inner edges. Assumes nothing.
use mathlib.Core.Path.{◌≡◌, sym, subst}
use mathlib.Core.List.{List}
use Rattle.std.specs.Prelude.{Ok}
use Prim.Native.Nat.{ℕ, ◌+◌, ◌*◌, ◌/◌, ◌≤◌}
use native.Mathlib.Nat.{mul-le-mul_left, mul-le-mul_right, le_trans}
use native.Mathlib.Omega.{arith}
use lib.IntN.{ℤ}
use Rattle.plane.specs.Marks.{count}
use Rattle.pairs.specs.Pairs.{pair_count}
use Rattle.striking.proofs.Counting.{count_small}
use Rattle.skeleton.specs.declared.search.Outcome.TheVariants.{Paused}
use Rattle.skeleton.specs.Answers.{outcome_of}
use Rattle.certificates.specs.Plate.{plate}
use Rattle.certificates.specs.Rule9.{inner_edges, ample}
use Rattle.certificates.proofs.Counting.{inner_edges_lem}
use Rattle.skeleton.proofs.Theorems.{never_pauses}
use Rattle.driver.specs.Driver.{longest_budget}

few_inner : (m : List ℤ) → inner_edges m ≤ pair_count (count m)
unfolding plate
few_inner m = subst (λ (k : ℕ). k ≤ pair_count (count m)) (sym (inner_edges_lem m)) (count_small (plate m).inner (plate m).size)

ample_grows : (i k : ℕ) → i ≤ k → i * (i + 1) / 2 ≤ k * (k + 1) / 2
ample_grows i k l =
    let p : i * (i + 1) ≤ k * (i + 1) = mul-le-mul_right (i + 1) l in
    let q : k * (i + 1) ≤ k * (k + 1) = mul-le-mul_left k (omega arith) in
    omega arith

pub longest_ample : (m : List ℤ) → ample m ≤ longest_budget (count m)
unfolding ample longest_budget
longest_ample m = ample_grows (inner_edges m) (pair_count (count m)) (few_inner m)

-- "With m inner edges a search ends within m(m+1)/2 examinations": under this budget no plate of so many marks pauses.
pub longest_never_pauses :
    (m : List ℤ) (st : List ℕ) (budget : ℕ) → longest_budget (count m) ≤ budget → (e : ℕ) → outcome_of m st budget ≡ Ok (Paused e) → ⊥
longest_never_pauses m st budget l = never_pauses m st budget (le_trans (longest_ample m) l)
