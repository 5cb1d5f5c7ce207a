-- The tests of a system: an edge is due exactly if it is an inner edge of the set, and crossed exactly if some edge of the set
-- crosses it, which is another, since none crosses itself. Assumes nothing.
use mathlib.Core.Path.{◌≡◌, subst}
use mathlib.Core.Logic.{◌↔◌}
use mathlib.Core.Bool.{Bool, true, false, cond}
use Prim.Native.Nat.{ℕ, ◌<◌}
use Rattle.striking.specs.System.{System, Within, Lawful, crossed, due}
use Rattle.striking.proofs.Tests.{not_both, is_false, both, both_first, both_second}
use Rattle.striking.proofs.Below.{any_hit, any_find}

module _ (y : System) (S : ℕ → Bool) (i : ℕ) where
  pub due_in : due y S i ≡ true → S i ≡ true
  unfolding due
  due_in d = both_first (S i) (y.inner i) d

  pub due_inner : due y S i ≡ true → y.inner i ≡ true
  unfolding due
  due_inner d = both_second (S i) (y.inner i) d

  pub is_due : S i ≡ true → y.inner i ≡ true → due y S i ≡ true
  unfolding due
  is_due h k = both h k

  pub crossed_by : (j : ℕ) → j < y.size → S j ≡ true → y.cross i j ≡ true → crossed y S i ≡ true
  unfolding crossed
  crossed_by j l h c = any_hit (λ j. cond (S j) (y.cross i j) false) y.size j l (both h c)

  pub crossing : crossed y S i ≡ true → (j : ℕ) × (j < y.size) × (S j ≡ true) × (y.cross i j ≡ true)
  unfolding crossed
  crossing h =
      let r = any_find (λ j. cond (S j) (y.cross i j) false) y.size h in
      (r.0, r.1, both_first (S r.0) (y.cross i r.0) r.2, both_second (S r.0) (y.cross i r.0) r.2)

  other_crosses : Lawful y → (j : ℕ) → y.cross i j ≡ true → j ≡ i → ⊥
  other_crosses law j c e = not_both (subst (λ (n : ℕ). y.cross i n ≡ true) e c) (law.cross_not_itself i)

  -- in a set of pairs
  module _ (below : (j : ℕ) → S j ≡ true → j < y.size) where
    pub crossed_by_none : crossed y S i ≡ false → (j : ℕ) → S j ≡ true → y.cross i j ≡ false
    crossed_by_none c j h = is_false (y.cross i j) (λ t. not_both (crossed_by j (below j h) h t) c)

    pub crossed_by_another :
        Lawful y → (crossed y S i ≡ true) ↔ ((j : ℕ) × (S j ≡ true) × (j ≡ i → ⊥) × (y.cross i j ≡ true))
    crossed_by_another law = (
      λ t. let r = crossing t in (r.0, r.2, other_crosses law r.0 r.3, r.3),
      λ r. crossed_by r.0 (below r.0 r.1) r.1 r.3,
    )

    pub crossed_by_no_other :
        Lawful y → (crossed y S i ≡ false) ↔ ((j : ℕ) → S j ≡ true → (j ≡ i → ⊥) → y.cross i j ≡ false)
    crossed_by_no_other law = (
      λ c j h n. crossed_by_none c j h,
      λ f. is_false (crossed y S i) (λ t. let r = (crossed_by_another law).0 t in not_both r.3 (f r.0 r.1 r.2)),
    )

pub crossed_more : (y : System) (S S' : ℕ → Bool) → Within S S' → Within (crossed y S) (crossed y S')
crossed_more y S S' w i h = let r = crossing y S i h in crossed_by y S' i r.0 r.1 (w r.0 r.2) r.3
