-- Rule 5: an empty edge is a hull edge or an inner edge, and not both. Assumes nothing.
use mathlib.Core.Path.{◌≡◌, refl, sym, ap, ◌∙◌}
use mathlib.Core.Bool.{Bool, true, false, not, cond}
use mathlib.Core.List.{List}
use Prim.Native.Nat.{ℕ}
use lib.IntN.{ℤ}
use Rattle.plane.specs.Edge.{empty_edge}
use Rattle.plane.specs.Hull.{one_sided, hull_edge, inner_edge}
use Rattle.plane.proofs.Laws.Tells.{cond_yes}
use Rattle.striking.proofs.Tests.{both, both_first}

module _ (m : List ℤ) (a b : ℕ) where
  pub hull_empty : hull_edge m a b ≡ true → empty_edge m a b ≡ true
  unfolding hull_edge
  hull_empty h = both_first (empty_edge m a b) _ h

  pub inner_empty : inner_edge m a b ≡ true → empty_edge m a b ≡ true
  unfolding inner_edge
  inner_empty h = both_first (empty_edge m a b) _ h

  pub hull_not_inner : hull_edge m a b ≡ true → inner_edge m a b ≡ false
  unfolding hull_edge inner_edge
  hull_not_inner h = go (empty_edge m a b) (one_sided m a b) h
    where
      go : (e o : Bool) → cond e o false ≡ true → cond e (not o) false ≡ false
      go true o h = ap not h
      go false o h = refl

  pub inner_not_hull : inner_edge m a b ≡ true → hull_edge m a b ≡ false
  unfolding inner_edge hull_edge
  inner_not_hull h = go (empty_edge m a b) (one_sided m a b) h
    where
      go : (e o : Bool) → cond e (not o) false ≡ true → cond e o false ≡ false
      go true true h = sym h
      go true false h = refl
      go false o h = refl

  pub rest_inner : empty_edge m a b ≡ true → hull_edge m a b ≡ false → inner_edge m a b ≡ true
  unfolding inner_edge hull_edge
  rest_inner e h = both e (ap not (sym (cond_yes (one_sided m a b) false e) ∙ h))
