-- The bytes that are lent with a request may say anything of a pair that is no empty edge. The plate's own bytes, kept only where the lent
-- ones are not 0 either, stand for the same empty edges, and for these alone. Assumes nothing.
use mathlib.Core.Path.{◌≡◌, refl, sym, ap, ◌∙◌}
use mathlib.Core.Bool.{Bool, true, false, not, cond}
use mathlib.Core.List.{List}
use Prim.Native.Nat.{ℕ, ◌<◌, ◌≤◌}
use native.Mathlib.Decide.{dec_lt}
use native.Mathlib.Omega.{arith}
use lib.Dec.{eqb}
use lib.IntN.{ℤ}
use lib.ListN.{length, get_or, get_or-eq_default}
use Rattle.sets.specs.declared.Set.{Set}
use Rattle.plane.specs.Marks.{count, IsMark}
use Rattle.pairs.specs.Pairs.{pair_count, pair_number}
use Rattle.plane.specs.Edge.{empty_edge}
use Rattle.pairs.proofs.Laws.{pair_at_number, pair_below}
use Rattle.striking.specs.Status.{remaining, all_edges}
use Rattle.striking.proofs.Below.{length_list, list_at}
use Rattle.striking.proofs.Remaining.{remaining_not, all_edges_lem}
use Rattle.certificates.specs.Plate.{pairs_of, edges_of, plate}
use Rattle.certificates.specs.Rows.{Rows, Clean}
use Rattle.skeleton.specs.Common.{common_byte, common}
use Rattle.certificates.proofs.Near.{rows_same}
use Rattle.certificates.proofs.Lawful.{lawful}
use Rattle.certificates.proofs.Pairs.{edge_at}
use Rattle.certificates.proofs.Places.{place}

pub edges_long : (m : List ℤ) → length (all_edges (plate m)) ≡ pair_count (count m)
unfolding all_edges plate
edges_long m = length_list _ _

module _ (m : List ℤ) (st : List ℕ) {own : List ℕ} (kept : own ≡ common (all_edges (plate m)) st) (long : length st ≡ pair_count (count m)) where
  pub common_long : length own ≡ pair_count (count m)
  unfolding common
  common_long = ap length kept ∙ length_list _ _ ∙ edges_long m

  -- of a pair of the plate
  own_at : (a b : ℕ) → a < b → IsMark m b → remaining own (pair_number a b) ≡ cond (remaining st (pair_number a b)) (empty_edge m a b) false
  unfolding common common_byte remaining
  own_at a b h k =
      let i = pair_number a b in
      let l = pair_below a b (count m) h k in
      ap (λ (x : List ℕ). not (eqb (get_or x i 0) 0)) kept
      ∙ ap (λ (x : ℕ). not (eqb x 0)) (list_at (λ j. common_byte (get_or (all_edges (plate m)) j 0) (get_or st j 0)) _ i (rw (edges_long m) l))
      ∙ bit (eqb (get_or st i 0) 0) (get_or (all_edges (plate m)) i 0)
      ∙ ap (λ (e : Bool). cond (remaining st i) e false)
      (all_edges_lem (plate m) (lawful m) i ∙ edge_at m a b (record { up = h; marks = k }))
    where
      bit : (y : Bool) (x : ℕ) → not (eqb (cond y 0 x) 0) ≡ cond (not y) (not (eqb x 0)) false
      bit true x = refl
      bit false x = refl

  pub common_clean : Clean m own
  common_clean = record { edges = λ a b h k r. second (remaining st (pair_number a b)) (empty_edge m a b) (sym (own_at a b h k) ∙ r) }
    where
      second : (x y : Bool) → cond x y false ≡ true → y ≡ true
      second true y e = e
      second false true e = refl
      second false false e = e

  same : (a b : ℕ) → a < b → edges_of m (remaining own) a b ≡ edges_of m (remaining st) a b
  unfolding edges_of pairs_of
  same a b h = go (dec_lt (pair_number a b) (pair_count (count m)))
    where
      both : (x y : Bool) → cond (cond x y false) y false ≡ cond x y false
      both true true = refl
      both true false = refl
      both false y = refl

      past : (x : List ℕ) → length x ≡ pair_count (count m) → pair_count (count m) ≤ pair_number a b → remaining x (pair_number a b) ≡ false
      past x e l = remaining_not x (pair_number a b) (get_or-eq_default x 0 (rw e l))

      go : Dec (pair_number a b < pair_count (count m)) → cond (remaining own (pair_number a b)) (empty_edge m a b) false ≡ cond (remaining st (pair_number a b)) (empty_edge m a b) false
      go (yes l) =
          let p = place m (pair_number a b) (sym (pair_at_number a b h)) l in
          ap (λ (x : Bool). cond x (empty_edge m a b) false) (own_at a b h p.mark) ∙ both (remaining st (pair_number a b)) (empty_edge m a b)
      go (no d) =
          let l : pair_count (count m) ≤ pair_number a b = omega arith in
          ap (λ (x : Bool). cond x (empty_edge m a b) false) (past own common_long l ∙ sym (past st long l))

  pub common_rows : {d : List Set} → Rows m (edges_of m (remaining own)) d → Rows m (edges_of m (remaining st)) d
  common_rows = rows_same same
