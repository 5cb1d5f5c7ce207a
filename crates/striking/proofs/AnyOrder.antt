-- Strikes in any order, from all empty edges. A locally minimal triangulation is a supported set, so no strike hits it: an edge
-- that was struck is in none. An edge left out of one is crossed by a kept edge, which remains: so an edge that nothing
-- remaining crosses is in all. Where no strike is due any more, the remaining set is supported and holds every supported set.
-- Assumes nothing.
use mathlib.Core.Path.{◌≡◌, sym, ◌∙◌, fun_ext}
use mathlib.Core.Bool.{Bool, true, false}
use mathlib.Core.List.{List}
use Prim.Native.Nat.{ℕ, ◌<◌}
use lib.ListN.{get_or}
use Rattle.striking.specs.System.{System, Within, Lawful, crossed}
use Rattle.striking.specs.Status.{remaining, all_edges, statuses}
use Rattle.striking.specs.Strikes.{Struck}
use Rattle.striking.specs.Demands.{Supported, Largest, LocallyMinimal}
use Rattle.striking.proofs.Tests.{not_both, is_true, is_false, same_test}
use Rattle.striking.proofs.Remaining.{all_edges_lem}
use Rattle.striking.proofs.System.{is_due, crossed_by}
use Rattle.striking.proofs.Strikes.{struck_less, hull_stays, supported_stays}
use Rattle.striking.proofs.Runs.{AllVouched}
use Rattle.striking.proofs.Bytes.{byte_zero, byte_two}

module _ (y : System) (law : Lawful y) {st : List ℕ} (p : Struck y (all_edges y) st) where
  pub rest_edges : Within (remaining st) y.edge
  rest_edges i h = sym (all_edges_lem y law i) ∙ struck_less p i h

  pub rest_below : (i : ℕ) → remaining st i ≡ true → i < y.size
  rest_below i h = law.edges_below i (rest_edges i h)

  supported_rests : {S : ℕ → Bool} → Supported y S → Within S (remaining st)
  supported_rests s = supported_stays law s p (λ i h. all_edges_lem y law i ∙ s.edges i h)

  -- ---- demand 2
  pub rest_largest : Supported y (remaining st) → Largest y (remaining st)
  rest_largest s =
      record { supported = s; hull = λ i h k. hull_stays p i (all_edges_lem y law i ∙ h) k; largest = λ S t. supported_rests t }

  pub rest_supported : AllVouched y y.size (remaining st) → Supported y (remaining st)
  rest_supported v = record { edges = rest_edges; vouched = λ i h k. v i (rest_below i h) (is_due y (remaining st) i h k) }

  -- ---- demand 3
  module _ {T : ℕ → Bool} (t : LocallyMinimal y T) where
    pub minimal_rests : Within T (remaining st)
    minimal_rests = supported_rests (record { edges = t.triangulation.edges; vouched = t.vouched })

    pub uncrossed_in : (i : ℕ) → remaining st i ≡ true → crossed y (remaining st) i ≡ false → T i ≡ true
    uncrossed_in i h c = is_true (T i) (λ f. not_both (hit f) c)
      where
        hit : T i ≡ false → crossed y (remaining st) i ≡ true
        hit f =
            let r = t.triangulation.full i (rest_edges i h) f in
            let k = minimal_rests r.0 r.1 in
            crossed_by y (remaining st) i r.0 (rest_below r.0 k) k r.2

    pub certain_in : (i : ℕ) → get_or (statuses y (remaining st)) i 0 ≡ 2 → T i ≡ true
    certain_in i b = let r = (byte_two y (remaining st) rest_below i).0 b in uncrossed_in i r.0 r.1

    pub impossible_out : (i : ℕ) → get_or (statuses y (remaining st)) i 0 ≡ 0 → T i ≡ false
    impossible_out i b =
        is_false (T i) (λ f. not_both (minimal_rests i f) ((byte_zero y (remaining st) rest_below i).0 b))

-- two largest sets hold one another
pub largest_same : {y : System} {S S' : ℕ → Bool} → Largest y S → Largest y S' → S ≡ S'
largest_same {y} {S} {S'} a b =
    fun_ext (λ i. same_test (S i) (S' i) (b.largest S a.supported i) (a.largest S' b.supported i))
