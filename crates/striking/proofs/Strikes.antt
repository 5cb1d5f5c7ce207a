-- What strikes in any order leave. A hull edge is never struck, nor one that nothing remaining crosses; and a supported set is
-- never hit, since each of its inner edges keeps its certificate as long as the set remains around it. Assumes nothing.
use mathlib.Core.Path.{◌≡◌, ◌∙◌, subst}
use mathlib.Core.Bool.{Bool, true, false}
use mathlib.Core.List.{List}
use Prim.Native.Nat.{ℕ}
use lib.ListN.{set}
use Rattle.striking.specs.System.{System, Within, Lawful, crossed}
use Rattle.striking.specs.Status.{remaining}
use Rattle.striking.specs.Strikes.{Struck, nothing, next}
use Rattle.striking.specs.Demands.{Supported}
use Rattle.striking.proofs.Tests.{not_both, is_false}
use Rattle.striking.proofs.Remaining.{others_stay, struck_within}
use Rattle.striking.proofs.System.{due_inner, crossed_more}

module _ {y : System} where
  pub struck_trans : {a b c : List ℕ} → Struck y a b → Struck y b c → Struck y a c
  struck_trans p nothing = p
  struck_trans p (next i q d v c) = next i (struck_trans p q) d v c

  pub struck_less : {a b : List ℕ} → Struck y a b → Within (remaining b) (remaining a)
  struck_less nothing i h = h
  struck_less (next {st' = b} j q d v c) i h = struck_less q i (struck_within b j i h)

  -- a hull edge stays
  pub hull_stays :
      {a b : List ℕ} → Struck y a b → (i : ℕ) → remaining a i ≡ true → y.inner i ≡ false → remaining b i ≡ true
  hull_stays nothing i h k = h
  hull_stays (next {st' = b} j q d v c) i h k = others_stay b j i off ∙ hull_stays q i h k
    where
      off : i ≡ j → ⊥
      off e = not_both (due_inner y (remaining b) j d) (subst (λ (n : ℕ). y.inner n ≡ false) e k)

  -- an edge that nothing remaining crosses stays, and stays so
  pub uncrossed_stays :
      {a b : List ℕ} → Struck y a b → (i : ℕ) → remaining a i ≡ true → crossed y (remaining a) i ≡ false →
      (remaining b i ≡ true) × (crossed y (remaining b) i ≡ false)
  uncrossed_stays nothing i h k = (h, k)
  uncrossed_stays (next {st' = b} j q d v c) i h k =
      let r = uncrossed_stays q i h k in
      let off : i ≡ j → ⊥ = λ e. not_both c (subst (λ (n : ℕ). crossed y (remaining b) n ≡ false) e r.1) in (
        others_stay b j i off ∙ r.0,
        is_false _ (λ t. not_both (crossed_more y (remaining (set b j 0)) (remaining b) (struck_within b j) i t) r.1),
      )

  -- a supported set stays
  module _ (law : Lawful y) {S : ℕ → Bool} (s : Supported y S) where
    pub supported_stays : {a b : List ℕ} → Struck y a b → Within S (remaining a) → Within S (remaining b)
    supported_stays nothing w i h = w i h
    supported_stays (next {st' = b} j q d v c) w i h =
        let ih : Within S (remaining b) = λ n t. supported_stays q w n t in
        others_stay b j i (off ih) ∙ ih i h
      where
        off : Within S (remaining b) → i ≡ j → ⊥
        off ih e =
            let h' : S j ≡ true = subst (λ (n : ℕ). S n ≡ true) e h in
            not_both (law.vouched_grows S (remaining b) ih j (s.vouched j h' (due_inner y (remaining b) j d))) v
