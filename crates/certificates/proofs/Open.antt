-- Going through a set of marks, smallest first, for the first that picks something. `Open m s g f`: the members of s have g, and
-- every other mark picks nothing by f, whether it lacked g from the start or was tried. So what the first member picks is the first
-- pick, and once s is empty there is none. Assumes nothing.
use mathlib.Core.Path.{◌≡◌, sym, ap, ◌∙◌}
use mathlib.Core.Bool.{Bool, true, false}
use mathlib.Core.List.{List}
use Prim.Native.Nat.{ℕ, ◌≤◌, ◌<◌}
use native.Mathlib.Decide.{ℕ_discrete}
use native.Mathlib.Omega.{arith}
use lib.IntN.{ℤ}
use Rattle.plane.specs.Numbers.{first_to}
use Rattle.plane.specs.Marks.{count, IsMark}
use Rattle.sets.specs.declared.Set.{Set}
use Rattle.sets.specs.Sets.{set_of, has, without}
use Rattle.sets.proofs.Laws.Words.{without_at, without_off}
use Rattle.sets.proofs.Laws.Sets.{has-set}
use Rattle.sets.proofs.Laws.Members.{first_member, first_before, has_rest}
use Rattle.striking.proofs.Tests.{not_both}
use Rattle.std.specs.Prelude.{Option, None}
use Rattle.certificates.specs.declared.certificate.Apexes.{Apexes}
use Rattle.certificates.specs.Certificate.{first_pick, found}
use Rattle.certificates.proofs.First.{pick_none, pick_hit}

pub record Open (m : List ℤ) (s : Set) (g : ℕ → Bool) (f : ℕ → Option Apexes) : Type 0 where
  pub chance : (i : ℕ) → i < 128 → has s i ≡ true → g i ≡ true
  pub tried : (i : ℕ) → IsMark m i → has s i ≡ false → f i ≡ None

pub open_start :
    {m : List ℤ} {s : Set} (g : ℕ → Bool) (f : ℕ → Option Apexes) → count m ≤ 128 → s ≡ set_of g →
    ((i : ℕ) → IsMark m i → g i ≡ false → f i ≡ None) → Open m s g f
open_start {m} {s} g f few e h =
    record { chance = λ i l t. sym (member i l) ∙ t; tried = λ i l t. h i l (sym (member i (omega arith)) ∙ t) }
  where
    member : (i : ℕ) → i < 128 → has s i ≡ g i
    member i l = ap (λ (x : Set). has x i) e ∙ has-set g i l

-- k is the first member
module _ {m : List ℤ} {s : Set} {k : ℕ} {g : ℕ → Bool} {f : ℕ → Option Apexes} (o : Open m s g f) (e : k ≡ first_to 128 (has s)) where
  pub open_at : k < 128 → g k ≡ true
  open_at l = o.chance k l (first_member s k e l)

  pub open_hit : {a b : ℕ} → IsMark m k → f k ≡ found a b → first_pick (count m) f ≡ found a b
  open_hit l h = pick_hit f (count m) k l (λ j u. o.tried j (omega arith) (first_before s k e j u)) h

  pub open_end : count m ≤ 128 → 128 ≤ k → first_pick (count m) f ≡ None
  open_end few l = pick_none f (count m) (λ j u. o.tried j u (first_before s k e j (omega arith)))

  pub open_next : {s' : Set} → count m ≤ 128 → f k ≡ None → s' ≡ set_of (without (has s) k) → Open m s' g f
  open_next {s'} few h q =
      record { chance = λ i l t. kept i l t (ℕ_discrete i k); tried = λ i l t. gone i l t (ℕ_discrete i k) }
    where
      rest : (i : ℕ) → i < 128 → has s' i ≡ without (has s) k i
      rest i l = has_rest s k e s' q i l

      kept : (i : ℕ) → i < 128 → has s' i ≡ true → Dec (i ≡ k) → g i ≡ true
      kept i l t (yes d) = not_both t (rest i l ∙ without_at (has s) k i d)
      kept i l t (no d) = o.chance i l (sym (without_off (has s) k i d) ∙ sym (rest i l) ∙ t)

      gone : (i : ℕ) → IsMark m i → has s' i ≡ false → Dec (i ≡ k) → f i ≡ None
      gone i l t (yes d) = ap f d ∙ h
      gone i l t (no d) = o.tried i l (sym (without_off (has s) k i d) ∙ sym (rest i (omega arith)) ∙ t)
