-- `certificate_numbers` meets its contract: a list of four is its elements. Assumes nothing.
use Rattle.driver.specs.Driver.{certificate_numbers}
use mathlib.Core.Path.{◌≡◌, refl, ap}
use mathlib.Core.List.{List, [], ◌∷◌}
use Prim.Native.Nat.{ℕ}
use native.Mathlib.Omega.{arith}
use lib.ListN.{length, get_or}
use Rattle.std.proofs.Common.{rules}
use Rattle.driver.proofs.certificate_numbers.Goals as goal

four : (l : List ℕ) → length l ≡ 4 → get_or l 0 0 ∷ get_or l 1 0 ∷ get_or l 2 0 ∷ get_or l 3 0 ∷ [] ≡ l
four [] e = absurd (omega arith)
four (a ∷ []) e = absurd (omega arith)
four (a ∷ b ∷ []) e = absurd (omega arith)
four (a ∷ b ∷ c ∷ []) e = absurd (omega arith)
four (a ∷ b ∷ c ∷ d ∷ []) e = refl
four (a ∷ b ∷ c ∷ d ∷ x ∷ l) e = absurd (omega arith)

pub returns : goal.returns
unfolding certificate_numbers
returns c = record {
  numbers = ap (λ (l : List ℕ). c.args.first ∷ c.args.c.r ∷ c.args.c.s ∷ l) (four c.args.c.sides (search rules));
}
