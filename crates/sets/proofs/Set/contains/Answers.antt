-- `Set::contains` meets its contract. A shift brings the digit of i to the lowest place. Assumes nothing.
use mathlib.Core.Path.{◌≡◌, sym, ap, ◌∙◌}
use Prim.Native.Nat.{ℕ, ◌-◌, ◌/◌, ◌%◌, ◌^◌}
use native.Mathlib.Omega.{arith}
use lib.Dec.{eqb}
use Rattle.sets.specs.Sets.{in_word}
use Rattle.sets.proofs.Laws.Sets.{has_low, has_high}
use Rattle.sets.proofs.Set.contains.Goals as goal

pub returns-then-i-lt64 : goal.returns-then-i-lt64
unfolding in_word
returns-then-i-lt64 c =
    let e : c.args.i - 0 ≡ c.args.i = omega arith in
    record {
      member = sym (has_low c.args.self c.args.i c.if-i-lt64.true ∙ ap (λ (x : ℕ). eqb (c.args.self.low / 2 ^ x % 2) 1) e);
    }

pub returns-else-i-lt64 : goal.returns-else-i-lt64
unfolding in_word
returns-else-i-lt64 c = record { member = sym (has_high _ c.args.i c.if-i-lt64.false) }
