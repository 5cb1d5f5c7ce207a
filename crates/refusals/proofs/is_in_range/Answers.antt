-- `refusals::is_in_range` meets its contract. Assumes nothing.
use mathlib.Core.Path.{◌≡◌, refl, sym, ap, ◌∙◌}
use mathlib.Core.Bool.{Bool, true, false, cond}
use Prim.Native.Nat.{ℕ, suc}
use native.Mathlib.Omega.{arith}
use borrow.Author.Tests.{ltb-true, ltb-false, lt-leb, le-leb, leb-true, leb-false}
use lib.Dec.{leb, ltb}
use lib.IntN.{ℤ, pos, negsuc}
use Rattle.std.proofs.Common.{Less, Equal, Greater}
use Rattle.std.specs.Prelude.{◌&&◌}
use Rattle.std.specs.Ordering.{is_le, int_cmp, partial_le}
use Rattle.std.specs.contracts.prelude.I32PartialOrd.TheImpl as order
use Rattle.plane.proofs.Laws.Bounds.{back}
use Rattle.refusals.specs.Check.{in_range}
use Rattle.refusals.proofs.is_in_range.Goals as goal

below : (a b : ℕ) (s t : Bool) → ltb a b ≡ s → ltb b a ≡ t → is_le (cond s Less (cond t Greater Equal)) ≡ leb a b
below a b true t p q = sym (le-leb a b (let l = ltb-true a b p in omega arith))
below a b false true p q = sym (lt-leb a b (ltb-true b a q))
below a b false false p q = sym (le-leb a b (ltb-false b a q))

within : (z : ℤ) → (partial_le order.partial_cmp-value.it (negsuc 9999) z && partial_le order.partial_cmp-value.it z (pos 10000)) ≡ in_range z
unfolding in_range
within (pos n) = below n 10000 (ltb n 10000) (ltb 10000 n) refl refl
within (negsuc n) = go (is_le (int_cmp (negsuc 9999) (negsuc n))) (below n 9999 (ltb n 9999) (ltb 9999 n) refl refl ∙ up (leb n 9999) refl)
  where
    up : (b : Bool) → leb n 9999 ≡ b → leb n 9999 ≡ leb (suc n) 10000
    up true e = e ∙ sym (le-leb (suc n) 10000 (let l = leb-true n 9999 e in omega arith))
    up false e = e ∙ sym (lt-leb (suc n) 10000 (let l = leb-false n 9999 e in omega arith))

    go : (b : Bool) → b ≡ leb (suc n) 10000 → (b && true) ≡ leb (suc n) 10000
    go true e = e
    go false e = e

pub returns : goal.returns
returns c = record {
  ranged =
      rw (c.contains.ensures.value, c.new.ensures.start, c.new.ensures.end, c.new.ensures.exhausted)
      (ap (λ (z : ℤ). partial_le order.partial_cmp-value.it (negsuc 9999) z && partial_le order.partial_cmp-value.it z (pos 10000))
      (back c.ranges.z)
      ∙ within c.args.z);
}
