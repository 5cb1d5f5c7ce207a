-- `refusals::first_twin` meets its contract: what `find` gives is the first. Assumes nothing.
use mathlib.Core.Path.{◌≡◌, subst}
use mathlib.Core.Bool.{true, false}
use Prim.Native.Nat.{ℕ}
use Rattle.std.proofs.Common.{rules}
use Rattle.std.proofs.lemmas.Iterator.{first_from_Range}
use Rattle.refusals.specs.Check.{has_twin, first_twin, found}
use Rattle.refusals.proofs.First.{first_found}
use Rattle.plane.specs.Numbers.{first_to}
use Rattle.refusals.proofs.first_twin.Goals as goal

pub returns : goal.returns
unfolding first_twin
returns c =
    let first =
    first_found (has_twin c.args.m.now) c.count.result _
    (first_from_Range _ _ _ _ (λ j. has_twin c.args.m.now j ≡ true) (λ j. has_twin c.args.m.now j ≡ false) c.find.ensures.ran
    (λ x q k. search rules) (λ x q k. search rules)) in
    record {
      first = subst (λ (n : ℕ). c.find.result ≡ found (first_to n (has_twin c.args.m.now)) n) c.count.ensures.counted first;
    }
