-- `refusals::has_twin` meets its contract: some mark before it does not differ. Assumes nothing.
use mathlib.Core.Path.{◌≡◌}
use mathlib.Core.Bool.{true, false}
use Rattle.std.proofs.Common.{rules}
use Rattle.std.proofs.lemmas.Iterator.{YieldsList-from_range, cases_from_any}
use Rattle.refusals.specs.Check.{differs, has_twin}
use Rattle.refusals.proofs.First.{some_passes}
use Rattle.refusals.proofs.has_twin.Goals as goal

pub returns : goal.returns
unfolding has_twin differs
returns c = record {
  twin =
      some_passes (differs c.args.m.now c.args.j) c.args.j _
      (cases_from_any _ _ _ (λ i. differs c.args.m.now c.args.j i ≡ false) (λ i. differs c.args.m.now c.args.j i ≡ true)
      c.any.ensures.ran (YieldsList-from_range 0 c.args.j c.args.j (search rules) (search rules)) (λ x q k. search rules)
      (λ x q k. search rules));
}
