-- `request::first_above` meets its contract: what `position` gives is the first. Assumes nothing.
use mathlib.Core.Path.{◌≡◌}
use mathlib.Core.Bool.{true, false}
use borrow.Author.Tests.{tests}
use lib.Dec.{ltb}
use Rattle.std.proofs.Common.{rules}
use Rattle.std.proofs.lemmas.Iterator.{YieldsList-from_slice, IsFirst-from_position}
use Rattle.skeleton.specs.Answers.{is_above, first_above}
use Rattle.refusals.proofs.First.{first_in}
use Rattle.skeleton.proofs.request.first_above.Goals as goal

pub returns : goal.returns
unfolding first_above is_above
returns c = record {
  first =
      first_in (ltb 2) c.args.st.now 0 _
      (IsFirst-from_position _ _ _ (λ x. ltb 2 x ≡ true) (λ x. ltb 2 x ≡ false) c.position.ensures.ran
      (YieldsList-from_slice c.args.st.now (search rules)) (λ x q k. search (rules, tests)) (λ x q k. search (rules, tests)));
}
