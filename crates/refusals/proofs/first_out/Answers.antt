-- `refusals::first_out` meets its contract: what `position` gives is the first. Assumes nothing.
use mathlib.Core.Path.{◌≡◌}
use mathlib.Core.Bool.{true, false, not}
use lib.IntN.{pos}
use Rattle.std.proofs.Common.{rules}
use Rattle.std.proofs.lemmas.Iterator.{YieldsList-from_slice, IsFirst-from_position}
use Rattle.refusals.specs.Check.{in_range, is_out, first_out}
use Rattle.refusals.proofs.First.{first_in}
use Rattle.refusals.proofs.first_out.Goals as goal

pub returns : goal.returns
unfolding first_out is_out
returns c = record {
  first =
      first_in (λ z. not (in_range z)) c.args.m.now (pos 0) _
      (IsFirst-from_position _ _ _ (λ z. not (in_range z) ≡ true) (λ z. not (in_range z) ≡ false) c.position.ensures.ran
      (YieldsList-from_slice c.args.m.now (search rules)) (λ x q k. search rules) (λ x q k. search rules));
}
