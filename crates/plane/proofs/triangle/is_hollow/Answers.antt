-- `triangle::is_hollow` meets its contract: it asks of every mark. Assumes nothing.
use mathlib.Core.Path.{◌≡◌, refl}
use mathlib.Core.Bool.{true, false}
use native.Mathlib.Omega.{arith}
use borrow.Author.Tests.{tests}
use Rattle.plane.specs.Marks.{count}
use Rattle.plane.specs.Triangle.{outside, hollow}
use Rattle.plane.proofs.Laws.Numbers.{all_by_cases}
use Rattle.std.proofs.lemmas.Iterator.{cases_from_all, YieldsList-from_range}
use Rattle.std.proofs.Common.{rules}
use Rattle.plane.proofs.triangle.is_hollow.Goals as goal

pub returns : goal.returns
unfolding hollow outside
returns c =
    let f = outside c.args.m.now c.args.p c.args.q c.args.r in
    record {
      hollow =
          all_by_cases f _ _ (cases_from_all _ _ _ (λ k. f k ≡ true) (λ k. f k ≡ false) c.all.ensures.ran
          (YieldsList-from_range 0 c.count.result (count c.args.m.now) refl (omega (arith, c.count.ensures.counted))) (λ x q k. search (rules, tests)) (λ x q k. search (rules, tests)));
    }
