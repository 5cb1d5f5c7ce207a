-- `edge::is_empty_edge` meets its contract: it asks of every mark. Assumes nothing.
use mathlib.Core.Path.{◌≡◌, refl}
use mathlib.Core.Bool.{true, false}
use native.Mathlib.Omega.{arith}
use borrow.Author.Tests.{tests}
use Rattle.plane.specs.Marks.{count}
use Rattle.plane.specs.Edge.{clear, empty_edge}
use Rattle.plane.proofs.Laws.Numbers.{all_by_cases}
use Rattle.std.proofs.lemmas.Iterator.{cases_from_all, YieldsList-from_range}
use Rattle.std.proofs.Common.{rules}
use Rattle.plane.proofs.edge.is_empty_edge.Goals as goal

pub returns : goal.returns
unfolding empty_edge
returns c =
    let f = clear c.args.m.now c.args.a c.args.b in
    record {
      empty =
          all_by_cases f _ _ (cases_from_all _ _ _ (λ k. f k ≡ true) (λ k. f k ≡ false) c.all.ensures.ran
          (YieldsList-from_range 0 c.count.result (count c.args.m.now) refl (omega (arith, c.count.ensures.counted))) (λ x q k. search (rules, tests)) (λ x q k. search (rules, tests)));
    }
