-- `skeleton_longest_budget` meets its contract. Assumes nothing.
use mathlib.Core.Path.{sym, ◌∙◌, ap₂}
use mathlib.Core.List.{[], ◌∷◌}
use Prim.Native.Nat.{ℕ}
use Rattle.refusals.specs.Check.{shown}
use Rattle.driver.specs.Driver.{told}
use native.Mathlib.Omega.{arith}
use Rattle.driver.proofs.Replies.{reaches_as, longest_many, longest_few, few_pairs, product_small}
use Rattle.driver.proofs.skeleton_longest_budget.Goals as goal

pub returns-then-n-gt128 : goal.returns-then-n-gt128
unfolding shown
returns-then-n-gt128 c =
    let h =
    reaches_as _
    (ap₂ (λ (n d : ℕ). told n (d ∷ [])) (c.from.ensures ∙ c.number.ensures.number) c.detail.ensures.detail ∙
    sym (longest_many _ c.if-n-gt128.true))
    (c.tell.ensures.returned, c.tell.ensures.written) in
    record { returned = h.0; written = h.1 }

pub overflow_add-k : goal.overflow_add-k
overflow_add-k c =
    let l = few_pairs _ c.if-n-gt128.false c.pair_count-k.ensures.counted in
    omega arith

pub overflow_mul-k : goal.overflow_mul-k
overflow_mul-k c =
    let l = product_small _ c.if-n-gt128.false c.pair_count-k.ensures.counted in
    omega arith

pub returns : goal.returns
returns c =
    let h =
    reaches_as _ (longest_few _ _ c.if-n-gt128.false c.pair_count-k.ensures.counted)
    (c.tell-2.ensures.returned, c.tell-2.ensures.written) in
    record { returned = h.0; written = h.1 }
