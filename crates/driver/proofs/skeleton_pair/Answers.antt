-- `skeleton_pair` meets its contract. Assumes nothing.
use mathlib.Core.Path.{sym, ap, ◌∙◌}
use mathlib.Core.List.{[], ◌∷◌}
use Prim.Native.Nat.{ℕ}
use native.Mathlib.Nat.{le_of_lt}
use Rattle.driver.specs.Driver.{told}
use Rattle.driver.proofs.Replies.{reaches_as, pair_means, pair_yes, pair_no}
use Rattle.driver.proofs.skeleton_pair.Goals as goal

pub pair_number-requires : goal.pair_number-requires
pair_number-requires c =
    let p = pair_means _ _ (sym c.is_pair.ensures.pair ∙ c.if-is_pair.true) in
    record { a_lt_b = p.0; b_bound = le_of_lt p.1 }

pub returns-then-is_pair : goal.returns-then-is_pair
returns-then-is_pair c =
    let h =
    reaches_as _
    (ap (λ (k : ℕ). told 0 (k ∷ [])) c.pair_number.ensures.numbered ∙ sym (pair_yes _ _ (sym c.is_pair.ensures.pair ∙ c.if-is_pair.true)))
    (c.tell.ensures.returned, c.tell.ensures.written) in
    record { returned = h.0; written = h.1 }

pub returns : goal.returns
returns c =
    let h =
    reaches_as _ (sym (pair_no _ _ (sym c.is_pair.ensures.pair ∙ c.if-is_pair.false)))
    (c.tell-2.ensures.returned, c.tell-2.ensures.written) in
    record { returned = h.0; written = h.1 }
