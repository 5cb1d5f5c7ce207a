-- `table::store_pair` meets its contract. What the pass has found is written for both orders, and no other entry is touched. Assumes nothing.
use mathlib.Core.Path.{◌∙◌}
use native.Mathlib.Omega.{arith}
use Rattle.sides.proofs.Laws.{kind_found}
use Rattle.masks.proofs.Laws.Table.{fill_next}
use Rattle.masks.proofs.table.store_pair.Goals as goal

pub returns-clause-kind : goal.returns-clause-kind
returns-clause-kind c =
    c.kind_by.ensures.kind ∙ kind_found c.sides_of-x.ensures.plate (omega arith) c.requires.b_is_mark c.sides_of-x.ensures.found

pub returns-clause-filled : goal.returns-clause-filled
returns-clause-filled c =
    let x = c.sides_of-x.ensures.found in
    let few = c.sides_of-x.ensures.plate.few in
    fill_next c.args.a c.args.b c.requires.a_lt_b (omega arith) c.requires.filled_before x.lefts x.rights
