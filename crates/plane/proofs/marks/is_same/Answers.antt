-- `marks::is_same` meets its contract: equal fields are equal points. Assumes nothing.
use mathlib.Core.Path.{◌∙◌}
use Rattle.plane.proofs.Laws.Marks.{same_fields}
use Rattle.std.proofs.Common.{rules}
use Rattle.plane.proofs.marks.is_same.Goals as goal

pub returns : goal.returns
returns c = record { same = c.eq.ensures ∙ search (rules, same_fields) }
