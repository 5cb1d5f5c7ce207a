-- `LeftSets::left_set` meets its contract. The table has the set of every ordered pair. Assumes nothing.
use mathlib.Core.Path.{ap, ◌∙◌}
use mathlib.Core.List.{List}
use lib.IntN.{ℤ}
use Rattle.sides.specs.Sides.{left_set}
use Rattle.masks.specs.Table.{entry}
use Rattle.masks.proofs.table.LeftSets.left_set.Goals as goal

pub returns : goal.returns
unfolding entry
returns c = record {
  left = c.self.invariant.each _ _ c.requires.p_bound c.requires.q_bound ∙ ap (λ (m : List ℤ). left_set m c.args.p c.args.q) c.self.view_is;
}
