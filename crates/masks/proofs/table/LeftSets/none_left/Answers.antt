-- `LeftSets::none_left` meets its contract. Three left sets have a mark in common exactly if that mark is left of all three sides. Assumes nothing.
use Rattle.masks.proofs.Laws.Triangle.{none_three}
use Rattle.masks.proofs.table.LeftSets.none_left.Goals as goal

pub returns : goal.returns
returns c = record {
  none =
      none_three _ _ _ _ c.left_set-x.ensures.left c.left_set-y.ensures.left c.left_set-z.ensures.left
      c.intersection.ensures.both c.intersection-2.ensures.both c.is_empty.ensures.none;
}
