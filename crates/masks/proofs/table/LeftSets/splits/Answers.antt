-- `LeftSets::splits` meets its contract. The four left sets tell on which sides of the line from r to i the marks p and q lie. Assumes nothing.
use Rattle.masks.proofs.Laws.Cross.{split_four}
use Rattle.masks.proofs.table.LeftSets.splits.Goals as goal

pub returns : goal.returns
returns c = record {
  split =
      split_four _ _ _ _ c.left_set-x.ensures.left c.left_set-y.ensures.left c.left_set-z.ensures.left
      c.left_set-w.ensures.left c.intersection.ensures.both c.intersection-2.ensures.both c.union.ensures.either;
}
