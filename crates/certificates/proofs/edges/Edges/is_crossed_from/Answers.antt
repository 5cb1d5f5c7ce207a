-- `Edges::is_crossed_from` meets its contract. The marks that r has an edge to, those right of p to q and those that split p from q
-- are three sets, and the marks in all three are the far ends of the edges from r that cross (p, q). Assumes nothing.
use mathlib.Core.Path.{ap, ◌∙◌}
use mathlib.Core.List.{List}
use lib.IntN.{ℤ}
use Rattle.sets.specs.Sets.{set_of}
use Rattle.sides.specs.Sides.{left_set}
use Rattle.masks.specs.Table.{split_mark}
use Rattle.certificates.proofs.Crossing.{from_three}
use Rattle.certificates.proofs.edges.Edges.is_crossed_from.Goals as goal

pub returns : goal.returns
returns c = record {
  crossed = from_three _ _ _ _ _
      c.neighbours.ensures.near
      (c.left_set.ensures.left ∙ ap (λ (m : List ℤ). left_set m c.args.q c.args.p) c.lefts-lefts.ensures.lefts)
      c.intersection-x.ensures.both
      (c.splits.ensures.split ∙ ap (λ (m : List ℤ). set_of (split_mark m c.args.p c.args.q c.args.r)) c.lefts-lefts.ensures.lefts)
      c.intersection.ensures.both
      c.is_empty.ensures.none;
}
