-- `Edges::candidates` meets its contract. Where the rows of p and q and the left set of (a, b) all meet is the set of the candidates. Assumes nothing.
use mathlib.Core.Path.{ap, ◌∙◌}
use mathlib.Core.List.{List}
use lib.IntN.{ℤ}
use Rattle.sides.specs.Sides.{left_set}
use Rattle.certificates.proofs.Candidates.{candidate-set}
use Rattle.certificates.proofs.edges.Edges.candidates.Goals as goal

pub returns : goal.returns
returns c = record {
  found = candidate-set _ _ c.args.p c.args.q c.args.a c.args.b c.neighbours.ensures.near c.neighbours-2.ensures.near
      c.intersection-near.ensures.both (c.left_set.ensures.left ∙ ap (λ (m : List ℤ). left_set m c.args.a c.args.b) c.lefts.ensures.lefts)
      c.intersection.ensures.both;
}
