-- `Edges::right_candidates` meets its contract. It gives all candidates on the right, or none, as the test on three left sets
-- says. Assumes nothing.
use mathlib.Core.Path.{◌≡◌, sym, ap, ◌∙◌}
use mathlib.Core.List.{List}
use lib.IntN.{ℤ}
use Rattle.masks.specs.Table.{none_left}
use Rattle.certificates.proofs.Candidates.{right_all, right_none}
use Rattle.certificates.proofs.edges.Edges.right_candidates.Goals as goal
use Rattle.certificates.proofs.edges.Edges.right_candidates.Goals.{After-none_left}

hollow : (c : After-none_left) → let a = c.args in none_left a.self.now.marks a.p a.q a.r ≡ c.none_left.result
hollow c = sym (c.none_left.ensures.none ∙ ap (λ (m : List ℤ). none_left m c.args.p c.args.q c.args.r) c.lefts.ensures.lefts)

pub returns-then-none_left : goal.returns-then-none_left
returns-then-none_left c = record {
  found =
      right_all _ _ c.args.p c.args.q c.args.r (hollow (goal.at.returns-then-none_left c).After-none_left ∙ c.if-none_left.true) c.requires.rights_value;
}

pub returns-else-none_left : goal.returns-else-none_left
returns-else-none_left c = record {
  found = right_none _ _ c.args.p c.args.q c.args.r (hollow (goal.at.returns-else-none_left c).After-none_left ∙ c.if-none_left.false);
}
