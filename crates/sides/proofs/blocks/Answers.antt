-- `sides::blocks` meets its contract: off the line nothing blocks. Assumes nothing.
use mathlib.Core.Path.{◌≡◌, sym, ◌∙◌, ap}
use mathlib.Core.Bool.{not}
use Rattle.plane.specs.Marks.{mark}
use Rattle.plane.specs.Side.{on_line}
use Rattle.plane.proofs.Laws.Asked.{read, asked_on}
use Rattle.plane.proofs.Laws.Edge.{clear_off}
use Rattle.sides.proofs.blocks.Goals as goal
use Rattle.sides.proofs.blocks.Goals.{After-is_on}

-- whether the mark is on the line
lined : (c : After-is_on) → let m = c.args.m.now in c.is_on.result ≡ on_line (mark m c.args.a) (mark m c.args.b) (mark m c.args.k)
lined c = asked_on _ _ _ (read c.ranges.s c.requires.s_value) c.is_on.ensures.on

pub is_blocking-requires-clause-on_value : goal.is_blocking-requires-clause-on_value
is_blocking-requires-clause-on_value c =
    sym c.if-is_on.true ∙ lined (goal.at.is_blocking-requires-clause-on_value c).After-is_on

pub returns-else-is_on : goal.returns-else-is_on
returns-else-is_on c = record {
  blocking =
      c.if-is_on.false ∙
      sym (ap not (clear_off _ _ _ _ (sym (lined (goal.at.returns-else-is_on c).After-is_on) ∙ c.if-is_on.false)));
}
