-- `Search::is_inner` meets its contract: an empty edge is inner exactly if it has a left set on either side. Assumes nothing.
use mathlib.Core.Path.{sym, ◌∙◌, ap}
use mathlib.Core.Bool.{not}
use native.Mathlib.Omega.{arith}
use Rattle.plane.specs.Marks.{IsMark}
use Rattle.sets.specs.Sets.{none}
use Rattle.rounds.specs.Search.{marks}
use Rattle.rounds.proofs.Inner.{inner_no, inner_by}
use Rattle.rounds.proofs.search.Search.is_inner.Goals as goal

pub returns-then-not-is_empty : goal.returns-then-not-is_empty
returns-then-not-is_empty c =
    let r = c.requires in
    let up = r.pair.up in
    let end = r.pair.marks in
    let a_is_mark : IsMark (marks c.args.self.now) c.args.p.a = omega arith in
    record {
      inner =
          ap not (c.is_empty-then-not-is_empty.ensures.none ∙ ap none c.left_set-then-not-is_empty.ensures.left) ∙
          sym (inner_by _ r.ready.accepted.few _ _ a_is_mark r.pair.marks
          (sym (ap none c.left_set.ensures.left) ∙ sym c.is_empty.ensures.none ∙ c.if-not-is_empty.true) r.empty);
    }

pub returns-else-not-is_empty : goal.returns-else-not-is_empty
returns-else-not-is_empty c =
    let r = c.requires in
    let up = r.pair.up in
    let end = r.pair.marks in
    let a_is_mark : IsMark (marks c.args.self.now) c.args.p.a = omega arith in
    record {
      inner =
          ap not c.if-not-is_empty.false ∙
          sym (inner_no _ r.ready.accepted.few _ _ a_is_mark r.pair.marks
          (sym (ap none c.left_set.ensures.left) ∙ sym c.is_empty.ensures.none ∙ c.if-not-is_empty.false));
    }
