-- `Edges::is_crossed` meets its contract. The loop's invariant: of the marks left of p to q, those no longer in the set have no edge that
-- crosses (p, q). An edge that crosses has one end on the left, so at the end there is none. Assumes nothing.
use mathlib.Core.Path.{refl, sym, ap, ◌∙◌}
use mathlib.Core.List.{List}
use lib.IntN.{ℤ}
use Rattle.sets.proofs.Laws.Members.{first_member}
use Rattle.sets.proofs.Laws.Pop.{taken, ended}
use Rattle.sides.specs.Sides.{left_set}
use Rattle.certificates.proofs.Crossing.{pass_start, pass_next, pass_end, from_crosses, from_none}
use Rattle.certificates.proofs.edges.Edges.is_crossed.Goals as goal

pub loop-r-init : goal.loop-r-init
loop-r-init c =
    pass_start _ _ _ _ (c.into_iter-r-iterator.ensures.into_iter_gives ∙ c.left_set-r-items.ensures.left
    ∙ ap (λ (m : List ℤ). left_set m c.args.p c.args.q) c.lefts.ensures.lefts)

pub is_crossed_from-requires-clause-r_bound : goal.is_crossed_from-requires-clause-r_bound
is_crossed_from-requires-clause-r_bound c = (taken c.in-Some.ensures.steps).small

pub returns-then-is_crossed_from : goal.returns-then-is_crossed_from
returns-then-is_crossed_from c =
    let t = taken c.in-Some.ensures.steps in
    let left = c.loop-r.invariant.lefts _ t.small (first_member _ _ t.first t.small) in
    let hit = sym c.is_crossed_from.ensures.crossed ∙ c.if-is_crossed_from.true in
    record { crossed = sym (from_crosses _ _ _ _ (record { up = c.requires.p_lt_q; marks = c.requires.q_is_mark }) _ left hit) }

pub loop-r-preserved : goal.loop-r-preserved
loop-r-preserved c =
    let t = taken c.in-Some.ensures.steps in
    pass_next _ _ _ _ _ t.first t.rest (sym c.is_crossed_from.ensures.crossed ∙ c.if-is_crossed_from.false) c.loop-r.invariant

pub returns : goal.returns
returns c = record {
  crossed =
      sym (from_none _ _ _ _ (record { up = c.requires.p_lt_q; marks = c.requires.q_is_mark }) c.lefts.ensures.plate.few
      c.requires.clean.edges (pass_end _ _ _ _ refl (ended c.in-None.ensures.steps) c.loop-r.invariant));
}
