-- `Edges::is_match` meets its contract. The weights fit an i32, so that the machine compares them as numbers; where pq is not
-- the heavier it does not matter whether the segments cross. Assumes nothing.
use mathlib.Core.Path.{◌≡◌, sym, ap, ◌∙◌, subst}
use mathlib.Core.List.{List}
use Prim.Native.Nat.{◌<◌}
use native.Mathlib.Omega.{arith}
use borrow.Author.Tests.{not-true, not-false}
use lib.IntN.{ℤ}
use lib.Signed.{le_z}
use Rattle.plane.specs.Marks.{Plate}
use Rattle.plane.proofs.Laws.Bounds.{rd}
use Rattle.masks.specs.Table.{none_left}
use Rattle.striking.proofs.Tests.{not_both}
use Rattle.certificates.proofs.Rule7.{lighter}
use Rattle.certificates.proofs.Apexes.{compared, across_has, goes_light, goes_across, goes_apart}
use Rattle.certificates.proofs.edges.Edges.is_match.Goals as goal
use Rattle.certificates.proofs.edges.Edges.is_match.Goals.{then-weight, else-weight, After-of-m, After-weight-2}

-- the marks are those of the list that is lent
lent : (c : After-of-m) → c.of-m.result ≡ c.args.self.now.marks
lent c = c.of-m.ensures ∙ c.list.ensures ∙ c.lefts-lefts.ensures.lefts

pub of-m-requires : goal.of-m-requires
of-m-requires c = subst Plate (sym (c.list.ensures ∙ c.lefts-lefts.ensures.lefts)) c.lefts-lefts.ensures.plate

weighed :
    (c : After-weight-2) →
    let a = c.args in
    le_z (rd c.weight.result) (rd c.weight-2.result) ≡ lighter a.self.now.marks a.p a.q a.r a.s
weighed c =
    compared _ _ _ _ _ c.point.ensures c.point-2.ensures c.point-3.ensures
    c.point-4.ensures (record { sfits = c.weight.type_inv }) (record { sfits = c.weight-2.type_inv })
    c.weight.ensures.weighed c.weight-2.ensures.weighed
    ∙ ap (λ (m : List ℤ). lighter m c.args.p c.args.q c.args.r c.args.s) (c.of-m.ensures ∙ c.list.ensures ∙ c.lefts-lefts.ensures.lefts)

pub returns-then-not-contains : goal.returns-then-not-contains
returns-then-not-contains c =
    let few = c.lefts-lefts.ensures.plate.few in
    let s_small : c.args.s < 128 = omega arith in
    record {
      fits =
          c.none_left.ensures.none ∙ ap (λ (m : List ℤ). none_left m c.args.q c.args.p c.args.s) c.lefts-lefts.ensures.lefts ∙
          elim c.if-weight.branch [
            | then-weight w ↦ goes_light _ _ _ _ _ (sym (weighed (goal.at.returns-then-not-contains c).After-weight-2) ∙ w.if-weight.true)
            | else-weight w ↦
                goes_apart _ _ _ _ _ (across_has _ _ _ _ _ s_small c.requires.across_value w.contains.ensures.member
                ∙ not-true _ (sym w.value-is ∙ c.if-not-contains.true))
          ];
    }

pub returns-else-not-contains : goal.returns-else-not-contains
returns-else-not-contains c =
    let few = c.lefts-lefts.ensures.plate.few in
    let s_small : c.args.s < 128 = omega arith in
    record {
      fits = elim c.if-weight.branch [
        | then-weight w ↦ not_both w.if-weight.true (sym w.value-is ∙ c.if-not-contains.false)
        | else-weight w ↦
            c.if-not-contains.false ∙
            goes_across _ _ _ _ _ (sym (weighed (goal.at.returns-else-not-contains c).After-weight-2) ∙ w.if-weight.false)
            (across_has _ _ _ _ _ s_small c.requires.across_value w.contains.ensures.member
            ∙ not-false _ (sym w.value-is ∙ c.if-not-contains.false))
      ];
    }
