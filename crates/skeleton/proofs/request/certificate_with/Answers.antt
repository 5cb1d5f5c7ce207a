-- `request::certificate_with` meets its contract. Assumes nothing.
use mathlib.Core.Path.{◌≡◌, refl, sym, ap, ◌∙◌, subst}
use lib.IntN.{ℤ}
use mathlib.Core.List.{List}
use Prim.Native.Nat.{ℕ}
use lib.ListN.{length}
use Rattle.plane.specs.Marks.{Plate}
use Rattle.masks.specs.Table.{Table}
use Rattle.striking.specs.Status.{remaining}
use Rattle.certificates.specs.Plate.{edges_of}
use Rattle.certificates.specs.Rows.{Rows}
use Rattle.masks.proofs.Laws.Table.{fill_start}
use Rattle.skeleton.specs.Common.{common}
use Rattle.skeleton.proofs.Common.{edges_long, common_long, common_clean, common_rows}
use Rattle.skeleton.proofs.request.certificate_with.Goals as goal
use Rattle.skeleton.proofs.request.certificate_with.Goals.{After-new-lefts}

pub mark_edges-requires-clause-filled_before : goal.mark_edges-requires-clause-filled_before
mark_edges-requires-clause-filled_before c = fill_start _ refl

pub keep_common-requires : goal.keep_common-requires
keep_common-requires c = ap length c.mark_edges.ensures.edges ∙ edges_long _ ∙ sym c.requires.st_len

pub fill_rows-requires-clause-st_len : goal.fill_rows-requires-clause-st_len
fill_rows-requires-clause-st_len c =
    let e = c.keep_common.ensures.kept ∙ ap (λ (x : List ℕ). common x c.args.st.now) c.mark_edges.ensures.edges in
    common_long _ _ e c.requires.st_len

pub fill_rows-requires-clause-clean : goal.fill_rows-requires-clause-clean
fill_rows-requires-clause-clean c =
    let e = c.keep_common.ensures.kept ∙ ap (λ (x : List ℕ). common x c.args.st.now) c.mark_edges.ensures.edges in
    common_clean _ _ e c.requires.st_len

-- the marks are those of the list that is lent
lent : (c : After-new-lefts) → c.new-lefts.result ≡ c.args.m.now
lent c = c.new-lefts.ensures ∙ c.list.ensures.list

pub new-lefts-requires : goal.new-lefts-requires
new-lefts-requires c = subst (λ (l : List ℤ). Table l c.mark_edges.new.t) (sym c.list.ensures.list) c.mark_edges.ensures.filled

pub new-requires-clause-plate : goal.new-requires-clause-plate
new-requires-clause-plate c =
    subst Plate (sym (lent (goal.at.new-requires-clause-plate c).After-new-lefts)) c.list.ensures.plate

pub new-requires-clause-rows : goal.new-requires-clause-rows
new-requires-clause-rows c =
    let e = c.keep_common.ensures.kept ∙ ap (λ (x : List ℕ). common x c.args.st.now) c.mark_edges.ensures.edges in
    subst (λ (l : List ℤ). Rows l (edges_of l (remaining c.args.st.now)) c.fill_rows.new.d)
    (sym (lent (goal.at.new-requires-clause-rows c).After-new-lefts)) (common_rows _ _ e c.requires.st_len c.fill_rows.ensures.filled)
