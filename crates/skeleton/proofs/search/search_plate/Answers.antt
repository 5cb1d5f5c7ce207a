-- `search::search_plate` meets its contract. Assumes nothing.
use mathlib.Core.List.{List}
use Prim.Native.Nat.{ℕ}
use lib.IntN.{ℤ}
use mathlib.Core.Path.{◌≡◌, refl, sym, ap, ◌∙◌, subst}
use lib.ListN.{length}
use Rattle.masks.proofs.Laws.Table.{fill_start}
use Rattle.striking.specs.Status.{all_edges}
use Rattle.striking.specs.Search.{Final, search_from, bytes_at, report, run}
use Rattle.striking.specs.Search as striking
use Rattle.certificates.specs.Plate.{plate}
use Rattle.certificates.specs.Rows.{Clean}
use Rattle.skeleton.specs.Answers.{told}
use Rattle.masks.specs.Table.{Table}
use Rattle.rounds.specs.Run.{as_final, outcome_by, Ready}
use Rattle.rounds.specs.Search.{Place, remains}
use Rattle.std.proofs.Common.{rules}
use Rattle.rounds.proofs.Readiness.{clean_start}
use Rattle.skeleton.proofs.Common.{edges_long}
use Rattle.striking.specs.Search as striking
use Rattle.skeleton.proofs.search.search_plate.Goals as goal
use Rattle.skeleton.proofs.search.search_plate.Goals.{After-new-lefts, After-rounds-run}

from : {x : List ℕ} (y : List ℕ) {z : List ℕ} → x ≡ y → y ≡ z → x ≡ z
from y e f = e ∙ f

pub mark_edges-requires-clause-filled_before : goal.mark_edges-requires-clause-filled_before
mark_edges-requires-clause-filled_before c = fill_start _ refl

pub fill_rows-requires-clause-st_len : goal.fill_rows-requires-clause-st_len
unfolding plate
fill_rows-requires-clause-st_len c = ap length c.mark_edges.ensures.edges ∙ edges_long c.args.m.now

pub fill_rows-requires-clause-clean : goal.fill_rows-requires-clause-clean
unfolding plate
fill_rows-requires-clause-clean c = subst (Clean _) (sym c.mark_edges.ensures.edges) (clean_start _)

-- the marks are those of the list that is lent
lent : (c : After-new-lefts) → c.new-lefts.result ≡ c.args.m.now
lent c = c.new-lefts.ensures ∙ c.list.ensures.list

pub new-lefts-requires : goal.new-lefts-requires
new-lefts-requires c = subst (λ (l : List ℤ). Table l c.mark_edges.new.t) (sym c.list.ensures.list) c.mark_edges.ensures.filled

pub of-search-requires : goal.of-search-requires
unfolding plate
of-search-requires c =
    let e = c.mark_edges.ensures.edges in
    subst (λ (l : List ℤ). Ready l c.mark_edges.new.st c.fill_rows.new.d) (sym (lent (goal.at.of-search-requires c).After-new-lefts)) (record {
      accepted = c.list.ensures.plate;
      long = ap length e ∙ edges_long c.args.m.now;
      clean = subst (Clean _) (sym e) (clean_start _);
      rows = c.fill_rows.ensures.filled;
    })

-- the rounds are those of the search of the marks, from all edges
found :
    (c : After-rounds-run) → c.new-lefts.result ≡ c.args.m.now →
    as_final c.rounds-run.result (remains c.rounds-run.new.self) ≡
    search_from (plate c.args.m.now) c.args.budget 0 (all_edges (plate c.args.m.now))
found c l =
    c.rounds-run.ensures.searched ∙
    ap (λ (x : Place). search_from (plate x.marks) c.args.budget 0 (remains c.of-search.result)) c.of-search.ensures.place ∙
    ap (λ (m : List ℤ). search_from (plate m) c.args.budget 0 (remains c.of-search.result)) l ∙
    ap (search_from (plate c.args.m.now) c.args.budget 0) (c.of-search.ensures.remains ∙ c.mark_edges.ensures.edges)

pub returns-clause-outcome : goal.returns-clause-outcome
unfolding striking.search_result report run as_final
returns-clause-outcome c =
    let at = goal.at.returns-clause-outcome c in
    c.finish.ensures.outcome ∙ ap (λ (f : Final). told f.outcome f.examinations) (found at.After-rounds-run (lent at.After-new-lefts))

pub returns-clause-status : goal.returns-clause-status
unfolding striking.search_result report run as_final
returns-clause-status c =
    let at = goal.at.returns-clause-status c in
    let e = c.rounds-run.ensures.place ∙ c.of-search.ensures.place in
    let m = ap (λ (x : Place). x.marks) e ∙ lent at.After-new-lefts in
    from (remains c.finish.new.search) (search rules)
    (c.finish.ensures.status ∙
    ap (λ (x : List ℤ). bytes_at (plate x) (outcome_by c.rounds-run.result.halt) (remains c.rounds-run.new.self)) m ∙
    ap (λ (f : Final). bytes_at (plate c.args.m.now) f.outcome f.rest) (found at.After-rounds-run (lent at.After-new-lefts)))
