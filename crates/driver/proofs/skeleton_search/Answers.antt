-- `skeleton_search` meets its contract. Assumes nothing.
use mathlib.Core.Path.{sym, ◌∙◌}
use Rattle.driver.proofs.Replies.{returned_short, written_short, reaches_as, outcome_of_lem, search_short, status_short, status_whole}
use Rattle.driver.proofs.skeleton_search.Goals as goal

pub returns-then-res-lt2 : goal.returns-then-res-lt2
returns-then-res-lt2 c =
    let short = search_short c.args.res.now c.args.marks.now c.args.status.now c.args.budget c.if-res-lt2.true in
    record {
      returned = sym (returned_short _ _ short);
      written = sym (written_short _ _ short);
      status = sym (status_short _ _ _ _ c.if-res-lt2.true);
    }

pub returns : goal.returns
returns c =
    let searched = c.search-answer.ensures in
    let reached =
    reaches_as _
    (outcome_of_lem _ _ _ searched.outcome c.status_number.ensures.number c.outcome_numbers.ensures.numbers)
    (c.tell.ensures.returned, c.tell.ensures.written) in
    record {
      returned = reached.0;
      written = reached.1;
      status = searched.status ∙ sym (status_whole _ _ _ _ c.if-res-lt2.false);
    }
