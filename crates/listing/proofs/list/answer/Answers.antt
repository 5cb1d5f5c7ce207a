-- `list::answer` meets its contract. Assumes nothing.
use mathlib.Core.Path.{◌≡◌, refl, sym, ◌∙◌}
use Prim.Native.Nat.{◌≤◌}
use native.Mathlib.Omega.{arith}
use lib.Seq.{length-take-le}
use Rattle.std.specs.Prelude.{Ok}
use Rattle.reading.specs.Read.{reading_of, refused}
use Rattle.reading.proofs.Answer.{count_small}
use Rattle.listing.proofs.Listed.{answered_refused, answered_read, status_refused, status_read, read_part, stands_as, stands_room}
use Rattle.listing.specs.Program.{answer_text}
use Rattle.listing.proofs.list.answer.Goals as goal
use Rattle.listing.proofs.list.answer.Goals.{In-Ok, In-Err}

was_read : (c : In-Ok) → reading_of c.args.text.now ≡ Ok c.in-Ok.field-0
was_read c = sym c.read.ensures.answered ∙ c.in-Ok.is

few : (c : In-Ok) → c.in-Ok.field-0.count ≤ 2046
few c = count_small _ _ (sym (was_read c))

was_refused : (c : In-Err) → reading_of c.args.text.now ≡ refused c.in-Err.field-0.0
was_refused c = sym c.read.ensures.answered ∙ c.in-Err.is

pub slice_bounds-numbers-end : goal.slice_bounds-numbers-end
slice_bounds-numbers-end c = let n = few (goal.at.slice_bounds-numbers-end c).In-Ok in omega arith

pub slice_bounds-list_cleared-end : goal.slice_bounds-list_cleared-end
slice_bounds-list_cleared-end c = let n = few (goal.at.slice_bounds-list_cleared-end c).In-Ok in sym (length-take-le _ _ (omega arith))

pub returns-in-Err : goal.returns-in-Err
returns-in-Err c =
    let e = was_refused (goal.at.returns-in-Err c).In-Err in
    let h =
    stands_as c.args.out.now (answered_refused c.args.text.now e)
    (c.write_refusal.ensures.counted, c.write_refusal.ensures.written) in
    record {
      counted = h.0;
      written = h.1;
      fits = stands_room c.args.out.now (answer_text c.args.text.now) h refl;
      status = c.requires.cleared ∙ status_refused c.args.text.now e;
    }

pub returns-in-Ok : goal.returns-in-Ok
returns-in-Ok c =
    let l = c.list_cleared.ensures in
    let e = was_read (goal.at.returns-in-Ok c).In-Ok in
    let numbers = read_part c.args.text.now _ _ e c.read.ensures.stored in
    let h = stands_as c.args.out.now (answered_read c.args.text.now e numbers) (l.counted, l.written) in
    record {
      counted = h.0;
      written = h.1;
      fits = stands_room c.args.out.now (answer_text c.args.text.now) h refl;
      status = l.status ∙ status_read c.args.text.now e numbers;
    }
