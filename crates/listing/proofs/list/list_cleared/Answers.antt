-- `list::list_cleared` meets its contract: the lent part of cleared bytes is cleared. Assumes nothing.
use mathlib.Core.Path.{sym, ap, ◌∙◌}
use mathlib.Core.List.{List, ◌++◌}
use Prim.Native.Nat.{ℕ}
use lib.ListN.{drop}
use lib.Seq.{length-take-le}
use Rattle.listing.proofs.Listed.{part_room, part_cleared, listed_cleared, listed_status, stands_as}
use Rattle.listing.proofs.list.list_cleared.Goals as goal

pub slice_bounds-list-end : goal.slice_bounds-list-end
slice_bounds-list-end c = part_room _ c.status_room-k.ensures.room c.requires.cleared

pub slice_bounds-list-end-2 : goal.slice_bounds-list-end-2
slice_bounds-list-end-2 c = sym (length-take-le _ _ (part_room _ c.status_room-k.ensures.room c.requires.cleared))

pub returns : goal.returns
returns c =
    let room = c.status_room-k in
    let h = c.list.ensures in
    let text =
    stands_as c.args.out.now
    (listed_cleared c.args.m.now c.args.budget (part_cleared c.args.m.now room.ensures.room c.requires.cleared))
    (h.counted, h.written) in
    record {
      counted = text.0;
      written = text.1;
      status =
          ap (λ (x : List ℕ). x ++ drop room.result c.args.st.now) h.status ∙
          listed_status c.args.m.now c.args.budget room.ensures.room c.requires.cleared;
    }
