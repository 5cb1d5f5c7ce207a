-- `list::status_room` meets its contract. Assumes nothing.
use mathlib.Core.Path.{sym, ap, ◌∙◌, subst}
use Prim.Native.Nat.{ℕ, ◌≤◌, ◌<◌}
use borrow.Author.Tests.{lt-ltb, le-ltb}
use Rattle.pairs.specs.Pairs.{pair_count}
use Rattle.listing.specs.Program.{status_room}
use Rattle.plane.proofs.Laws.Tells.{cond_yes, cond_no}
use Rattle.listing.proofs.list.status_room.Goals as goal

pub returns-then-n-gt128 : goal.returns-then-n-gt128
unfolding status_room
returns-then-n-gt128 c = record {
  room = sym (cond_yes _ _ (lt-ltb _ _ (subst (λ (k : ℕ). 128 < k) c.count-n.ensures.counted c.if-n-gt128.true)));
}

pub returns-else-n-gt128 : goal.returns-else-n-gt128
unfolding status_room
returns-else-n-gt128 c =
    let e = c.count-n.ensures.counted in
    record {
      room =
          c.pair_count.ensures.counted ∙ ap pair_count e ∙
          sym (cond_no _ _ (le-ltb _ _ (subst (λ (k : ℕ). k ≤ 128) e c.if-n-gt128.false)));
    }
