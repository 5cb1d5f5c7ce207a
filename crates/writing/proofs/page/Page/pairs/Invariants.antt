-- The invariant of the loop of `Page::pairs`: the lines of the pairs that came are put, and those that are left come next, each with its
-- status byte.
use Rattle.std.proofs.Common.{length, ◌≡◌, ◌≤◌, drop}
use Rattle.std.specs.Iterator.Adapters.{zip_first, zip_second}
use Rattle.std.specs.Slice.Iter.{iter_rest}
use Rattle.pairs.specs.Pairs.{pair_count, all_pairs}
use Rattle.writing.specs.Listing.{pair_texts}
use Rattle.writing.specs.Sheet.{put, sheet}
use Rattle.writing.proofs.page.Page.pairs.Given as goal

abbrev pub invariant-loop-p : goal.invariant-loop-p
invariant-loop-p l = record {
  can : (goal.iterator-loop-p).can_next l.p-iterator;
  ends : (goal.iterator-loop-p).is_finite l.p-iterator;
  pairs : zip_first l.p-iterator ≡ drop (length l.yielded) (all_pairs l.n);
  bytes : iter_rest (zip_second l.p-iterator) ≡ drop (length l.yielded) l.st;
  most : length l.yielded ≤ pair_count l.n;
  lines : sheet l.self ≡ put (sheet l.initial.self) (pair_texts l.st (length l.yielded));
}
