-- The invariant of the loop of `rows::fill_rows`: the rows are those of the pairs that came, and those that are left come next, each with its
-- status byte.
use Rattle.std.proofs.Common.{length, ◌≡◌, drop}
use Rattle.std.specs.Iterator.Adapters.{zip_first, zip_second}
use Rattle.std.specs.Slice.Iter.{iter_rest}
use Rattle.plane.specs.Marks.{count}
use Rattle.pairs.specs.Pairs.{all_pairs}
use Rattle.striking.specs.Status.{remaining}
use Rattle.certificates.specs.Plate.{edges_of}
use Rattle.certificates.specs.Rows.{Rows, below}
use Rattle.certificates.proofs.rows.fill_rows.Given as goal

abbrev pub invariant-loop-p : goal.invariant-loop-p
invariant-loop-p l = record {
  can : (goal.iterator-loop-p).can_next l.p-iterator;
  ends : (goal.iterator-loop-p).is_finite l.p-iterator;
  pairs : zip_first l.p-iterator ≡ drop (length l.yielded) (all_pairs (count l.m));
  bytes : iter_rest (zip_second l.p-iterator) ≡ drop (length l.yielded) l.st;
  rows : Rows l.m (edges_of l.m (below (length l.yielded) (remaining l.st))) l.d;
}
