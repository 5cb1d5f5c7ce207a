-- The invariant of the loop of `read::store`: of the first k marks the numbers stand at the list's start, and what is left is the text
-- from line k + 1 on. A mark takes four bytes at least, so that 2,048 numbers are room enough.
use Rattle.std.proofs.Common.{◌≡◌, false, ◌++◌, ℕ, ◌+◌, ◌*◌, ◌/◌, ◌≤◌, ◌<◌, length, drop}
use Rattle.reading.specs.Read.{rest_of, is_over, numbers_to}
use Rattle.reading.proofs.read.store.Given as goal

abbrev pub invariant-loop-line : goal.invariant-loop-line
invariant-loop-line l =
    let k = l.count / 2 in
    record {
      even : l.count ≡ 2 * k;
      left : l.rest ≡ rest_of l.text (k + 1);
      taken : 4 * k + 1 + length l.rest ≤ length l.text;
      stored : l.numbers ≡ numbers_to l.text k ++ drop (2 * k) l.initial.numbers;
      passed : (j : ℕ) → j < k + 1 → is_over l.text j ≡ false;
    }

abbrev pub decreases-loop-line : goal.decreases-loop-line
decreases-loop-line l = length l.rest
