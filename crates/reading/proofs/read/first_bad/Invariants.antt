-- The invariant of the loop of `read::first_bad`: what is left is the text from line n on, and the lines passed are not bad.
use Rattle.std.proofs.Common.{◌≡◌, false, ℕ, ◌<◌, length}
use Rattle.reading.specs.Read.{rest_of, is_bad}
use Rattle.reading.proofs.read.first_bad.Given as goal

abbrev pub invariant-loop-rest : goal.invariant-loop-rest
invariant-loop-rest l = record { left : l.rest ≡ rest_of l.text l.n; passed : (k : ℕ) → k < l.n → is_bad l.text k ≡ false }

abbrev pub decreases-loop-rest : goal.decreases-loop-rest
decreases-loop-rest l = length l.rest
