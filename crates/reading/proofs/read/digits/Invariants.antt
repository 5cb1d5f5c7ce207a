-- The invariant of the loop of `read::digits`: the bytes passed are digits, and v is what they spell.
use Rattle.std.proofs.Common.{◌≡◌, true, take}
use Rattle.reading.specs.Text.{all_digits, value_of}
use Rattle.reading.proofs.read.digits.Given as goal

abbrev pub invariant-loop-b : goal.invariant-loop-b
invariant-loop-b l = (all_digits (take l.b-index l.part) ≡ true) × (l.v ≡ value_of (take l.b-index l.part))
