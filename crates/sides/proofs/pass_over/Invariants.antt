-- The invariant of the loop of `sides::pass_over`: the marks from k on are passed. A mark more is a digit below the others.
use Prim.Native.Nat.{◌-◌, ◌≤◌}
use Rattle.sides.specs.Sides.{Passed}
use Rattle.sides.proofs.Laws.{found}
use Rattle.sides.proofs.pass_over.Given as goal

abbrev pub invariant-loop-k : goal.invariant-loop-k
invariant-loop-k l = (l.lo ≤ l.k) × Passed l.m l.a l.b l.k (l.hi - l.k) (found l.left l.right l.clear)
