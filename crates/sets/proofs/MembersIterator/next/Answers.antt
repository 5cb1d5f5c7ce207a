-- `next` keeps what an iterator promises: the next member comes later, so that the members end. Assumes nothing.
use Prim.Native.Nat.{ℕ, ◌<◌}
use Rattle.std.specs.Prelude.{Option, None, Some}
use Rattle.std.specs.Option.{OnSome, IfSome, IfNone}
use Rattle.sets.specs.declared.Set.{Set}
use Rattle.sets.specs.Sets.{PopsFirst, members_left}
use Rattle.sets.proofs.Laws.Pop.{taken, later}
use Rattle.sets.proofs.MembersIterator.next.Goals as goal

fewer : (s t : Set) (r : Option ℕ) → PopsFirst s r t → OnSome r (Unit {0} × Unit {0} × (members_left t < members_left s))
fewer s t None h = tt
fewer s t (Some k) h = (tt, tt, later (taken h))

some : (r : Option ℕ) → IfSome r (λ _. Unit {0})
some None = tt
some (Some k) = tt

none : (r : Option ℕ) → IfNone r (Unit {0})
none None = tt
none (Some k) = tt

pub returns-clause-goes : goal.returns-clause-goes
returns-clause-goes c = record {
  on = λ _. fewer _ _ _ (record { first = c.pop_first.ensures.first; rest = c.pop_first.ensures.rest });
  keeps = some _;
  rests = λ _. none _;
}
