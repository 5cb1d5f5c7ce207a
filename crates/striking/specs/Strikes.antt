-- Strikes in any order.
use Rattle.std.specs.Prelude.{◌≡◌, true, false, List, ℕ, set}
use Rattle.striking.specs.System.{System, crossed, due}
use Rattle.striking.specs.Status.{remaining}

-- Strikes lead from one list of bytes to another: each is of an inner edge that remains, has no certificate at that moment and is
-- crossed by a remaining edge.
pub data Struck (y : System) (st : List ℕ) : List ℕ → Type 0 where
  nothing : Struck y st st
  next :
      {st' : List ℕ} (i : ℕ) → Struck y st st' →
      due y (remaining st') i ≡ true → y.vouched (remaining st') i ≡ false → crossed y (remaining st') i ≡ true →
      Struck y st (set st' i 0)
