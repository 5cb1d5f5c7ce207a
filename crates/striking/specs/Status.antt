-- What remains, as one byte a pair, and the status bytes.
use Rattle.std.specs.Prelude.{Bool, not, cond, List, ℕ, eqb, get_or}
use Rattle.striking.specs.Below.{list_below}
use Rattle.striking.specs.System.{System, crossed}

-- the set that a list of bytes stands for: a pair belongs to it if its byte is not 0, and past the end of the list there is none
unfoldable pub remaining : List ℕ → ℕ → Bool
remaining bytes i = not (eqb (get_or bytes i 0) 0)

-- "The remaining set starts as all empty edges": 1 for an edge, 0 for any other pair
unfoldable pub all_edges : System → List ℕ
all_edges y = list_below y.size (λ i. cond (y.edge i) 1 0)

-- "not remaining is 0; remaining and crossed by no other remaining edge is 2; any other is 1", where S remains
unfoldable pub status_byte : System → (ℕ → Bool) → ℕ → ℕ
status_byte y S i = cond (S i) (cond (crossed y S i) 1 2) 0

-- the status bytes in pair order, where S remains
unfoldable pub statuses : System → (ℕ → Bool) → List ℕ
statuses y S = list_below y.size (status_byte y S)
