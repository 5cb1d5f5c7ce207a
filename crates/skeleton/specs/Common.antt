-- What two buffers of status bytes have in common, for the contracts of the certificate request's inner functions. No public promise mentions
-- it.
--   common own st  the bytes of own, but 0 where st has 0 (`common_byte` for one of them)
use Rattle.std.specs.Prelude.{cond, List, ℕ, eqb, length, get_or}
use Rattle.striking.specs.Below.{list_below}

unfoldable pub common_byte : ℕ → ℕ → ℕ
common_byte x y = cond (eqb y 0) 0 x

unfoldable pub common : List ℕ → List ℕ → List ℕ
common own st = list_below (length own) (λ i. common_byte (get_or own i 0) (get_or st i 0))
