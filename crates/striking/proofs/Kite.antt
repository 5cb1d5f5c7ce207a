-- The kite of 01 as a system, its edges written out by hand: the definitions compute its plates. Of its inner
-- edges 1 and 4, which cross, only 4 can have a certificate, whose sides are the four hull edges. Where not even 4 has one, the
-- search strikes 1 and ends with answer 8 at 4. Assumes nothing.
use mathlib.Core.Path.{◌≡◌, refl}
use mathlib.Core.Bool.{Bool, true, false, cond}
use mathlib.Core.List.{List, [], ◌∷◌}
use Prim.Native.Nat.{ℕ}
use lib.Dec.{eqb, ltb}
use Rattle.striking.specs.Below.{any_below, count_below, list_below}
use Rattle.striking.specs.System.{System, crossed, due}
use Rattle.striking.specs.Status.{remaining, all_edges, status_byte, statuses}
use Rattle.striking.specs.Search.{Outcome, done, paused, answer8}
use Rattle.striking.specs.Search.{examine, visit, visits, rounds, search_from, run, bytes_at, report, search_result}
use Rattle.striking.specs.Demands.{ample}

-- the four hull edges belong to S
abbrev hull_edges : (ℕ → Bool) → Bool
hull_edges S = cond (S 0) (cond (S 2) (cond (S 3) (S 5) false) false) false

-- the kite's edges, where certificates are given by v
abbrev kite_with : ((ℕ → Bool) → ℕ → Bool) → System
kite_with v =
    record {
      size = 6;
      edge = λ i. ltb i 6;
      inner = λ i. cond (eqb i 1) true (eqb i 4);
      cross = λ i j. cond (eqb i 1) (eqb j 4) (cond (eqb i 4) (eqb j 1) false);
      vouched = v;
    }

-- 01's kite
abbrev kite : System
kite = kite_with (λ S i. cond (eqb i 4) (hull_edges S) false)

-- the same edges with no certificate for any
abbrev bare : System
bare = kite_with (λ S i. false)

abbrev Gives : System → ℕ → Outcome → ℕ → List ℕ → Type 0
Gives y budget o e st = search_result y budget ≡ record { outcome = o; examinations = e; status = st }

-- its plates under budgets from 0 to the largest, and how many examinations are ample
pub kite_plates :
    Gives kite 0 paused 0 (2 ∷ 1 ∷ 2 ∷ 2 ∷ 1 ∷ 2 ∷ []) ×
    Gives kite 1 paused 1 (2 ∷ 0 ∷ 2 ∷ 2 ∷ 2 ∷ 2 ∷ []) ×
    Gives kite 2 paused 2 (2 ∷ 0 ∷ 2 ∷ 2 ∷ 2 ∷ 2 ∷ []) ×
    Gives kite 3 done 3 (2 ∷ 0 ∷ 2 ∷ 2 ∷ 2 ∷ 2 ∷ []) ×
    Gives kite 4294967295 done 3 (2 ∷ 0 ∷ 2 ∷ 2 ∷ 2 ∷ 2 ∷ []) ×
    Gives bare 4294967295 (answer8 4) 2 (255 ∷ 255 ∷ 255 ∷ 255 ∷ 255 ∷ 255 ∷ []) ×
    (ample kite ≡ 3)
unfolding search_result report bytes_at run search_from rounds visits visit examine statuses status_byte all_edges remaining crossed due any_below list_below count_below
kite_plates = (refl, refl, refl, refl, refl, refl, refl)
