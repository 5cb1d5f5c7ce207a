-- "Numbers the controller shows": when each row of the table applies; and when the certificate request gives each of its answers.
--   SearchRow m st budget n d    of a search, row n applies, with detail d
--   RequestRow m st a b n d      the same of a certificate request
--   Lowest R x                   x, a number and a detail, is the lowest of the rows R that apply
--   None R                       none of the rows R applies
--   IsAnswer m st a b x          the certificate request answers x
use Rattle.std.specs.Prelude.{◌≡◌, true, false, List, ℕ, ◌≤◌, ◌<◌, length, get_or, ℤ, Result, Ok, Err}
use Rattle.refusals.specs.declared.Refusal.{Refusal}
use Rattle.plane.specs.Marks.{count}
use Rattle.pairs.specs.Pairs.{pair_count}
use Rattle.plane.specs.Edge.{empty_edge}
use Rattle.plane.specs.Hull.{hull_edge, inner_edge}
use Rattle.refusals.specs.Check.{Shown, shown, Refused, verdict}
use Rattle.striking.specs.Status.{remaining}
use Rattle.striking.specs.Search.{answer8, search_result}
use Rattle.skeleton.specs.declared.request.Reply.{Reply}
use Rattle.skeleton.specs.declared.request.Reply.TheVariants.{Hull, NotEmpty, Certified, Uncertified}
use Rattle.certificates.specs.Certificate.{HasCertificate, IsFirst, certificate_of}
use Rattle.certificates.specs.Plate.{edges_of, plate}
use Rattle.certificates.specs.Rule9.{IsPair}

-- ---- the rows, each with its "given exactly when" and its detail
pub data SearchRow (m : List ℤ) (st : List ℕ) (budget : ℕ) : ℕ → ℕ → Type 0 where
  -- 1 to 4, of the list alone
  list : (x : Shown) → Refused (verdict m) x → SearchRow m st budget x.number x.detail
  -- 5: "status buffer not n(n-1)/2 long", n(n-1)/2
  buffer : (length st ≡ pair_count (count m) → ⊥) → SearchRow m st budget 5 (pair_count (count m))
  -- 8: "search, see above", pair number
  uncrossed : (i : ℕ) → (search_result (plate m) budget).outcome ≡ answer8 i → SearchRow m st budget 8 i

pub data RequestRow (m : List ℤ) (st : List ℕ) (a b : ℕ) : ℕ → ℕ → Type 0 where
  -- 1 to 5, as for the search
  list : (x : Shown) → Refused (verdict m) x → RequestRow m st a b x.number x.detail
  buffer : (length st ≡ pair_count (count m) → ⊥) → RequestRow m st a b 5 (pair_count (count m))
  -- 6: "certificate request, a byte above 2", index of the first
  byte : (k : ℕ) → k < length st → 2 < get_or st k 0 → ((j : ℕ) → j < k → get_or st j 0 ≤ 2) → RequestRow m st a b 6 k
  -- 7: "certificate request, not a < b < n", 0
  pair : (IsPair m a b → ⊥) → RequestRow m st a b 7 0

-- "The lowest number that applies is given"
pub record Lowest (R : ℕ → ℕ → Type 0) (x : Shown) : Type 0 where
  pub applies : R x.number x.detail
  pub lowest : (n d : ℕ) → R n d → x.number ≤ n

abbrev pub None : (ℕ → ℕ → Type 0) → Type 0
None R = (n d : ℕ) → R n d → ⊥

-- ---- the certificate request
-- "It returns hull, not empty, the first certificate, or none; none exactly if there is none."
pub data IsAnswer (m : List ℤ) (st : List ℕ) (a b : ℕ) : Result Reply Refusal → Type 0 where
  refused : (x : Refusal) → Lowest (RequestRow m st a b) (shown x) → IsAnswer m st a b (Err x)
  not_empty : None (RequestRow m st a b) → empty_edge m a b ≡ false → IsAnswer m st a b (Ok NotEmpty)
  hull : None (RequestRow m st a b) → hull_edge m a b ≡ true → IsAnswer m st a b (Ok Hull)
  certified :
      None (RequestRow m st a b) → inner_edge m a b ≡ true → (r s : ℕ) → IsFirst m (edges_of m (remaining st)) a b r s →
      IsAnswer m st a b (Ok (Certified (certificate_of a b r s)))
  uncertified :
      None (RequestRow m st a b) → inner_edge m a b ≡ true → (HasCertificate m (edges_of m (remaining st)) a b → ⊥) →
      IsAnswer m st a b (Ok Uncertified)
