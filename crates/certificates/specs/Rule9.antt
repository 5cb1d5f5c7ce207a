-- Rule 9, the set of which demand 2 speaks and the number of which demand 3 speaks. A set of edges K is a test of two marks, the
-- smaller number first; what it says of numbers that are no pair plays no part. These sentences and rules 3, 4, 5 and 7 are all
-- that there is to believe: nothing here knows how a search is made.
--   IsPair m a b        (a, b) is a pair of the plate m
--   Kept m K a b        it is one of the set K
--   Triangulation m K   rule 9
--   LocallyMinimal m K  rule 9
--   Supported m K       demand 2: such a set
--   Largest m K         demand 2: the largest such set
--   inner_edges m       how many inner edges there are
--   ample m             demand 3: the examinations within which every search ends
use Rattle.std.specs.Prelude.{◌≡◌, Bool, true, false, List, ℕ, zero, suc, ◌+◌, ◌*◌, ◌/◌, ◌<◌, ℤ}
use Rattle.plane.specs.Marks.{count, IsMark}
use Rattle.plane.specs.Edge.{empty_edge}
use Rattle.plane.specs.Hull.{hull_edge, inner_edge}
use Rattle.striking.specs.Below.{count_below}
use Rattle.certificates.specs.Certificate.{crossing, HasCertificate}

-- "A pair (a, b) has a < b"
pub record IsPair (m : List ℤ) (a b : ℕ) : Type 0 where
  pub up : a < b
  pub marks : IsMark m b

pub record Kept (m : List ℤ) (K : ℕ → ℕ → Bool) (a b : ℕ) : Type 0 where
  pub pair : IsPair m a b
  pub kept : K a b ≡ true

-- "A triangulation here is a set of empty edges, no two of which cross, such that each empty edge left out crosses one kept."
pub record Triangulation (m : List ℤ) (K : ℕ → ℕ → Bool) : Type 0 where
  pub edges : (a b : ℕ) → Kept m K a b → empty_edge m a b ≡ true
  pub apart : (a b c d : ℕ) → Kept m K a b → Kept m K c d → crossing m a b c d ≡ false
  pub full :
      (a b : ℕ) → IsPair m a b → empty_edge m a b ≡ true → K a b ≡ false →
      (c : ℕ) × (d : ℕ) × Kept m K c d × (crossing m a b c d ≡ true)

-- "It is locally minimal if each kept inner edge has a certificate in the kept set."
pub record LocallyMinimal (m : List ℤ) (K : ℕ → ℕ → Bool) : Type 0 where
  pub triangulation : Triangulation m K
  pub certified : (a b : ℕ) → Kept m K a b → inner_edge m a b ≡ true → HasCertificate m K a b

-- a set of empty edges "that holds the hull edges and in which each inner edge has a certificate"
pub record Supported (m : List ℤ) (K : ℕ → ℕ → Bool) : Type 0 where
  pub edges : (a b : ℕ) → Kept m K a b → empty_edge m a b ≡ true
  pub hull : (a b : ℕ) → IsPair m a b → hull_edge m a b ≡ true → K a b ≡ true
  pub certified : (a b : ℕ) → Kept m K a b → inner_edge m a b ≡ true → HasCertificate m K a b

-- "the largest set that holds the hull edges and in which each inner edge has a certificate": it contains every such set
pub record Largest (m : List ℤ) (K : ℕ → ℕ → Bool) : Type 0 where
  pub supported : Supported m K
  pub largest : (K' : ℕ → ℕ → Bool) → Supported m K' → (a b : ℕ) → Kept m K' a b → K a b ≡ true

-- the inner edges (a, b) with b below n
unfoldable pub inner_below : List ℤ → ℕ → ℕ
inner_below m zero = 0
inner_below m (suc b) = inner_below m b + count_below b (λ a. inner_edge m a b)

unfoldable pub inner_edges : List ℤ → ℕ
inner_edges m = inner_below m (count m)

-- "With m inner edges a search ends within m(m+1)/2 examinations."
unfoldable pub ample : List ℤ → ℕ
ample m = inner_edges m * (inner_edges m + 1) / 2
