-- Rules 7 and 8. A set of edges K is a test of two marks, the smaller number first.
--   joined K p q               the edge of the marks p and q belongs to K, in whichever order they stand; never asked of p = q
--   crossing m a b c d         the segments ab and cd cross strictly
--   IsCertificate m K p q r s  rule 7 as a sentence: the marks r and s are a certificate of (p, q) in K
--   HasCertificate m K p q     there is one
--   holds_against m p q r s    pq and rs do not cross strictly, or pq is not the heavier
--   apex m K p q r             pqr is an empty triangle whose sides pr and qr belong to K
--   left_apex m K p q r        r is an apex strictly left of p to q
--   right_apex m K p q s       s is one strictly right
--   fits m K p q r s           rule 7 as a test of the marks r and s
--   IsFirst m K p q r s        rule 8 as a sentence: r and s are the first certificate
--   found r s                  the apexes r and s
--   first_certificate m K p q  the apexes of the first certificate, or none where there is none
--   certificate_of p q r s     rule 8: the record that is kept
use Rattle.std.specs.Prelude.{◌≡◌, ◌⊎◌, Bool, true, false, cond, Option, None, Some, List, [], ◌∷◌, ℕ, zero, suc, ◌≤◌, ltb, ℤ, ◌≤ℤ◌}
use Rattle.std.specs.Int.Signed.{le_z}
use Rattle.plane.specs.Marks.{count, mark, IsMark}
use Rattle.pairs.specs.Pairs.{pair_of}
use Rattle.plane.specs.Side.{left_of, right_of}
use Rattle.plane.specs.Weight.{weight}
use Rattle.plane.specs.Cross.{crosses}
use Rattle.plane.specs.Triangle.{empty_triangle}
use Rattle.certificates.specs.declared.certificate.Certificate.{Certificate}
use Rattle.certificates.specs.declared.certificate.Apexes.{Apexes}

unfoldable pub joined : (ℕ → ℕ → Bool) → ℕ → ℕ → Bool
joined K p q = cond (ltb p q) (K p q) (K q p)

abbrev pub crossing : List ℤ → ℕ → ℕ → ℕ → ℕ → Bool
crossing m a b c d = crosses (mark m a) (mark m b) (mark m c) (mark m d)

-- ---- rule 7
-- "A certificate of inner edge (p, q) in a set of empty edges is a mark r strictly left and a mark s strictly right of p to q
-- (p the smaller number), such that pqr and pqs are empty triangles, the four sides pr, qr, ps, qs belong to the set, and either
-- the segments pq and rs don't cross strictly, or weight(pq) <= weight(rs). A straight angle at p or q counts as not crossing."
pub record IsCertificate (m : List ℤ) (K : ℕ → ℕ → Bool) (p q r s : ℕ) : Type 0 where
  pub r_mark : IsMark m r
  pub s_mark : IsMark m s
  pub r_left : left_of (mark m p) (mark m q) (mark m r) ≡ true
  pub s_right : right_of (mark m p) (mark m q) (mark m s) ≡ true
  pub pqr_empty : empty_triangle m p q r ≡ true
  pub pqs_empty : empty_triangle m p q s ≡ true
  pub pr_in : joined K p r ≡ true
  pub qr_in : joined K q r ≡ true
  pub ps_in : joined K p s ≡ true
  pub qs_in : joined K q s ≡ true
  pub light : (crossing m p q r s ≡ false) ⊎ (weight (mark m p) (mark m q) ≤ℤ weight (mark m r) (mark m s))

abbrev pub HasCertificate : List ℤ → (ℕ → ℕ → Bool) → ℕ → ℕ → Type 0
HasCertificate m K p q = (r : ℕ) × (s : ℕ) × IsCertificate m K p q r s

-- the same as a test; the cheap questions first
unfoldable pub holds_against : List ℤ → ℕ → ℕ → ℕ → ℕ → Bool
holds_against m p q r s = cond (crossing m p q r s) (le_z (weight (mark m p) (mark m q)) (weight (mark m r) (mark m s))) true

unfoldable pub apex : List ℤ → (ℕ → ℕ → Bool) → ℕ → ℕ → ℕ → Bool
apex m K p q r = cond (joined K p r) (cond (joined K q r) (empty_triangle m p q r) false) false

unfoldable pub left_apex : List ℤ → (ℕ → ℕ → Bool) → ℕ → ℕ → ℕ → Bool
left_apex m K p q r = cond (left_of (mark m p) (mark m q) (mark m r)) (apex m K p q r) false

unfoldable pub right_apex : List ℤ → (ℕ → ℕ → Bool) → ℕ → ℕ → ℕ → Bool
right_apex m K p q s = cond (right_of (mark m p) (mark m q) (mark m s)) (apex m K p q s) false

unfoldable pub fits : List ℤ → (ℕ → ℕ → Bool) → ℕ → ℕ → ℕ → ℕ → Bool
fits m K p q r s = cond (left_apex m K p q r) (cond (right_apex m K p q s) (holds_against m p q r s) false) false

-- ---- rule 8
-- "The first certificate is that with the smallest r, then the smallest s. The search over r and s stops at the first that fits."
pub record IsFirst (m : List ℤ) (K : ℕ → ℕ → Bool) (p q r s : ℕ) : Type 0 where
  pub certificate : IsCertificate m K p q r s
  pub smallest_r : (r' s' : ℕ) → IsCertificate m K p q r' s' → r ≤ r'
  pub smallest_s : (s' : ℕ) → IsCertificate m K p q r s' → s ≤ s'

abbrev pub found : ℕ → ℕ → Option Apexes
found r s = Some (record { r = r; s = s })

-- the first that is picked by f 0, f 1, .. f (n - 1)
unfoldable pub first_pick : ℕ → (ℕ → Option Apexes) → Option Apexes
first_pick zero f = None
first_pick (suc k) f = elim (first_pick k f) [ None ↦ f k | Some x ↦ Some x ]

unfoldable pub pick_fitting : List ℤ → (ℕ → ℕ → Bool) → ℕ → ℕ → ℕ → ℕ → Option Apexes
pick_fitting m K p q r s = cond (fits m K p q r s) (found r s) None

unfoldable pub pick_right : List ℤ → (ℕ → ℕ → Bool) → ℕ → ℕ → ℕ → Option Apexes
pick_right m K p q r = first_pick (count m) (pick_fitting m K p q r)

unfoldable pub first_certificate : List ℤ → (ℕ → ℕ → Bool) → ℕ → ℕ → Option Apexes
first_certificate m K p q = first_pick (count m) (pick_right m K p q)

-- "A certificate is kept as one record: the two apexes and the four pair numbers of its sides in the order pr, qr, ps, qs."
unfoldable pub certificate_of : ℕ → ℕ → ℕ → ℕ → Certificate
certificate_of p q r s = record { r = r; s = s; sides = pair_of p r ∷ pair_of q r ∷ pair_of p s ∷ pair_of q s ∷ [] }
