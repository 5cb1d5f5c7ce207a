-- Rule 7: the test and the sentence say the same. A certificate asks of the set only its four sides, none of which is the edge
-- itself, since an apex lies off the edge's line. Assumes nothing.
use mathlib.Core.Path.{◌≡◌, refl, subst}
use mathlib.Core.Logic.{◌⊎◌, inl, inr}
use mathlib.Core.Bool.{Bool, true, false, cond}
use mathlib.Core.List.{List}
use Prim.Native.Nat.{ℕ, ◌<◌, ◌≤◌}
use native.Mathlib.Decide.{dec_lt}
use native.Mathlib.Omega.{arith}
use borrow.Author.Tests.{lt-ltb, le-ltb}
use lib.Dec.{ltb}
use lib.IntN.{ℤ}
use lib.Signed.{le_z, ◌≤ℤ◌, le_z_yes}
use Rattle.plane.specs.Marks.{mark, IsMark}
use Rattle.plane.specs.Side.{left_of, right_of}
use Rattle.plane.specs.Weight.{weight}
use Rattle.plane.specs.Triangle.{empty_triangle}
use Rattle.plane.proofs.Laws.Tells.{Tells, tells_yes, tells_true, cond_no}
use Rattle.plane.proofs.Laws.Side.{L, rot, rot², same, left_of_tells, right_of_tells}
use Rattle.striking.proofs.Tests.{both, both_first, both_second}
use Rattle.certificates.specs.Certificate.{joined, crossing, IsCertificate, HasCertificate, holds_against, apex, left_apex, right_apex, fits}
use Rattle.certificates.specs.Rule9.{IsPair}

-- ---- the tie rule
le_tells : (x y : ℤ) → Tells (le_z x y) (x ≤ℤ y)
le_tells x y = record { to = λ t. le_z_yes t; from = λ h. h.le }

module _ (m : List ℤ) (p q r s : ℕ) where
  abbrev pub lighter : Bool
  lighter = le_z (weight (mark m p) (mark m q)) (weight (mark m r) (mark m s))

  abbrev Light : Type 0
  Light = (crossing m p q r s ≡ false) ⊎ (weight (mark m p) (mark m q) ≤ℤ weight (mark m r) (mark m s))

  holds_light : holds_against m p q r s ≡ true → Light
  unfolding holds_against
  holds_light h = go (crossing m p q r s) refl h
    where
      go : (b : Bool) → crossing m p q r s ≡ b → cond b lighter true ≡ true → Light
      go true e h = inr (tells_yes (le_tells _ _) h)
      go false e h = inl e

  light_holds : Light → holds_against m p q r s ≡ true
  unfolding holds_against
  light_holds (inl e) = cond_no _ _ e
  light_holds (inr l) = go (crossing m p q r s)
    where
      go : (b : Bool) → cond b lighter true ≡ true
      go true = tells_true (le_tells _ _) l
      go false = refl

-- ---- the test is the sentence
module _ (m : List ℤ) (K : ℕ → ℕ → Bool) (p q : ℕ) where
  pub apex_is : (r : ℕ) → apex m K p q r ≡ true → (joined K p r ≡ true) × (joined K q r ≡ true) × (empty_triangle m p q r ≡ true)
  unfolding apex
  apex_is r h =
      let t = both_second (joined K p r) _ h in
      (both_first (joined K p r) _ h, both_first (joined K q r) _ t, both_second (joined K q r) _ t)

  is_apex : (r : ℕ) → joined K p r ≡ true → joined K q r ≡ true → empty_triangle m p q r ≡ true → apex m K p q r ≡ true
  unfolding apex
  is_apex r h k t = both h (both k t)

  pub fits_certificate : (r s : ℕ) → IsMark m r → IsMark m s → fits m K p q r s ≡ true → IsCertificate m K p q r s
  unfolding fits left_apex right_apex
  fits_certificate r s r-in s-in h =
      let l = both_first (left_apex m K p q r) _ h in
      let h' = both_second (left_apex m K p q r) _ h in
      let t = both_first (right_apex m K p q s) _ h' in
      let left = left_of (mark m p) (mark m q) (mark m r) in
      let right = right_of (mark m p) (mark m q) (mark m s) in
      let x = apex_is r (both_second left (apex m K p q r) l) in
      let y = apex_is s (both_second right (apex m K p q s) t) in
      record {
        r_mark = r-in;
        s_mark = s-in;
        r_left = both_first left (apex m K p q r) l;
        s_right = both_first right (apex m K p q s) t;
        pqr_empty = x.2;
        pqs_empty = y.2;
        pr_in = x.0;
        qr_in = x.1;
        ps_in = y.0;
        qs_in = y.1;
        light = holds_light m p q r s (both_second (right_apex m K p q s) _ h');
      }

  pub certificate_fits : {r s : ℕ} → IsCertificate m K p q r s → fits m K p q r s ≡ true
  unfolding fits left_apex right_apex
  certificate_fits {r} {s} c =
      both (both c.r_left (is_apex r c.pr_in c.qr_in c.pqr_empty))
      (both (both c.s_right (is_apex s c.ps_in c.qs_in c.pqs_empty)) (light_holds m p q r s c.light))

-- ---- an apex is neither end of the edge
pub left_apart : (m : List ℤ) (p q r : ℕ) → L (mark m p) (mark m q) (mark m r) → (r ≡ p → ⊥) × (r ≡ q → ⊥)
left_apart m p q r h = (
  λ e. same (rot² (subst (λ (k : ℕ). L (mark m p) (mark m q) (mark m k)) e h)),
  λ e. same (rot (subst (λ (k : ℕ). L (mark m p) (mark m q) (mark m k)) e h)),
)

-- ---- from one set to another
-- the four sides are all that a certificate asks of the set
pub certificate_sides :
    {m : List ℤ} {K K' : ℕ → ℕ → Bool} {p q r s : ℕ} → IsCertificate m K p q r s →
    joined K' p r ≡ true → joined K' q r ≡ true → joined K' p s ≡ true → joined K' q s ≡ true → IsCertificate m K' p q r s
certificate_sides c pr qr ps qs =
    record {
      r_mark = c.r_mark;
      s_mark = c.s_mark;
      r_left = c.r_left;
      s_right = c.s_right;
      pqr_empty = c.pqr_empty;
      pqs_empty = c.pqs_empty;
      pr_in = pr;
      qr_in = qr;
      ps_in = ps;
      qs_in = qs;
      light = c.light;
    }

-- to a larger set
pub certificate_more :
    {m : List ℤ} {K K' : ℕ → ℕ → Bool} → ((a b : ℕ) → K a b ≡ true → K' a b ≡ true) →
    {p q r s : ℕ} → IsCertificate m K p q r s → IsCertificate m K' p q r s
unfolding joined
certificate_more {m} {K} {K'} w {p} {q} {r} {s} c =
    certificate_sides c (more p r c.pr_in) (more q r c.qr_in) (more p s c.ps_in) (more q s c.qs_in)
  where
    more : (u v : ℕ) → joined K u v ≡ true → joined K' u v ≡ true
    more u v h = go (ltb u v) h
      where
        go : (t : Bool) → cond t (K u v) (K v u) ≡ true → cond t (K' u v) (K' v u) ≡ true
        go true h = w u v h
        go false h = w v u h

-- to a set that has every pair of K but perhaps the edge itself
module _ (m : List ℤ) (K K' : ℕ → ℕ → Bool) (p q : ℕ) (p_in : IsMark m p) (q_in : IsMark m q) where
  abbrev pub Besides : Type 0
  Besides = (a b : ℕ) → IsPair m a b → (a ≡ p → b ≡ q → ⊥) → K a b ≡ true → K' a b ≡ true

  joined_besides :
      Besides → (u r : ℕ) → IsMark m u → IsMark m r → (u ≡ p) ⊎ (u ≡ q) → (r ≡ p → ⊥) → (r ≡ q → ⊥) →
      joined K u r ≡ true → joined K' u r ≡ true
  unfolding joined
  joined_besides w u r u-in r-in end no-p no-q h = go (dec_lt u r)
    where
      other : (u ≡ p) ⊎ (u ≡ q) → u ≡ r → ⊥
      other (inl e) f = no-p (let z : r ≡ p = omega arith in z)
      other (inr e) f = no-q (let z : r ≡ q = omega arith in z)

      go : Dec (u < r) → cond (ltb u r) (K' u r) (K' r u) ≡ true
      go (yes l) = rw (lt-ltb u r l) (w u r (record { up = l; marks = r-in }) (λ e f. no-q f) (rw (lt-ltb u r l) at h))
      go (no d) =
          let n = other end in
          let k : r ≤ u = omega arith in
          rw (le-ltb u r k) (w r u (record { up = omega arith; marks = u-in }) (λ e f. no-p e) (rw (le-ltb u r k) at h))

  pub certificate_besides : Besides → {r s : ℕ} → IsCertificate m K p q r s → IsCertificate m K' p q r s
  certificate_besides w {r} {s} c =
      let l = left_apart m p q r (tells_yes left_of_tells c.r_left) in
      let t = left_apart m q p s (tells_yes right_of_tells c.s_right) in
      certificate_sides c
      (joined_besides w p r p_in c.r_mark (inl refl) l.0 l.1 c.pr_in)
      (joined_besides w q r q_in c.r_mark (inr refl) l.0 l.1 c.qr_in)
      (joined_besides w p s p_in c.s_mark (inl refl) t.1 t.0 c.ps_in)
      (joined_besides w q s q_in c.s_mark (inr refl) t.1 t.0 c.qs_in)

  pub has_besides : Besides → HasCertificate m K p q → HasCertificate m K' p q
  has_besides w h = (h.0, h.1, certificate_besides w h.2)
