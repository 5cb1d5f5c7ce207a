-- Rule 8: what the two nested searches pick is the first certificate, and they pick nothing exactly if there is none. Assumes
-- nothing.
use mathlib.Core.Path.{◌≡◌, refl, sym, ap, ◌∙◌, subst}
use mathlib.Core.Logic.{⊎_elim}
use mathlib.Core.Bool.{Bool, true, false, cond}
use mathlib.Core.List.{List}
use Prim.Native.Nat.{ℕ, zero, suc, ◌<◌, ◌≤◌}
use native.Mathlib.Nat.{eq-or-lt_of_le, le_of_suc-le-suc, not-suc-le-zero}
use native.Mathlib.Decide.{dec_lt}
use native.Mathlib.Omega.{arith}
use lib.IntN.{ℤ}
use Rattle.plane.specs.Marks.{count}
use Rattle.plane.proofs.Laws.Tells.{cond_yes}
use Rattle.certificates.specs.Certificate.{IsCertificate, HasCertificate, IsFirst, fits, first_pick, pick_fitting, pick_right, first_certificate, found}
use Rattle.std.specs.Prelude.{Option, None, Some}
use Rattle.certificates.specs.declared.certificate.Apexes.{Apexes}
use Rattle.certificates.proofs.Rule7.{fits_certificate, certificate_fits}

pub not_nothing : {A : Type 0} {r s : ℕ} → None ≡ found r s → A
not_nothing e = let z : ◌≡◌ {A = ℕ} 0 1 = cc in absurd (omega arith)

pub same_apexes : {x y : Apexes} → Some x ≡ Some y → x ≡ y
same_apexes e = cc

-- ---- the first pick below n
-- it was picked at k, and nothing before
pub record At (f : ℕ → Option Apexes) (n r s : ℕ) : Type 0 where
  pub k : ℕ
  pub below : k < n
  pub here : f k ≡ found r s
  pub before : (j : ℕ) → j < k → f j ≡ None

module _ (f : ℕ → Option Apexes) where
  abbrev step : ℕ → Option Apexes → Option Apexes
  step n x = elim x as (λ y. Option Apexes) [ None ↦ f n | Some x ↦ Some x ]

  pub pick_none : (n : ℕ) → ((j : ℕ) → j < n → f j ≡ None) → first_pick n f ≡ None
  unfolding first_pick
  pick_none zero h = refl
  pick_none (suc n) h = ap (step n) (pick_none n (λ j l. h j (omega arith))) ∙ h n (omega arith)

  pub none_picked : (n : ℕ) → first_pick n f ≡ None → (j : ℕ) → j < n → f j ≡ None
  unfolding first_pick
  none_picked zero h j l = absurd (not-suc-le-zero l)
  none_picked (suc n) h j l = go (λ e. none_picked n e j) (first_pick n f) refl h
    where
      go : (first_pick n f ≡ None → j < n → f j ≡ None) → (x : Option Apexes) → first_pick n f ≡ x → step n x ≡ None → f j ≡ None
      go ih None e h =
          ⊎_elim (λ q. subst (λ (i : ℕ). f i ≡ None) (sym q) h) (λ l'. ih e l') (eq-or-lt_of_le (le_of_suc-le-suc l))
      go ih (Some x) e h = not_nothing (sym h)

  pub pick_at : (n : ℕ) {r s : ℕ} → first_pick n f ≡ found r s → At f n r s
  unfolding first_pick
  pick_at zero h = not_nothing h
  pick_at (suc n) {r} {s} h = go (λ e. pick_at n e) (first_pick n f) refl h
    where
      go : (first_pick n f ≡ found r s → At f n r s) → (x : Option Apexes) → first_pick n f ≡ x → step n x ≡ found r s → At f (suc n) r s
      go ih None e h = record { k = n; below = omega arith; here = h; before = none_picked n e }
      go ih (Some x) e h =
          let a = ih (e ∙ h) in
          let l = a.below in
          record { k = a.k; below = omega arith; here = a.here; before = a.before }

  -- nothing is picked before k, and something at k
  pub pick_hit : (n k : ℕ) {r s : ℕ} → k < n → ((j : ℕ) → j < k → f j ≡ None) → f k ≡ found r s → first_pick n f ≡ found r s
  unfolding first_pick
  pick_hit zero k l h e = absurd (not-suc-le-zero l)
  pick_hit (suc n) k {r} {s} l h e =
      ⊎_elim
      (λ q.
      ap (step n) (pick_none n (subst (λ (i : ℕ). (j : ℕ) → j < i → f j ≡ None) q h)) ∙ subst (λ (i : ℕ). f i ≡ found r s) q e)
      (λ u. ap (step n) (pick_hit n k u h e))
      (eq-or-lt_of_le (le_of_suc-le-suc l))

-- ---- the certificate
module _ (m : List ℤ) (K : ℕ → ℕ → Bool) (p q : ℕ) where
  picked : (r s : ℕ) {r' s' : ℕ} → pick_fitting m K p q r s ≡ found r' s' → (fits m K p q r s ≡ true) × (r ≡ r') × (s ≡ s')
  unfolding pick_fitting
  picked r s {r'} {s'} h = go (fits m K p q r s) h
    where
      go : (b : Bool) → cond b (found r s) None ≡ found r' s' → (b ≡ true) × (r ≡ r') × (s ≡ s')
      go true e = let a = same_apexes e in (refl, ap (λ (x : Apexes). x.r) a, ap (λ (x : Apexes). x.s) a)
      go false e = not_nothing e

  unpicked : {r s : ℕ} → IsCertificate m K p q r s → pick_fitting m K p q r s ≡ None → ⊥
  unfolding pick_fitting
  unpicked c e = not_nothing (sym e ∙ cond_yes _ _ (certificate_fits m K p q c))

  -- a row that picks nothing has no certificate
  row_none : {r s : ℕ} → pick_right m K p q r ≡ None → IsCertificate m K p q r s → ⊥
  unfolding pick_right
  row_none {r} {s} e c = unpicked c (none_picked (pick_fitting m K p q r) (count m) e s c.s_mark)

  pub nothing_none : first_certificate m K p q ≡ None → HasCertificate m K p q → ⊥
  unfolding first_certificate
  nothing_none e h = row_none (none_picked (pick_right m K p q) (count m) e h.0 h.2.r_mark) h.2

  pub found_first : {r s : ℕ} → first_certificate m K p q ≡ found r s → IsFirst m K p q r s
  unfolding first_certificate pick_right
  found_first {r} {s} e = go (pick_at (pick_right m K p q) (count m) e)
    where
      go : At (pick_right m K p q) (count m) r s → IsFirst m K p q r s
      go row = last (pick_at (pick_fitting m K p q row.k) (count m) row.here)
        where
          last : At (pick_fitting m K p q row.k) (count m) r s → IsFirst m K p q r s
          last column =
              let t = picked row.k column.k column.here in
              let is = t.1 in
              let js = t.2 in
              let row-Below = row.below in
              let column-below = column.below in
              record {
                certificate =
                    fits_certificate m K p q r s (omega arith) (omega arith)
                    (subst (λ (k : ℕ). fits m K p q k s ≡ true) is (subst (λ (k : ℕ). fits m K p q row.k k ≡ true) js t.0));
                smallest_r = λ r' s' c. r_least is r' c (dec_lt r' r);
                smallest_s = λ s' c. s_least is js s' c (dec_lt s' s);
              }
            where
              r_least : row.k ≡ r → (r' : ℕ) {s' : ℕ} → IsCertificate m K p q r' s' → Dec (r' < r) → r ≤ r'
              r_least is r' c (yes l) = absurd (row_none (row.before r' (let z : r' < row.k = omega arith in z)) c)
              r_least is r' c (no d) = omega arith

              s_least : row.k ≡ r → column.k ≡ s → (s' : ℕ) → IsCertificate m K p q r s' → Dec (s' < s) → s ≤ s'
              s_least is js s' c (yes l) =
                  absurd
                  (unpicked (subst (λ (k : ℕ). IsCertificate m K p q k s') (sym is) c)
                  (column.before s' (let z : s' < column.k = omega arith in z)))
              s_least is js s' c (no d) = omega arith

-- two sets with the same certificates have the same first
pub first_same :
    {m : List ℤ} {K K' : ℕ → ℕ → Bool} {p q : ℕ} →
    ((r s : ℕ) → IsCertificate m K p q r s → IsCertificate m K' p q r s) →
    ((r s : ℕ) → IsCertificate m K' p q r s → IsCertificate m K p q r s) →
    {r s : ℕ} → IsFirst m K p q r s → IsFirst m K' p q r s
first_same there back {r} {s} f =
    record {
      certificate = there r s f.certificate;
      smallest_r = λ r' s' c. f.smallest_r r' s' (back r' s' c);
      smallest_s = λ s' c. f.smallest_s s' (back r s' c);
    }

-- there is only one first
pub first_unique :
    {m : List ℤ} {K : ℕ → ℕ → Bool} {p q r s r' s' : ℕ} → IsFirst m K p q r s → IsFirst m K p q r' s' → (r ≡ r') × (s ≡ s')
first_unique {m} {K} {p} {q} {r} {s} {r'} {s'} f g =
    let l = f.smallest_r r' s' g.certificate in
    let l' = g.smallest_r r s f.certificate in
    let e : r ≡ r' = omega arith in
    let k = f.smallest_s s' (subst (λ (x : ℕ). IsCertificate m K p q x s') (sym e) g.certificate) in
    let k' = g.smallest_s s (subst (λ (x : ℕ). IsCertificate m K p q x s) e f.certificate) in
    (e, omega arith)

pub first_found : {m : List ℤ} {K : ℕ → ℕ → Bool} {p q r s : ℕ} → IsFirst m K p q r s → first_certificate m K p q ≡ found r s
first_found {m} {K} {p} {q} {r} {s} f = go (first_certificate m K p q) refl
  where
    go : (x : Option Apexes) → first_certificate m K p q ≡ x → first_certificate m K p q ≡ found r s
    go None e = absurd (nothing_none m K p q e (r, s, f.certificate))
    go (Some x) e =
        let u = first_unique (found_first m K p q e) f in
        e ∙ ap (λ (k : ℕ). found k x.s) u.0 ∙ ap (found r) u.1

pub none_nothing : (m : List ℤ) (K : ℕ → ℕ → Bool) (p q : ℕ) → (HasCertificate m K p q → ⊥) → first_certificate m K p q ≡ None
none_nothing m K p q h = go (first_certificate m K p q) refl
  where
    go : (x : Option Apexes) → first_certificate m K p q ≡ x → first_certificate m K p q ≡ None
    go None e = e
    go (Some x) e = absurd (h (x.r, x.s, (found_first m K p q e).certificate))
