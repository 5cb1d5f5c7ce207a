-- Laws of cuts, digits and numbers in a part of a text. Assumes nothing.
use Rattle.std.proofs.Common.{◌≡◌, Bool, true, false, cond, ◌&&◌, List, ℕ, zero, suc, ◌+◌, ◌-◌, ◌*◌, ◌^◌, ◌≤◌, ◌<◌}
use Rattle.std.proofs.Common.{eqb, leb, ltb, length, get_or, take, drop, Option, [], ◌∷◌, refl, sym, ap, subst, ◌∙◌}
use Rattle.std.proofs.Common.{add-one, arith, length-drop, length-take-le}
use Rattle.std.specs.Char.{is_ascii_digit}
use Rattle.std.specs.Bool.{then_some}
use Rattle.std.specs.Prelude.{IfSome}
use Rattle.std.specs.List.{list_all}
use Rattle.std.proofs.Math.Nat.{pow-suc, pow-le-pow_right, lt_of_lt_of_le}
use Rattle.std.proofs.lemmas.Bool.{and_parts, cond-true, cond-false, eqb-true, ltb-true, ltb-false, leb-true}
use Rattle.std.proofs.lemmas.Grind.{common_steps}
use Rattle.std.proofs.lemmas.List.{take_all}
use Rattle.std.proofs.lemmas.List.Folds.{list_all_more}
use Rattle.std.proofs.lemmas.List.Sums.{fold_more}
use lib.Dec.{lit<}
use borrow.Author.Tests.{le-ltb}
use lib.IntN.{pos, neg_ℤ}
use mir.Syntax.{w32}
use mir.Val.{SFits}
use Rattle.plane.proofs.Laws.Tells.{cond_no}
use Rattle.reading.specs.Text.{place_of, after, Cut, dash, digit0, is_only, starts_with}
use Rattle.reading.specs.Text.{all_digits, is_counting, is_number, value_of, is_coordinate, coordinate_of}
use Rattle.reading.proofs.Tests.{and_yes, unless_yes}

-- ---- cuts
-- the two parts of a cut and the byte between them are the whole
pub cut-length : (b : ℕ) (p l r : List ℕ) → Cut b p l r → length l + 1 + length r ≡ length p
cut-length b p l r c =
    let h = ltb-true (place_of b p) (length p) c.there in
    omega (arith, ap length c.left, ap length c.right, length-take-le (place_of b p) p (omega arith), length-drop (place_of b p + 1) p)

-- what stands after a byte is shorter than the whole
pub after-length : (b : ℕ) (p : List ℕ) → length (after b p) ≤ length p - 1
after-length b p = omega (arith, length-drop (place_of b p + 1) p)

-- ---- digits
pub digit_range : (b : ℕ) → is_ascii_digit b ≡ true → (48 ≤ b) × (b ≤ 57)
digit_range b e = let h = and_parts (leb 48 b) (leb b 57) e in (leb-true 48 b h.0, leb-true b 57 h.1)

-- what the first i digits spell has at most i digits
pub value_below : (p : List ℕ) (i : ℕ) → i ≤ length p → all_digits (take i p) ≡ true → value_of (take i p) < 10 ^ i
unfolding all_digits value_of
value_below p zero l h = lit< tt
value_below p (suc i) l h =
    let m : i < length p = omega arith in
    let q =
    and_parts (list_all is_ascii_digit (take i p)) (is_ascii_digit (get_or p i 0))
    (sym (list_all_more is_ascii_digit p i 0 m) ∙ ap (λ (n : ℕ). list_all is_ascii_digit (take n p)) (add-one i) ∙ h) in
    let v = value_below p i (omega arith) q.0 in
    let d = digit_range (get_or p i 0) q.1 in
    let e = fold_more (λ w b. w * 10 + (b - digit0)) 0 p i 0 m in
    rw (← add-one i, e) (rw (add-one i, pow-suc) (omega (arith, v, d.0, d.1)))

-- the next digit still fits: nine digits at most are read, of which i were passed
pub passed_small : (p : List ℕ) (i v : ℕ) → i < length p → length p ≤ 9 → all_digits (take i p) ≡ true → v ≡ value_of (take i p) → v < 10 ^ 8
passed_small p i v l n h e =
    let k : i ≤ 8 = omega arith in
    subst (λ (w : ℕ). w < 10 ^ 8) (sym e) (lt_of_lt_of_le (value_below p i (omega arith) h) (pow-le-pow_right (lit< tt) k))

whole_small : (p : List ℕ) (k : ℕ) → length p ≤ k → all_digits p ≡ true → value_of p < 10 ^ k
whole_small p k l h =
    let e = take_all (length p) p (omega arith) in
    let v = value_below p (length p) (omega arith) (rw e h) in
    lt_of_lt_of_le (rw e at v) (pow-le-pow_right (lit< tt) l)

-- what reading the digits answers
pub digits_small : (p : List ℕ) (k : ℕ) (r : Option ℕ) → r ≡ then_some (all_digits p) (value_of p) → length p ≤ k → IfSome r (λ (n : ℕ). n < 10 ^ k)
digits_small p k r e l = subst (λ (o : Option ℕ). IfSome o (λ (n : ℕ). n < 10 ^ k)) (sym e) (go (all_digits p) refl)
  where
    go : (b : Bool) → all_digits p ≡ b → IfSome (then_some b (value_of p)) (λ (n : ℕ). n < 10 ^ k)
    go true q = whole_small p k l q
    go false q = tt

-- ---- numbers
pub zero_digits : (p : List ℕ) → length p ≡ 1 → get_or p 0 0 ≡ 48 → all_digits p ≡ true
unfolding all_digits
zero_digits [] l e = absurd (let z : ⊥ = omega arith in z)
zero_digits (x ∷ []) l e = ap (λ (b : ℕ). is_ascii_digit b && true) e
zero_digits (x ∷ y ∷ p) l e = absurd (let z : ⊥ = omega arith in z)

-- a part that does not begin with a "0" before other bytes is a number if it has digits alone
pub number_is : (k : ℕ) (p : List ℕ) → length p ≤ k → 0 < length p → (2 ≤ length p → get_or p 0 0 ≡ 48 → ⊥) → is_number k p ≡ all_digits p
unfolding is_number is_counting
number_is k p l s n = grind (arith, common_steps, zero_digits)

module _ (k : ℕ) (p : List ℕ) (h : is_number k p ≡ true) where
  pub number-length : length p ≤ k
  unfolding is_number
  number-length = ltb-false k (length p) (unless_yes (ltb k (length p)) (cond (is_only digit0 p) true (is_counting p)) h).0

  number_kind : cond (is_only digit0 p) true (is_counting p) ≡ true
  unfolding is_number
  number_kind = (unless_yes (ltb k (length p)) (cond (is_only digit0 p) true (is_counting p)) h).1

  pub number_some : 0 < length p
  unfolding is_counting
  number_some = go (is_only digit0 p) refl number_kind
    where
      go : (s : Bool) → is_only digit0 p ≡ s → cond s true (is_counting p) ≡ true → 0 < length p
      go true q r = let o = eqb-true (length p) 1 (and_yes (eqb (length p) 1) (eqb (get_or p 0 0) digit0) q).0 in omega arith
      go false q r = ltb-true 0 (length p) (and_yes (ltb 0 (length p)) (cond (starts_with digit0 p) false (all_digits p)) r).0

  pub number_digits : all_digits p ≡ true
  unfolding is_counting
  number_digits = go (is_only digit0 p) refl number_kind
    where
      go : (s : Bool) → is_only digit0 p ≡ s → cond s true (is_counting p) ≡ true → all_digits p ≡ true
      go true q r =
          let o = and_yes (eqb (length p) 1) (eqb (get_or p 0 0) digit0) q in
          zero_digits p (eqb-true (length p) 1 o.0) (eqb-true (get_or p 0 0) digit0 o.1)
      go false q r = (unless_yes (starts_with digit0 p) (all_digits p) (and_yes (ltb 0 (length p)) (cond (starts_with digit0 p) false (all_digits p)) r).1).1

  -- more digits are allowed, and it is a number still
  pub number_wider : (m : ℕ) → k ≤ m → is_number m p ≡ true
  unfolding is_number
  number_wider m l = cond_no _ _ (le-ltb m (length p) (let n = number-length in omega arith)) ∙ number_kind

  pub number_below : value_of p < 10 ^ k
  number_below = whole_small p k number-length number_digits

-- ---- coordinates
minus_fits : (n : ℕ) → n < 10000000 → SFits w32 (neg_ℤ (pos n))
minus_fits zero h = record { sfits = omega arith }
minus_fits (suc n) h = record { sfits = omega arith }

module _ (p : List ℕ) (h : is_coordinate p ≡ true) where
  dash_number : starts_with dash p ≡ true → is_number 7 (drop 1 p) ≡ true
  unfolding is_coordinate
  dash_number s = (unless_yes (is_only digit0 (drop 1 p)) (is_number 7 (drop 1 p)) (sym (cond-true (starts_with dash p) _ _ s) ∙ h)).1

  plain_number : starts_with dash p ≡ false → is_number 7 p ≡ true
  unfolding is_coordinate
  plain_number s = sym (cond-false (starts_with dash p) _ _ s) ∙ h

  pub coordinate_some : 0 < length p
  coordinate_some = go (starts_with dash p) refl
    where
      go : (s : Bool) → starts_with dash p ≡ s → 0 < length p
      go true q = ltb-true 0 (length p) (and_yes (ltb 0 (length p)) (eqb (get_or p 0 0) dash) q).0
      go false q = number_some 7 p (plain_number q)

  -- seven digits fit, with "-" before them too
  pub coordinate_fits : SFits w32 (coordinate_of p)
  unfolding coordinate_of
  coordinate_fits = go (starts_with dash p) refl
    where
      go : (s : Bool) → starts_with dash p ≡ s → SFits w32 (cond s (neg_ℤ (pos (value_of (drop 1 p)))) (pos (value_of p)))
      go true q = minus_fits (value_of (drop 1 p)) (number_below 7 (drop 1 p) (dash_number q))
      go false q = record { sfits = let n = number_below 7 p (plain_number q) in omega arith }
