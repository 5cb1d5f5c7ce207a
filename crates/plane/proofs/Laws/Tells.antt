-- `Tells b A`: the test b is true exactly if A. How tests that are put together tell what is put together. Assumes nothing.
use mathlib.Core.Path.{◌≡◌, refl, sym, ap, subst}
use mathlib.Core.Bool.{Bool, true, false, not, cond}
use mathlib.Core.Logic.{◌⊎◌, inl, inr}
use Prim.Native.Nat.{ℕ, zero, suc, ◌<◌}
use native.Mathlib.Omega.{arith}
use native.Mathlib.Nat as NatL
use lib.Dec.{T, eqb, eqb→eq, eqb_refl}
use Rattle.plane.specs.Numbers.{all_to}

pub record Tells (b : Bool) (A : Type 0) : Type 0 where
  pub to : T b → A
  pub from : A → T b

pub tells_dec : {b : Bool} {A : Type 0} → Tells b A → Dec A
tells_dec {b = true} i = yes (i.to tt)
tells_dec {b = false} i = no (λ a. i.from a)

pub tells_map : {b : Bool} {A B : Type 0} → (A → B) → (B → A) → Tells b A → Tells b B
tells_map f g i = record { to = λ t. f (i.to t); from = λ h. i.from (g h) }

pub tells_and : {b c : Bool} {A B : Type 0} → Tells b A → Tells c B → Tells (cond b c false) (A × B)
tells_and {b = true} i j = record { to = λ t. (i.to tt, j.to t); from = λ h. j.from h.1 }
tells_and {b = false} i j = record { to = λ t. absurd t; from = λ h. i.from h.0 }

pub tells_or : {b c : Bool} {A B : Type 0} → Tells b A → Tells c B → Tells (cond b true c) (A ⊎ B)
tells_or {b = true} i j = record { to = λ t. inl (i.to tt); from = λ h. tt }
tells_or {b = false} {c} {A} {B} i j = record { to = λ t. inr (j.to t); from = go }
  where
    go : A ⊎ B → T c
    go (inl a) = absurd (i.from a)
    go (inr h) = j.from h

pub tells_not : {b : Bool} {A : Type 0} → Tells b A → Tells (not b) (¬ A)
tells_not {b = true} i = record { to = λ t. absurd t; from = λ k. k (i.to tt) }
tells_not {b = false} i = record { to = λ t a. i.from a; from = λ k. tt }

-- b, else no: cond b false c
pub tells_unless : {b c : Bool} {A B : Type 0} → Tells b A → Tells c B → Tells (cond b false c) (¬ A × B)
tells_unless {b = true} i j = record { to = λ t. absurd t; from = λ h. h.0 (i.to tt) }
tells_unless {b = false} i j = record { to = λ t. ((λ a. i.from a), j.to t); from = λ h. j.from h.1 }

-- b, and c; else d
pub tells_pick : {b c d : Bool} {A B C : Type 0} → Tells b A → Tells c B → Tells d C → Tells (cond b c d) ((A × B) ⊎ ((¬ A) × C))
tells_pick {b = true} {c} {d} {A} {B} {C} i j k = record { to = λ t. inl (i.to tt, j.to t); from = go }
  where
    go : (A × B) ⊎ ((¬ A) × C) → T c
    go (inl h) = j.from h.1
    go (inr h) = absurd (h.0 (i.to tt))
tells_pick {b = false} {c} {d} {A} {B} {C} i j k = record { to = λ t. inr ((λ a. i.from a), k.to t); from = go }
  where
    go : (A × B) ⊎ ((¬ A) × C) → T d
    go (inl h) = absurd (i.from h.0)
    go (inr h) = k.from h.1

-- b, or else nothing to ask: cond b c true
pub tells_implies : {b c : Bool} {A B : Type 0} → Tells b A → Tells c B → Tells (cond b c true) (A → B)
tells_implies {b = true} i j = record { to = λ t a. j.to t; from = λ h. j.from (h (i.to tt)) }
tells_implies {b = false} i j = record { to = λ t a. absurd (i.from a); from = λ h. tt }

pub tells_eqb : {m n : ℕ} → Tells (eqb m n) (m ≡ n)
tells_eqb {m} {n} = record { to = λ t. eqb→eq m n t; from = λ e. subst (λ k. T (eqb m k)) e (eqb_refl m) }

all_to_lem : (f : ℕ → Bool) (j : ℕ) → T (all_to j f) → (k : ℕ) → k < j → T (f k)
unfolding all_to
all_to_lem f zero t k h = absurd (let z : ⊥ = omega arith in z)
all_to_lem f (suc j) t k h = go (all_to j f) (all_to_lem f j) t (NatL.eq-or-lt_of_le (NatL.le_of_suc-le-suc h))
  where
    go : (b : Bool) → (T b → (k : ℕ) → k < j → T (f k)) → T (cond b (f j) false) → (k ≡ j) ⊎ (k < j) → T (f k)
    go true r s (inl e) = subst (λ m. T (f m)) (sym e) s
    go true r s (inr l) = r tt k l
    go false r s l = absurd s

all_from : (f : ℕ → Bool) (j : ℕ) → ((k : ℕ) → k < j → T (f k)) → T (all_to j f)
unfolding all_to
all_from f zero h = tt
all_from f (suc j) h = go (all_to j f) (all_from f j (λ k l. h k (omega arith)))
  where
    go : (b : Bool) → T b → T (cond b (f j) false)
    go true t = h j (omega arith)
    go false t = t

pub tells_all : (n : ℕ) (f : ℕ → Bool) (A : (k : ℕ) → k < n → Type 0) → ((k : ℕ) (h : k < n) → Tells (f k) (A k h)) → Tells (all_to n f) ((k : ℕ) (h : k < n) → A k h)
tells_all n f A i = record { to = λ t k h. (i k h).to (all_to_lem f n t k h); from = λ g. all_from f n (λ k h. (i k h).from (g k h)) }

-- ---- from and to equations with true and false
pub tells_true : {b : Bool} {A : Type 0} → Tells b A → A → b ≡ true
tells_true {b = true} i a = refl
tells_true {b = false} i a = absurd (i.from a)

pub tells_false : {b : Bool} {A : Type 0} → Tells b A → ¬ A → b ≡ false
tells_false {b = true} i n = absurd (n (i.to tt))
tells_false {b = false} i n = refl

pub tells_yes : {b : Bool} {A : Type 0} → Tells b A → b ≡ true → A
tells_yes i e = i.to (subst T (sym e) tt)

pub tells_no : {b : Bool} {A : Type 0} → Tells b A → b ≡ false → ¬ A
tells_no i e a = subst T e (i.from a)

-- two tests that tell the same are equal
pub tells_same : {b c : Bool} {A B : Type 0} → Tells b A → Tells c B → (A → B) → (B → A) → b ≡ c
tells_same {b = true} {c = true} i j f g = refl
tells_same {b = true} {c = false} i j f g = absurd (j.from (f (i.to tt)))
tells_same {b = false} {c = true} i j f g = absurd (i.from (g (j.to tt)))
tells_same {b = false} {c = false} i j f g = refl

-- ---- a choice whose test is known
pub cond_yes : {A : Type 0} {t : Bool} (a b : A) → t ≡ true → cond t a b ≡ a
cond_yes a b e = ap (λ (x : Bool). cond x a b) e

pub cond_no : {A : Type 0} {t : Bool} (a b : A) → t ≡ false → cond t a b ≡ b
cond_no a b e = ap (λ (x : Bool). cond x a b) e

pub not_not : (t : Bool) → not (not t) ≡ t
not_not true = refl
not_not false = refl
