-- A reflective solver for equations of the commutative ring ℤ (`lib.IntN`): both sides are written as expressions over numbered variables, and the check computes
-- the normal form of their difference, a sparse polynomial, which is empty where the equation holds in every commutative ring.
--
--     f : (a b : ℤ) → (a +ℤ b) *ℤ (a -ℤ b) ≡ a *ℤ a -ℤ b *ℤ b
--     f a b = ring (a ∷ b ∷ []) ((var 0 ⊕ var 1) ⊗ (var 0 ⊖ var 1)) (var 0 ⊗ var 0 ⊖ var 1 ⊗ var 1) tt
--
-- `Points` has the same over points and doubled areas, `Signs` signs and orders by certificates.
-- Everything that computes is an `abbrev`, so that a use needs no `unfolding` line.
-- To see what is left of an equation that is refused, state `left_over : norm (a ⊖ b) ≡ nil` with the body `?h`, and check with --allow-holes.
-- Assumes nothing.
use mathlib.Core.Path.{◌≡◌, refl, sym, ◌∙◌, ap, ap₂}
use mathlib.Core.Bool.{Bool, true, false}
use mathlib.Core.List.{List, [], ◌∷◌}
use Prim.Native.Nat.{ℕ, zero, suc, ◌+◌, ◌^◌, compare, Ordering}
use lib.Dec.{T, compare_is_eq, leb, eqb, eqb→eq}
use lib.IntN.{ℤ, pos, negsuc, neg_ℤ, ◌+ℤ◌, ◌-ℤ◌, ◌*ℤ◌, +ℤ_idl, +ℤ_idr, +ℤ_assoc, zero-*ℤ, *ℤ-zero, *ℤ_comm}
use Rattle.plane.proofs.Whole.Integers.{+ℤ-left-comm, +ℤ-swap, *ℤ-distr, *ℤ-distl, *ℤ-assoc, *ℤ-left-comm, *ℤ-swap, one-*ℤ, negℤ-*ℤ, eq_of_sub}

infixl 6 ◌⊕◌ ◌⊖◌
infixl 7 ◌⊗◌
-- an expression: a variable by its number, a number, and the operations
pub data Expr : Type 0 where
  var : ℕ → Expr
  lit : ℤ → Expr
  neg : Expr → Expr
  ◌⊕◌ ◌⊖◌ ◌⊗◌ : Expr → Expr → Expr

-- its value: it computes to the text of the goal, and the goal need not be restated
abbrev pub eval : (ℕ → ℤ) → Expr → ℤ
eval ρ (var v) = ρ v
eval ρ (lit z) = z
eval ρ (neg a) = neg_ℤ (eval ρ a)
eval ρ (a ⊕ b) = eval ρ a +ℤ eval ρ b
eval ρ (a ⊖ b) = eval ρ a -ℤ eval ρ b
eval ρ (a ⊗ b) = eval ρ a *ℤ eval ρ b

-- the values of the variables, as a list
abbrev pub at : List ℤ → ℕ → ℤ
at [] n = pos 0
at (x ∷ xs) zero = x
at (x ∷ xs) (suc n) = at xs n

-- ---- monomials: the sorted list of the variables
abbrev pub insert_v : ℕ → List ℕ → List ℕ
insert_v v [] = v ∷ []
insert_v v (w ∷ m) = elim (leb v w) [ true ↦ v ∷ w ∷ m | false ↦ w ∷ insert_v v m ]

abbrev pub mul_m : List ℕ → List ℕ → List ℕ
mul_m [] n = n
mul_m (v ∷ m) n = insert_v v (mul_m m n)

abbrev pub eq_m : List ℕ → List ℕ → Bool
eq_m [] [] = true
eq_m [] (w ∷ n) = false
eq_m (v ∷ m) [] = false
eq_m (v ∷ m) (w ∷ n) = elim (eqb v w) [ true ↦ eq_m m n | false ↦ false ]

abbrev pub eval_m : (ℕ → ℤ) → List ℕ → ℤ
eval_m ρ [] = pos 1
eval_m ρ (v ∷ m) = ρ v *ℤ eval_m ρ m

-- ---- polynomials: terms, each a coefficient, the monomial's code, and the monomial. The code is the sum of 256 ^ v over the variables v of the monomial. The
-- terms stand by increasing code, which one native comparison decides, and which a product of monomials keeps: the codes are added.
-- The code is a guide only. Where two codes are equal the monomials are compared too, so that no proof says anything of codes, and a degree of 256, where
-- codes clash, costs only that an equation may not be proved
pub data Poly : Type 0 where
  nil : Poly
  tm : ℤ → ℕ → List ℕ → Poly → Poly

abbrev pub eval_p : (ℕ → ℤ) → Poly → ℤ
eval_p ρ nil = pos 0
eval_p ρ (tm c k m p) = c *ℤ eval_m ρ m +ℤ eval_p ρ p

-- a term in front, unless its coefficient is zero
abbrev pub cons_t : ℤ → ℕ → List ℕ → Poly → Poly
cons_t (pos zero) k m p = p
cons_t (pos (suc n)) k m p = tm (pos (suc n)) k m p
cons_t (negsuc n) k m p = tm (negsuc n) k m p

-- which term comes first; `eq` only where the monomials are equal
abbrev pub decide : ℕ → List ℕ → ℕ → List ℕ → Ordering
decide k m l n = elim (compare k l) [ Ordering.lt ↦ Ordering.lt | Ordering.eq ↦ elim (eq_m m n) [ true ↦ Ordering.eq | false ↦ Ordering.lt ] | Ordering.gt ↦ Ordering.gt ]

-- the sum: a merge. `add_t c k m f q` is the sum of the term c k m, of the rest p of its polynomial, given as f = p +_, and of q: so each of the two recursions is
-- structural. The cases of an `elim` wait until one is chosen; by a function of three arguments all three would be computed, at each term, without end
abbrev pub add_t : ℤ → ℕ → List ℕ → (Poly → Poly) → Poly → Poly
add_t c k m f nil = tm c k m (f nil)
add_t c k m f (tm d l n q) =
    elim (decide k m l n) [ Ordering.lt ↦ tm c k m (f (tm d l n q)) | Ordering.eq ↦ cons_t (c +ℤ d) k m (f q) | Ordering.gt ↦ tm d l n (add_t c k m f q) ]

abbrev pub add_p : Poly → Poly → Poly
add_p nil q = q
add_p (tm c k m p) q = add_t c k m (λ r. add_p p r) q

-- a term times a polynomial; the product, by the terms of the shorter factor
abbrev pub mul_t : ℤ → ℕ → List ℕ → Poly → Poly
mul_t c k m nil = nil
mul_t c k m (tm d l n q) = tm (c *ℤ d) (k + l) (mul_m m n) (mul_t c k m q)

abbrev pub mul_p : Poly → Poly → Poly
mul_p nil q = nil
mul_p (tm c k m p) q = add_p (mul_t c k m q) (mul_p p q)

abbrev pub shorter : Poly → Poly → Bool
shorter nil q = true
shorter (tm c k m p) nil = false
shorter (tm c k m p) (tm d l n q) = shorter p q

abbrev pub prod_p : Poly → Poly → Poly
prod_p p q = elim (shorter p q) [ true ↦ mul_p p q | false ↦ mul_p q p ]

abbrev pub norm : Expr → Poly
norm (var v) = tm (pos 1) (256 ^ v) (v ∷ []) nil
norm (lit z) = cons_t z 0 [] nil
norm (neg a) = mul_t (negsuc 0) 0 [] (norm a)
norm (a ⊕ b) = add_p (norm a) (norm b)
norm (a ⊖ b) = add_p (norm a) (mul_t (negsuc 0) 0 [] (norm b))
norm (a ⊗ b) = prod_p (norm a) (norm b)

abbrev pub is_nil : Poly → Bool
is_nil nil = true
is_nil (tm c k m p) = false

-- ---- soundness: each operation means what it is named for, at every value ρ of the variables
module _ (ρ : ℕ → ℤ) where
  insert_v_sound : (v : ℕ) (m : List ℕ) → eval_m ρ (insert_v v m) ≡ ρ v *ℤ eval_m ρ m
  insert_v_sound v [] = refl
  insert_v_sound v (w ∷ m) = go (leb v w) (insert_v_sound v m)
    where
      go :
          (b : Bool) → eval_m ρ (insert_v v m) ≡ ρ v *ℤ eval_m ρ m →
          eval_m ρ (elim b [ true ↦ v ∷ w ∷ m | false ↦ w ∷ insert_v v m ]) ≡ ρ v *ℤ (ρ w *ℤ eval_m ρ m)
      go true h = refl
      go false h = ap (λ x. ρ w *ℤ x) h ∙ *ℤ-left-comm (ρ w) (ρ v) (eval_m ρ m)

  mul_m_sound : (m n : List ℕ) → eval_m ρ (mul_m m n) ≡ eval_m ρ m *ℤ eval_m ρ n
  mul_m_sound [] n = sym (one-*ℤ (eval_m ρ n))
  mul_m_sound (v ∷ m) n = insert_v_sound v (mul_m m n) ∙ ap (λ x. ρ v *ℤ x) (mul_m_sound m n) ∙ sym (*ℤ-assoc (ρ v) (eval_m ρ m) (eval_m ρ n))

  eq_m_sound : (m n : List ℕ) → T (eq_m m n) → m ≡ n
  eq_m_sound [] [] t = refl
  eq_m_sound [] (w ∷ n) t = absurd t
  eq_m_sound (v ∷ m) [] t = absurd t
  eq_m_sound (v ∷ m) (w ∷ n) t = go (eqb v w) (eqb→eq v w) (eq_m_sound m n) t
    where
      go : (b : Bool) → (T b → v ≡ w) → (T (eq_m m n) → m ≡ n) → T (elim b [ true ↦ eq_m m n | false ↦ false ]) → ◌≡◌ {A = List ℕ} (v ∷ m) (w ∷ n)
      go true f g t = ap₂ {C = List ℕ} (λ x y. x ∷ y) (f tt) (g t)
      go false f g t = absurd t

  decide_eq : (k : ℕ) (m : List ℕ) (l : ℕ) (n : List ℕ) → T (compare_is_eq (decide k m l n)) → m ≡ n
  decide_eq k m l n = go (compare k l) (eq_m m n) (eq_m_sound m n)
    where
      go : (o : Ordering) (b : Bool) → (T b → m ≡ n) → T (compare_is_eq (elim o [ Ordering.lt ↦ Ordering.lt | Ordering.eq ↦ elim b [ true ↦ Ordering.eq | false ↦ Ordering.lt ] | Ordering.gt ↦ Ordering.gt ])) → m ≡ n
      go Ordering.lt b h t = absurd t
      go Ordering.eq true h t = h tt
      go Ordering.eq false h t = absurd t
      go Ordering.gt b h t = absurd t

  cons_t_sound : (c : ℤ) (k : ℕ) (m : List ℕ) (p : Poly) → eval_p ρ (cons_t c k m p) ≡ c *ℤ eval_m ρ m +ℤ eval_p ρ p
  cons_t_sound (pos zero) k m p = sym (ap (λ x. x +ℤ eval_p ρ p) (zero-*ℤ (eval_m ρ m)) ∙ +ℤ_idl (eval_p ρ p))
  cons_t_sound (pos (suc n)) k m p = refl
  cons_t_sound (negsuc n) k m p = refl

  add_t_sound : (c : ℤ) (k : ℕ) (m : List ℕ) (f : Poly → Poly) (P : ℤ) → ((q : Poly) → eval_p ρ (f q) ≡ P +ℤ eval_p ρ q) →
      (q : Poly) → eval_p ρ (add_t c k m f q) ≡ (c *ℤ eval_m ρ m +ℤ P) +ℤ eval_p ρ q
  add_t_sound c k m f P hf nil = ap (λ x. c *ℤ eval_m ρ m +ℤ x) (hf nil) ∙ sym (+ℤ_assoc (c *ℤ eval_m ρ m) P (pos 0))
  add_t_sound c k m f P hf (tm d l n q) = go (decide k m l n) (decide_eq k m l n) (add_t_sound c k m f P hf q)
    where
      go : (o : Ordering) → (T (compare_is_eq o) → m ≡ n) → eval_p ρ (add_t c k m f q) ≡ (c *ℤ eval_m ρ m +ℤ P) +ℤ eval_p ρ q →
          eval_p ρ (elim o [ Ordering.lt ↦ tm c k m (f (tm d l n q)) | Ordering.eq ↦ cons_t (c +ℤ d) k m (f q) | Ordering.gt ↦ tm d l n (add_t c k m f q) ])
          ≡ (c *ℤ eval_m ρ m +ℤ P) +ℤ (d *ℤ eval_m ρ n +ℤ eval_p ρ q)
      go Ordering.lt e h = ap (λ x. c *ℤ eval_m ρ m +ℤ x) (hf (tm d l n q)) ∙ sym (+ℤ_assoc (c *ℤ eval_m ρ m) P (d *ℤ eval_m ρ n +ℤ eval_p ρ q))
      go Ordering.eq e h =
          cons_t_sound (c +ℤ d) k m (f q)
          ∙ ap₂ (λ x y. x +ℤ y) (*ℤ-distr c d (eval_m ρ m)) (hf q)
          ∙ +ℤ-swap (c *ℤ eval_m ρ m) (d *ℤ eval_m ρ m) P (eval_p ρ q)
          ∙ ap (λ (x : List ℕ). (c *ℤ eval_m ρ m +ℤ P) +ℤ (d *ℤ eval_m ρ x +ℤ eval_p ρ q)) (e tt)
      go Ordering.gt e h = ap (λ x. d *ℤ eval_m ρ n +ℤ x) h ∙ +ℤ-left-comm (d *ℤ eval_m ρ n) (c *ℤ eval_m ρ m +ℤ P) (eval_p ρ q)

  add_p_sound : (p q : Poly) → eval_p ρ (add_p p q) ≡ eval_p ρ p +ℤ eval_p ρ q
  add_p_sound nil q = sym (+ℤ_idl (eval_p ρ q))
  add_p_sound (tm c k m p) q = add_t_sound c k m (λ r. add_p p r) (eval_p ρ p) (λ r. add_p_sound p r) q

  mul_t_sound : (c : ℤ) (k : ℕ) (m : List ℕ) (q : Poly) → eval_p ρ (mul_t c k m q) ≡ (c *ℤ eval_m ρ m) *ℤ eval_p ρ q
  mul_t_sound c k m nil = sym (*ℤ-zero (c *ℤ eval_m ρ m))
  mul_t_sound c k m (tm d l n q) =
      ap₂ (λ x y. x +ℤ y) (ap (λ x. c *ℤ d *ℤ x) (mul_m_sound m n) ∙ *ℤ-swap c d (eval_m ρ m) (eval_m ρ n)) (mul_t_sound c k m q)
      ∙ sym (*ℤ-distl (c *ℤ eval_m ρ m) (d *ℤ eval_m ρ n) (eval_p ρ q))

  mul_p_sound : (p q : Poly) → eval_p ρ (mul_p p q) ≡ eval_p ρ p *ℤ eval_p ρ q
  mul_p_sound nil q = sym (zero-*ℤ (eval_p ρ q))
  mul_p_sound (tm c k m p) q =
      add_p_sound (mul_t c k m q) (mul_p p q)
      ∙ ap₂ (λ x y. x +ℤ y) (mul_t_sound c k m q) (mul_p_sound p q)
      ∙ sym (*ℤ-distr (c *ℤ eval_m ρ m) (eval_p ρ p) (eval_p ρ q))

  prod_p_sound : (p q : Poly) → eval_p ρ (prod_p p q) ≡ eval_p ρ p *ℤ eval_p ρ q
  prod_p_sound p q = go (shorter p q)
    where
      go : (b : Bool) → eval_p ρ (elim b [ true ↦ mul_p p q | false ↦ mul_p q p ]) ≡ eval_p ρ p *ℤ eval_p ρ q
      go true = mul_p_sound p q
      go false = mul_p_sound q p ∙ *ℤ_comm (eval_p ρ q) (eval_p ρ p)

  neg_p_sound : (p : Poly) → eval_p ρ (mul_t (negsuc 0) 0 [] p) ≡ neg_ℤ (eval_p ρ p)
  neg_p_sound p = mul_t_sound (negsuc 0) 0 [] p ∙ negℤ-*ℤ (pos 1) (eval_p ρ p) ∙ ap neg_ℤ (one-*ℤ (eval_p ρ p))

  one_term : (x : ℤ) → pos 1 *ℤ (x *ℤ pos 1) +ℤ pos 0 ≡ x
  one_term x = +ℤ_idr (pos 1 *ℤ (x *ℤ pos 1)) ∙ one-*ℤ (x *ℤ pos 1) ∙ *ℤ_comm x (pos 1) ∙ one-*ℤ x

  norm_sound : (e : Expr) → eval_p ρ (norm e) ≡ eval ρ e
  norm_sound (var v) = one_term (ρ v)
  norm_sound (lit z) = cons_t_sound z 0 [] nil ∙ +ℤ_idr (z *ℤ pos 1) ∙ *ℤ_comm z (pos 1) ∙ one-*ℤ z
  norm_sound (neg a) = neg_p_sound (norm a) ∙ ap neg_ℤ (norm_sound a)
  norm_sound (a ⊕ b) = add_p_sound (norm a) (norm b) ∙ ap₂ (λ x y. x +ℤ y) (norm_sound a) (norm_sound b)
  norm_sound (a ⊖ b) =
      add_p_sound (norm a) (mul_t (negsuc 0) 0 [] (norm b)) ∙
      ap₂ (λ x y. x +ℤ y) (norm_sound a) (neg_p_sound (norm b) ∙ ap neg_ℤ (norm_sound b))
  norm_sound (a ⊗ b) = prod_p_sound (norm a) (norm b) ∙ ap₂ (λ x y. x *ℤ y) (norm_sound a) (norm_sound b)

  nil_zero : (p : Poly) → T (is_nil p) → eval_p ρ p ≡ pos 0
  nil_zero nil t = refl
  nil_zero (tm c k m p) t = absurd t

  -- the solver, over any values
  pub solve : (a b : Expr) → T (is_nil (norm (a ⊖ b))) → eval ρ a ≡ eval ρ b
  solve a b t = eq_of_sub (eval ρ a) (eval ρ b) (sym (norm_sound (a ⊖ b)) ∙ nil_zero (norm (a ⊖ b)) t)

-- and over a list of them
pub ring : (xs : List ℤ) (a b : Expr) → T (is_nil (norm (a ⊖ b))) → eval (at xs) a ≡ eval (at xs) b
ring xs a b t = solve (at xs) a b t
