-- Bounds on signed numbers, `Near B z`, through differences, sums and products; and what the machine reads back of a number that fits.
-- Assumes nothing.
use mathlib.Core.Path.{◌≡◌, refl, sym, ap, ◌∙◌, subst}
use mathlib.Core.Bool.{Bool, true, false, cond}
use Prim.Native.Nat.{ℕ, zero, suc, ◌+◌, ◌*◌, ◌-◌, ◌^◌, ◌≤◌}
use native.Mathlib.Nat.{mul-le-mul_left, mul-le-mul_right, le_trans, lt_of_le_of_lt}
use native.Mathlib.Omega.{arith}
use lib.Dec.{T, ltb, ltb→lt}
use lib.IntN.{ℤ, pos, negsuc, neg_ℤ, nat_abs, sub_ℕ, ◌+ℤ◌, ◌-ℤ◌, ◌*ℤ◌}
use lib.Signed.{mag}
use mathlib.Core.List.{List}
use mir.Syntax.{w32}
use mir.Val.{SFits, to_z, of_z}
use mir.ValLaws.{to_z-of_z}
use Rattle.plane.specs.Marks.{Near, InRange, Plate, mark}

pub abs_neg : (z : ℤ) → nat_abs (neg_ℤ z) ≡ nat_abs z
abs_neg (pos zero) = refl
abs_neg (pos (suc n)) = refl
abs_neg (negsuc n) = refl

pick_le : (t : Bool) (a b B : ℕ) → a ≤ B → b ≤ B → nat_abs (cond t (negsuc a) (pos b)) ≤ suc B
pick_le true a b B h k = omega arith
pick_le false a b B h k = omega arith

sub_le : (a b : ℕ) → nat_abs (sub_ℕ a (suc b)) ≤ a + suc b
sub_le a b = le_trans (pick_le (ltb a (suc b)) (suc b - suc a) (a - suc b) (a + b) (omega arith) (omega arith)) (omega arith)

pub abs_add : (a b : ℤ) → nat_abs (a +ℤ b) ≤ nat_abs a + nat_abs b
abs_add (pos a) (pos b) = omega arith
abs_add (pos a) (negsuc b) = sub_le a b
abs_add (negsuc a) (pos b) = let h = sub_le b a in omega arith
abs_add (negsuc a) (negsuc b) = omega arith

pub abs_mul : (a b : ℤ) → nat_abs (a *ℤ b) ≡ nat_abs a * nat_abs b
abs_mul (pos a) (pos b) = refl
abs_mul (pos a) (negsuc b) = abs_neg (pos (a * suc b))
abs_mul (negsuc a) (pos b) = abs_neg (pos (suc a * b))
abs_mul (negsuc a) (negsuc b) = refl

pub add_in : {A B : ℕ} {a b : ℤ} → Near A a → Near B b → Near (A + B) (a +ℤ b)
add_in {A} {B} {a} {b} h k = record { near = let l = abs_add a b in omega arith }

pub sub_in : {A B : ℕ} {a b : ℤ} → Near A a → Near B b → Near (A + B) (a -ℤ b)
sub_in {A} {B} {a} {b} h k = record { near = let e = abs_neg b in let l = abs_add a (neg_ℤ b) in omega arith }

pub mul_in : {A B : ℕ} {a b : ℤ} → Near A a → Near B b → Near (A * B) (a *ℤ b)
mul_in {A} {B} {a} {b} h k =
    record { near = rw (abs_mul a b) (le_trans (mul-le-mul_right (nat_abs b) h.near) (mul-le-mul_left A k.near)) }

mag_le : (z : ℤ) → mag z ≤ nat_abs z
mag_le (pos n) = omega arith
mag_le (negsuc n) = omega arith

-- a number that a numeral bounds fits an i32
pub near_fits : {B : ℕ} {z : ℤ} → Near B z → T (ltb B (2 ^ 31)) → SFits w32 z
near_fits {B} {z} h t = record { sfits = lt_of_le_of_lt (le_trans (mag_le z) h.near) (ltb→lt B (2 ^ 31) t) }

-- what the machine reads back
abbrev pub rd : ℤ → ℤ
rd z = to_z w32 (of_z w32 z)

pub back : {z : ℤ} → SFits w32 z → rd z ≡ z
back {z} f = to_z-of_z w32 z f

-- what the machine reads at u is z, which is at most B from 0. An expression's needs are answered by a term of the same shape: `(mul_reads (sub_reads q p) (sub_reads r p)).fits`
pub record Reads (B : ℕ) (u z : ℤ) : Type 0 where
  pub reads : rd u ≡ z
  pub close : Near B z

pub reads_near : {B : ℕ} {z : ℤ} → Near B z → T (ltb B (2 ^ 31)) → Reads B z z
reads_near h t = record { reads = back (near_fits h t); close = h }

pub reads_fits : {B : ℕ} {u z : ℤ} → Reads B u z → T (ltb B (2 ^ 31)) → SFits w32 (rd u)
reads_fits i t = subst (SFits w32) (sym i.reads) (near_fits i.close t)

-- an operation that keeps a bound, on two signed locals
module _ (f : ℤ → ℤ → ℤ) {a b x y : ℤ} {A B : ℕ} (C : ℕ) (ia : Reads A a x) (ib : Reads B b y) (h : Near C (f x y)) (t : T (ltb C (2 ^ 31))) where
  op_reads : f (rd a) (rd b) ≡ f x y
  op_reads = ap (λ (z : ℤ). f z (rd b)) ia.reads ∙ ap (f x) ib.reads

  pub op_fits : SFits w32 (f (rd a) (rd b))
  op_fits = subst (SFits w32) (sym op_reads) (near_fits h t)

  pub op_reads_as : Reads C (f (rd a) (rd b)) (f x y)
  op_reads_as = record { reads = ap rd op_reads ∙ back (near_fits h t); close = h }

module _ {a b x y : ℤ} {A B : ℕ} (ia : Reads A a x) (ib : Reads B b y) where
  pub add_reads : T (ltb (A + B) (2 ^ 31)) → Reads (A + B) (rd a +ℤ rd b) (x +ℤ y)
  add_reads t = op_reads_as ◌+ℤ◌ (A + B) ia ib (add_in ia.close ib.close) t

  pub add_fits : T (ltb (A + B) (2 ^ 31)) → SFits w32 (rd a +ℤ rd b)
  add_fits t = op_fits ◌+ℤ◌ (A + B) ia ib (add_in ia.close ib.close) t

  pub sub_reads : T (ltb (A + B) (2 ^ 31)) → Reads (A + B) (rd a -ℤ rd b) (x -ℤ y)
  sub_reads t = op_reads_as ◌-ℤ◌ (A + B) ia ib (sub_in ia.close ib.close) t

  pub sub_fits : T (ltb (A + B) (2 ^ 31)) → SFits w32 (rd a -ℤ rd b)
  sub_fits t = op_fits ◌-ℤ◌ (A + B) ia ib (sub_in ia.close ib.close) t

  pub mul_reads : T (ltb (A * B) (2 ^ 31)) → Reads (A * B) (rd a *ℤ rd b) (x *ℤ y)
  mul_reads t = op_reads_as ◌*ℤ◌ (A * B) ia ib (mul_in ia.close ib.close) t

  pub mul_fits : T (ltb (A * B) (2 ^ 31)) → SFits w32 (rd a *ℤ rd b)
  mul_fits t = op_fits ◌*ℤ◌ (A * B) ia ib (mul_in ia.close ib.close) t

-- ---- coordinates, and the difference of two
module _ {x y : ℤ} (h : Near 10000 x) (k : Near 10000 y) where
  pub gap : Reads 20000 (rd x -ℤ rd y) (x -ℤ y)
  gap = sub_reads (reads_near h tt) (reads_near k tt) tt

  pub gap_fits : SFits w32 (rd x -ℤ rd y)
  gap_fits = sub_fits (reads_near h tt) (reads_near k tt) tt

-- every mark of a plate is in range
pub mark_in_range : {m : List ℤ} → Plate m → (i : ℕ) → InRange (mark m i)
unfolding mark
mark_in_range h i = record { near_x = h.near (2 * i); near_y = h.near (2 * i + 1) }
