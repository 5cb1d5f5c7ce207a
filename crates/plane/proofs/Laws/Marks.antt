-- Laws of marks: what the tests of equal numbers and points tell; the marks of a plate are different points. Assumes nothing.
use mathlib.Core.Path.{◌≡◌, refl, sym, ◌∙◌, ap, ap₂, subst}
use mathlib.Core.Bool.{Bool, true, false, cond, ◌&&◌}
use mathlib.Core.List.{List}
use Prim.Native.Nat.{ℕ, ◌<◌}
use native.Mathlib.Decide.{dec_lt}
use native.Mathlib.Omega.{arith}
use lib.Dec.{T, eqb→eq, eqb_refl}
use lib.IntN.{ℤ, pos, negsuc}
use Rattle.std.specs.Bool.{Decides}
use Rattle.std.specs.Cmp.{signed_Decides}
use Rattle.std.specs.Ordering.{int_eq}
use Rattle.plane.specs.declared.marks.Point.{Point}
use Rattle.plane.specs.Marks.{mark, IsMark, Plate, same_number, same_point}
use Rattle.plane.proofs.Laws.Tells.{Tells, tells_map, tells_and, tells_same}

same_refl : (a : ℤ) → T (same_number a a)
unfolding same_number
same_refl (pos n) = eqb_refl n
same_refl (negsuc n) = eqb_refl n

same_eq : (a b : ℤ) → T (same_number a b) → a ≡ b
unfolding same_number
same_eq (pos a) (pos b) t = ap pos (eqb→eq a b t)
same_eq (pos a) (negsuc b) t = absurd t
same_eq (negsuc a) (pos b) t = absurd t
same_eq (negsuc a) (negsuc b) t = ap negsuc (eqb→eq a b t)

pub same_number_tells : (a b : ℤ) → Tells (same_number a b) (a ≡ b)
same_number_tells a b = record { to = same_eq a b; from = λ e. subst (λ z. T (same_number a z)) e (same_refl a) }

pub point_eq : {p q : Point} → p.x ≡ q.x → p.y ≡ q.y → p ≡ q
point_eq e f = λ i. record { x = e i; y = f i }

pub same_point_tells : (p q : Point) → Tells (same_point p q) (p ≡ q)
unfolding same_point
same_point_tells p q =
    tells_map (λ h. point_eq h.0 h.1) (λ e. (ap (λ (r : Point). r.x) e, ap (λ (r : Point). r.y) e))
    (tells_and (same_number_tells p.x q.x) (same_number_tells p.y q.y))

-- two marks of a plate are different points
pub marks_apart : {m : List ℤ} {i j : ℕ} → Plate m → IsMark m i → IsMark m j → ¬ (i ≡ j) → ¬ (mark m i ≡ mark m j)
marks_apart {m} {i} {j} h p q d e = go (dec_lt i j) (dec_lt j i)
  where
    go : Dec (i < j) → Dec (j < i) → ⊥
    go (yes l) x = h.apart i j l q e
    go (no x) (yes l) = h.apart j i l p (sym e)
    go (no x) (no y) = d (omega arith)

-- what the derived `==` compares is what `same_point` compares
same_by : (b : Bool) {A : Type 0} → Decides b A → Tells b A
same_by b d = record { to = λ t. d.0 (yes_true b t); from = λ a. subst T (sym (d.1 a)) tt }
  where
    yes_true : (b : Bool) → T b → b ≡ true
    yes_true true t = refl
    yes_true false t = absurd t

pub same_fields : (p q : Point) → (int_eq p.x q.x && int_eq p.y q.y) ≡ same_point p q
unfolding same_point
same_fields p q =
    both (int_eq p.x q.x) (int_eq p.y q.y) ∙
    ap₂ (λ s t. cond s t false) (number p.x q.x) (number p.y q.y)
  where
    number : (a b : ℤ) → int_eq a b ≡ same_number a b
    number a b = tells_same (same_by (int_eq a b) (signed_Decides a b)) (same_number_tells a b) (λ e. e) (λ e. e)

    both : (s t : Bool) → (s && t) ≡ cond s t false
    both true t = refl
    both false t = refl
