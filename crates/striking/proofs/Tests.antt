-- Tests: a test has one answer, and one that is not false is true. Assumes nothing.
use mathlib.Core.Path.{◌≡◌, refl, sym, ◌∙◌, subst}
use mathlib.Core.Bool.{Bool, true, false, cond}
use lib.Dec.{T}

pub not_both : {b : Bool} {A : Type 0} → b ≡ true → b ≡ false → A
not_both p q = absurd (subst T (sym p ∙ q) tt)

pub is_true : (b : Bool) → (b ≡ false → ⊥) → b ≡ true
is_true true h = refl
is_true false h = absurd (h refl)

pub is_false : (b : Bool) → (b ≡ true → ⊥) → b ≡ false
is_false true h = absurd (h refl)
is_false false h = refl

-- two tests that imply one another are one
pub same_test : (a b : Bool) → (a ≡ true → b ≡ true) → (b ≡ true → a ≡ true) → a ≡ b
same_test true b f g = sym (f refl)
same_test false b f g = sym (is_false b (λ h. not_both (g h) refl))

-- "a and b"
pub both : {a b : Bool} → a ≡ true → b ≡ true → cond a b false ≡ true
both p q = rw (p, q)

pub both_first : (a b : Bool) → cond a b false ≡ true → a ≡ true
both_first true b h = refl
both_first false b h = not_both h refl

pub both_second : (a b : Bool) → cond a b false ≡ true → b ≡ true
both_second true b h = h
both_second false b h = not_both h refl
