-- What the rows of a table come to, whatever they are: the lowest row that applies, or none. Rows that are asked in the order of
-- their numbers, each where none before it applies, come to the lowest. Assumes nothing.
use mathlib.Core.Path.{◌≡◌, refl, sym, ◌∙◌, ap, subst}
use mathlib.Core.Logic.{◌↔◌, ◌⊎◌, inl, inr, ⊎_elim}
use Prim.Native.Nat.{ℕ, ◌≤◌, ◌<◌}
use native.Mathlib.Omega.{arith}
use Rattle.std.specs.Prelude.{Result, Ok, Err}
use Rattle.refusals.specs.declared.Refusal.{Refusal}
use Rattle.refusals.specs.Check.{Shown, shows, shown, shown_by, Refused, Verdict}
use Rattle.refusals.proofs.Laws.{err_same, ok_no_err, shown_positive}
use Rattle.skeleton.specs.Answers.{or_else}
use Rattle.skeleton.specs.Table.{Lowest, None}

-- ---- a refusal, or none
pub not_accepted : {A B : Type 0} {a : A} {x : Refusal} → ◌≡◌ {A = Result A Refusal} (Ok a) (Err x) → B
not_accepted e = absurd (ok_no_err e)

-- where two rows accept, each does
pub or_first : (v w : Verdict) → or_else v w ≡ Ok tt → v ≡ Ok tt
unfolding or_else
or_first (Err x) w e = not_accepted (sym e)
or_first (Ok t) w e = refl

pub or_second : (v w : Verdict) → or_else v w ≡ Ok tt → w ≡ Ok tt
unfolding or_else
or_second (Err x) w e = not_accepted (sym e)
or_second (Ok t) w e = e

-- ---- what is shown of an answer
module _ {A : Type 0} where
  abbrev pub Unrefused : Result A Refusal → Type 0
  Unrefused o = (x : Refusal) → o ≡ Err x → ⊥

  pub shown_refused : (o : Result A Refusal) (x : Shown) → 0 < x.number → (shown_by o ≡ x) ↔ Refused o x
  unfolding shown_by
  shown_refused (Err y) x l = (λ e. (y, refl, e), λ r. ap shown (err_same r.1) ∙ r.2)
  shown_refused (Ok a) x l =
      (λ q. let n = ap (λ (y : Shown). y.number) q in absurd (let z : ⊥ = omega arith in z), λ r. not_accepted r.1)

  -- no refusal has the number 0
  pub shown_none : (o : Result A Refusal) → ((shown_by o).number ≡ 0) ↔ Unrefused o
  unfolding shown_by
  shown_none (Err y) = (λ e. let l = shown_positive y in absurd (let z : ⊥ = omega arith in z), λ u. absurd (u y refl))
  shown_none (Ok a) = (λ q x h. not_accepted h, λ u. refl)

-- the verdict v is a refusal with number n and detail d
abbrev pub At : Verdict → ℕ → ℕ → Type 0
At v n d = Refused v (shows n d)

-- What the rows R come to: the refusal y, whose row applies and comes before or is each row that applies; or none applies.
pub data Settled (R : ℕ → ℕ → Type 0) : Verdict → Type 0 where
  first :
      (y : Refusal) → R (shown y).number (shown y).detail →
      ((n d : ℕ) → R n d → ((shown y).number < n) ⊎ (((shown y).number ≡ n) × ((shown y).detail ≡ d))) → Settled R (Err y)
  free : None R → Settled R (Ok tt)

module _ {R : ℕ → ℕ → Type 0} where
  pub settled_exactly : {v : Verdict} → Settled R v → (x : Shown) → Refused v x ↔ Lowest R x
  settled_exactly (first y r before) x = (
    λ e. subst (Lowest R) (ap shown (err_same e.1) ∙ e.2) (record { applies = r; lowest = λ n d q. least (before n d q) }),
    λ l. (y, refl, meet l (before x.number x.detail l.applies)),
  )
    where
      least : {n d : ℕ} → ((shown y).number < n) ⊎ (((shown y).number ≡ n) × ((shown y).detail ≡ d)) → (shown y).number ≤ n
      least (inl l) = omega arith
      least (inr e) = let q = e.0 in omega arith

      meet : Lowest R x → ((shown y).number < x.number) ⊎ (((shown y).number ≡ x.number) × ((shown y).detail ≡ x.detail)) → shown y ≡ x
      meet l (inl h) = let k = l.lowest (shown y).number (shown y).detail r in absurd (let z : ⊥ = omega arith in z)
      meet l (inr e) = λ i. record { number = e.0 i; detail = e.1 i }
  settled_exactly (free none) x = (λ e. not_accepted e.1, λ l. absurd (none _ _ l.applies))

  pub settled_none : {v : Verdict} → Settled R v → (v ≡ Ok tt) ↔ None R
  settled_none (first y r before) = (λ e. not_accepted (sym e), λ n. absurd (n _ _ r))
  settled_none (free none) = (λ e. none, λ n. refl)

-- one verdict settles itself
pub settled_at : (v : Verdict) → Settled (At v) v
settled_at (Err y) =
    first y (y, refl, refl)
    (λ n d e. let q = ap shown (err_same e.1) ∙ e.2 in inr (ap (λ (x : Shown). x.number) q, ap (λ (x : Shown). x.detail) q))
settled_at (Ok t) = free (λ n d e. not_accepted e.1)

-- rows and later rows
pub settled_or :
    {R Q : ℕ → ℕ → Type 0} {v w : Verdict} → ((n d n' d' : ℕ) → R n d → Q n' d' → n < n') → Settled R v → Settled Q w →
    Settled (λ n d. R n d ⊎ Q n d) (or_else v w)
unfolding or_else
settled_or order (first y r before) s = first y (inl r) (λ n d p. ⊎_elim (before n d) (λ q. inl (order _ _ n d r q)) p)
settled_or order (free none) (first y q before) = first y (inr q) (λ n d p. ⊎_elim (λ r. absurd (none n d r)) (before n d) p)
settled_or order (free none) (free none') = free (λ n d p. ⊎_elim (none n d) (none' n d) p)

-- rows under another name
pub settled_as :
    {R Q : ℕ → ℕ → Type 0} {v : Verdict} → ((n d : ℕ) → R n d → Q n d) → ((n d : ℕ) → Q n d → R n d) → Settled R v → Settled Q v
settled_as f g (first y r before) = first y (f _ _ r) (λ n d q. before n d (g n d q))
settled_as f g (free none) = free (λ n d q. none n d (g n d q))

-- ---- a row that is one refusal: what holds of that holds of whatever the row gives
pub from_refused : (R : ℕ → ℕ → Type 0) {x : Refusal} {n d : ℕ} → R (shown x).number (shown x).detail → At (Err x) n d → R n d
from_refused R {x} {n} {d} r q = subst (λ (s : Shown). R s.number s.detail) (ap shown (err_same q.1) ∙ q.2) r
