-- A list of bytes as a set. Writing 0 at a place takes that pair out of the set and leaves every other, since a byte that is
-- written changes no other byte. Assumes nothing.
use mathlib.Core.Path.{◌≡◌, refl, sym, ap, ◌∙◌}
use mathlib.Core.Bool.{Bool, true, false, not, cond}
use mathlib.Core.List.{List}
use Prim.Native.Nat.{ℕ, ◌<◌, ◌≤◌}
use native.Mathlib.Decide.{ℕ_discrete, dec_lt}
use native.Mathlib.Omega.{arith}
use borrow.Author.Tests.{eq-eqb, ne_eqb}
use lib.Dec.{eqb}
use lib.ListN.{get_or, set, length, get_or-eq_default}
use lib.Seq.{get_or-set_other, get_or-set_same, set_out}
use Rattle.striking.specs.Below.{list_below}
use Rattle.striking.specs.System.{System, Lawful}
use Rattle.striking.specs.Status.{remaining, all_edges}
use Rattle.striking.proofs.Tests.{not_both, is_false}
use Rattle.striking.proofs.Below.{list_at, list_past}

pub remaining_not : (st : List ℕ) (i : ℕ) → get_or st i 0 ≡ 0 → remaining st i ≡ false
unfolding remaining
remaining_not st i h = ap not (eq-eqb (get_or st i 0) 0 h)

pub remaining_yes : (st : List ℕ) (i : ℕ) → (get_or st i 0 ≡ 0 → ⊥) → remaining st i ≡ true
unfolding remaining
remaining_yes st i h = ap not (ne_eqb (get_or st i 0) 0 h)

-- ---- a strike
pub struck_gone : (st : List ℕ) (i : ℕ) → remaining (set st i 0) i ≡ false
struck_gone st i = remaining_not (set st i 0) i (go (dec_lt i (length st)))
  where
    go : Dec (i < length st) → get_or (set st i 0) i 0 ≡ 0
    go (yes l) = get_or-set_same st i 0 0 l
    go (no d) =
        let l : length st ≤ i = omega arith in
        ap (λ (s : List ℕ). get_or s i 0) (set_out st i 0 l) ∙ get_or-eq_default st 0 l

pub others_stay : (st : List ℕ) (i j : ℕ) → (j ≡ i → ⊥) → remaining (set st i 0) j ≡ remaining st j
unfolding remaining
others_stay st i j d = ap (λ (b : ℕ). not (eqb b 0)) (get_or-set_other st i j 0 0 d)

pub struck_within : (st : List ℕ) (i j : ℕ) → remaining (set st i 0) j ≡ true → remaining st j ≡ true
struck_within st i j h = go (ℕ_discrete j i)
  where
    go : Dec (j ≡ i) → remaining st j ≡ true
    go (yes e) = not_both h (rw e (struck_gone st i))
    go (no d) = sym (others_stay st i j d) ∙ h

-- ---- a byte for each number below n, not 0 exactly for the members of S
pub listed :
    (n : ℕ) (byte : ℕ → ℕ) (S : ℕ → Bool) → ((i : ℕ) → not (eqb (byte i) 0) ≡ S i) → ((i : ℕ) → S i ≡ true → i < n) →
    (i : ℕ) → remaining (list_below n byte) i ≡ S i
unfolding remaining
listed n byte S bit below i = go (dec_lt i n)
  where
    go : Dec (i < n) → not (eqb (get_or (list_below n byte) i 0) 0) ≡ S i
    go (yes l) = ap (λ (b : ℕ). not (eqb b 0)) (list_at byte n i l) ∙ bit i
    go (no d) =
        let l : n ≤ i = omega arith in
        ap (λ (b : ℕ). not (eqb b 0)) (list_past byte n i l) ∙ sym (is_false (S i) (λ h. d (below i h)))

-- the remaining set starts as all empty edges
pub all_edges_lem : (y : System) → Lawful y → (i : ℕ) → remaining (all_edges y) i ≡ y.edge i
unfolding all_edges
all_edges_lem y law = listed y.size (λ i. cond (y.edge i) 1 0) y.edge (λ i. bit (y.edge i)) law.edges_below
  where
    bit : (b : Bool) → not (eqb (cond b 1 0) 0) ≡ b
    bit true = refl
    bit false = refl
