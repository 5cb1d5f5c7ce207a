-- Laws of `first` and `rest`. What the machine does to the word that has the lowest digit takes the first member out, and what is left is
-- the set without it; where both words are 0, nothing is taken. Assumes nothing.
use mathlib.Core.Path.{◌≡◌, refl, sym, ap, ◌∙◌}
use mathlib.Core.Logic.{⊎_elim}
use mathlib.Core.Bool.{Bool, true, false, not, cond}
use Prim.Native.Nat.{ℕ, ◌+◌, ◌-◌, ◌≤◌, ◌<◌}
use native.Mathlib.Omega.{arith}
use borrow.Author.Tests.{eq-eqb, ne_eqb}
use lib.Bits.{bit_and}
use lib.Count.{count_trailing_zeros}
use Rattle.std.specs.Prelude.{None, Some}
use Rattle.plane.specs.Numbers.{first_to}
use Rattle.plane.proofs.Laws.Numbers.{all_no}
use Rattle.plane.proofs.Laws.Tells.{cond_yes, cond_no}
use Rattle.sets.specs.declared.Set.{Set}
use Rattle.sets.specs.Sets.{set_of, has, lacks, none, first, rest, PopsFirst, without}
use Rattle.sets.proofs.Laws.Numbers.{split, true_false, first_found, all_true}
use Rattle.sets.proofs.Laws.Members.{next_later}
use Rattle.sets.proofs.Laws.Sets.{Fits, first_low, first_high, rest_low, rest_high, none_low, none_high}

-- ---- a set is empty exactly if no number is its first
module _ (s : Set) where
  empty_first : none s ≡ true → 128 ≤ first_to 128 (has s)
  unfolding none lacks
  empty_first e =
      ⊎_elim (λ l. l)
      (λ l. absurd (true_false e (all_no (lacks (has s)) (first_to 128 (has s)) 128 l (ap not ((first_found (has s) 128 _ refl).there l)))))
      (split 128 (first_to 128 (has s)))

  some_first : none s ≡ false → first_to 128 (has s) < 128
  unfolding none lacks
  some_first e =
      ⊎_elim
      (λ l. absurd (true_false (all_true (lacks (has s)) 128 (λ i u. ap not ((first_found (has s) 128 _ refl).before i (omega arith)))) e))
      (λ l. l)
      (split 128 (first_to 128 (has s)))

-- ---- what a loop learns: k was the first of s, and r is s without it
pub record Taken (s : Set) (k : ℕ) (r : Set) : Type 0 where
  pub first : k ≡ first_to 128 (has s)
  pub small : k < 128
  pub rest : r ≡ set_of (without (has s) k)

some_same : {k n : ℕ} → Some k ≡ Some n → k ≡ n
some_same e = cc

pub taken : {s r : Set} {k : ℕ} → PopsFirst s (Some k) r → Taken s k r
unfolding first rest
taken {s} {r} {k} h = go (none s) refl h.first h.rest
  where
    go :
        (b : Bool) → none s ≡ b → Some k ≡ cond b None (Some (first_to 128 (has s))) → r ≡ cond b s (set_of (without (has s) (first_to 128 (has s)))) →
        Taken s k r
    go true n e q = let z : ◌≡◌ {A = ℕ} 0 1 = cc in absurd (omega arith)
    go false n e q =
        let f : k ≡ first_to 128 (has s) = some_same e in
        let l = some_first s n in
        record { first = f; small = omega arith; rest = q ∙ ap (λ (x : ℕ). set_of (without (has s) x)) (sym f) }

pub ended : {s r : Set} → PopsFirst s None r → 128 ≤ first_to 128 (has s)
unfolding first
ended {s} h = go (none s) refl h.first
  where
    go : (b : Bool) → none s ≡ b → None ≡ cond b None (Some (first_to 128 (has s))) → 128 ≤ first_to 128 (has s)
    go true n e = empty_first s n
    go false n e = let z : ◌≡◌ {A = ℕ} 0 1 = cc in absurd (omega arith)

-- a measure: the next first comes later
pub later : {s r : Set} {k : ℕ} → Taken s k r → 128 - first_to 128 (has r) < 128 - first_to 128 (has s)
later {s} {r} {k} t =
    let n = next_later s k t.first r t.rest (first_to 128 (has r)) refl t.small in
    let e = t.first in
    omega arith

-- ---- what the machine does to the words
module _ (s : Set) (h : Fits s) where
  module _ (k : ℕ) (r : Set) (n : none s ≡ false) (e : k ≡ first_to 128 (has s)) where
    first_some : Some k ≡ first s
    unfolding first
    first_some = ap (λ (x : ℕ). Some x) e ∙ sym (cond_no _ _ n)

    rest_some : r ≡ set_of (without (has s) k) → r ≡ rest s
    unfolding rest
    rest_some q = q ∙ ap (λ (x : ℕ). set_of (without (has s) x)) e ∙ sym (cond_no _ _ n)

  module _ (n : s.low ≡ 0 → ⊥) where
    pub pop_low : Some (count_trailing_zeros 64 s.low) ≡ first s
    pop_low = first_some _ s (sym (none_low s h n)) (first_low s h n)

    pub left_low : record { low = bit_and s.low (s.low - 1); high = s.high } ≡ rest s
    left_low = rest_some _ _ (sym (none_low s h n)) (first_low s h n) (rest_low s h _ n (first_low s h n))

  module _ (z : s.low ≡ 0) (n : none s ≡ false) where
    pub high_left : s.high ≡ 0 → ⊥
    high_left y = true_false (sym (none_high s h z) ∙ eq-eqb s.high 0 y) n

    pub pop_high : Some (64 + count_trailing_zeros 64 s.high) ≡ first s
    pop_high = first_some _ s n (first_high s h z)

    pub left_high : record { low = s.low; high = bit_and s.high (s.high - 1) } ≡ rest s
    left_high =
        let e = first_high s h z in
        let l = some_first s n in
        rest_some _ _ n e (rest_high s h _ z e (omega arith))

module _ (s : Set) (e : none s ≡ true) where
  pub pop_none : None ≡ first s
  unfolding first
  pop_none = sym (cond_yes _ _ e)

  pub left_none : s ≡ rest s
  unfolding rest
  left_none = sym (cond_yes _ _ e)
