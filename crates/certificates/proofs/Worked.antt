-- Rule 9 and the set of demand 2 on plates of 01: their definitions are met, and they can fail. The kite has two triangulations, of which
-- one is locally minimal; the square has two, and since its diagonals tie both are. The kite's largest set leaves an empty edge out. Each
-- test over all pairs is computed, and a test that holds gives the sentence. Assumes nothing.
use mathlib.Core.Path.{◌≡◌, refl, sym, ◌∙◌}
use mathlib.Core.Bool.{Bool, true, false, not, cond}
use mathlib.Core.List.{List, [], ◌∷◌}
use Prim.Native.Nat.{ℕ, ◌<◌}
use native.Mathlib.Omega.{arith}
use borrow.Author.Tests.{not-true}
use lib.Dec.{eqb}
use lib.IntN.{ℤ, pos, negsuc}
use Rattle.plane.specs.Numbers.{all_to}
use Rattle.plane.specs.Marks.{count, mark}
use Rattle.plane.specs.Side.{area2, is_left, is_right, is_on, opposite}
use Rattle.plane.specs.Weight.{weight}
use Rattle.plane.specs.Edge.{dot, between, on_segment, clear, empty_edge}
use Rattle.plane.specs.Cross.{crosses}
use Rattle.plane.specs.Hull.{not_left, not_right, one_sided, hull_edge, inner_edge}
use Rattle.plane.specs.Triangle.{inside, outside, hollow, empty_triangle}
use Rattle.plane.proofs.Laws.Numbers.{all_no}
use Rattle.plane.proofs.Laws.Tells.{cond_no}
use Rattle.striking.proofs.Tests.{not_both, is_true, both_first, both_second}
use Rattle.certificates.specs.Certificate.{joined, crossing, HasCertificate, holds_against, apex, left_apex, right_apex, fits}
use Rattle.certificates.specs.Certificate.{first_pick, pick_fitting, pick_right, first_certificate}
use Rattle.certificates.specs.Plate.{certified}
use Rattle.certificates.specs.Rule9.{IsPair, Kept, Triangulation, LocallyMinimal, Supported, Largest}
use Rattle.certificates.proofs.Rule5.{inner_empty}
use Rattle.certificates.proofs.Rule7.{certificate_more}
use Rattle.certificates.proofs.Lawful.{certified_has, has_certified}

-- ---- a test of every pair
unfoldable pub every_pair : List ℤ → (ℕ → ℕ → Bool) → Bool
every_pair m f = all_to (count m) (λ b. all_to b (λ a. f a b))

-- where x holds, so does y
unfoldable pub if_then : Bool → Bool → Bool
if_then x y = cond x y true

then_yes : (x y : Bool) → if_then x y ≡ true → x ≡ true → y ≡ true
unfolding if_then
then_yes true y h e = h
then_yes false y h e = not_both e refl

all_yes : (f : ℕ → Bool) (n : ℕ) → all_to n f ≡ true → (k : ℕ) → k < n → f k ≡ true
all_yes f n h k l = is_true (f k) (λ e. not_both h (all_no f k n l e))

every_yes : (m : List ℤ) (f : ℕ → ℕ → Bool) → every_pair m f ≡ true → {a b : ℕ} → IsPair m a b → f a b ≡ true
unfolding every_pair
every_yes m f h {a} {b} p =
    all_yes (λ k. f k b) b (all_yes (λ j. all_to j (λ k. f k j)) (count m) h b p.marks) a p.up

-- ---- the tests of a set K
module _ (m : List ℤ) (K : ℕ → ℕ → Bool) where
  unfoldable pub keeps_edges : Bool
  keeps_edges = every_pair m (λ a b. if_then (K a b) (empty_edge m a b))

  unfoldable pub keeps_apart : Bool
  keeps_apart = every_pair m (λ a b. if_then (K a b) (every_pair m (λ c d. if_then (K c d) (not (crossing m a b c d)))))

  -- each pair that is left out crosses (c, d)
  unfoldable pub leaves_crossed : ℕ → ℕ → Bool
  leaves_crossed c d = every_pair m (λ a b. cond (K a b) true (crossing m a b c d))

  unfoldable pub certifies_inner : Bool
  certifies_inner = every_pair m (λ a b. if_then (K a b) (if_then (inner_edge m a b) (certified m K (record { a = a; b = b }))))

  unfoldable pub holds_hull : Bool
  holds_hull = every_pair m (λ a b. if_then (hull_edge m a b) (K a b))

  edges_by : keeps_edges ≡ true → (a b : ℕ) → Kept m K a b → empty_edge m a b ≡ true
  unfolding keeps_edges
  edges_by h a b k = then_yes (K a b) _ (every_yes m _ h k.pair) k.kept

  certified_by : certifies_inner ≡ true → (a b : ℕ) → Kept m K a b → inner_edge m a b ≡ true → HasCertificate m K a b
  unfolding certifies_inner
  certified_by h a b k i =
      certified_has m K (record { a = a; b = b })
      (then_yes (inner_edge m a b) _ (then_yes (K a b) _ (every_yes m _ h k.pair) k.kept) i)

  -- a triangulation, where (c, d) is kept
  unfoldable pub is_triangulation : ℕ → ℕ → Bool
  is_triangulation c d = cond keeps_edges (cond keeps_apart (leaves_crossed c d) false) false

  module _ (c d : ℕ) (k : Kept m K c d) (t : is_triangulation c d ≡ true) where
    parts : (keeps_edges ≡ true) × (keeps_apart ≡ true) × (leaves_crossed c d ≡ true)
    unfolding is_triangulation
    parts = let u = both_second keeps_edges _ t in (both_first keeps_edges _ t, both_first keeps_apart _ u, both_second keeps_apart _ u)

    apart_by : (a b a' b' : ℕ) → Kept m K a b → Kept m K a' b' → crossing m a b a' b' ≡ false
    unfolding keeps_apart
    apart_by a b a' b' p q =
        let others = then_yes (K a b) _ (every_yes m _ parts.1 p.pair) p.kept in
        not-true _ (then_yes (K a' b') _ (every_yes m _ others q.pair) q.kept)

    crossed_by : (a b : ℕ) → IsPair m a b → K a b ≡ false → crossing m a b c d ≡ true
    unfolding leaves_crossed
    crossed_by a b p n = sym (cond_no _ _ n) ∙ every_yes m _ parts.2 p

    triangulation_by : Triangulation m K
    triangulation_by =
        record { edges = edges_by parts.0; apart = apart_by; full = λ a b p x n. (c, d, k, crossed_by a b p n) }

    minimal_by : certifies_inner ≡ true → LocallyMinimal m K
    minimal_by h = record { triangulation = triangulation_by; certified = certified_by h }

  -- no pair that is left out has a certificate among all pairs, and each is inner
  unfoldable pub leaves_uncertified : Bool
  leaves_uncertified =
      every_pair m
      (λ a b. cond (K a b) true (cond (inner_edge m a b) (not (certified m (λ c d. true) (record { a = a; b = b }))) false))

  largest_by : keeps_edges ≡ true → holds_hull ≡ true → certifies_inner ≡ true → leaves_uncertified ≡ true → Largest m K
  unfolding holds_hull leaves_uncertified
  largest_by e h c u =
      record {
        supported =
            record { edges = edges_by e; hull = λ a b p x. then_yes (hull_edge m a b) _ (every_yes m _ h p) x; certified = certified_by c };
        largest = λ K' s a b k. go s a b k (K a b) refl (inner_edge m a b) refl (every_yes m _ u k.pair);
      }
    where
      go :
          {K' : ℕ → ℕ → Bool} → Supported m K' → (a b : ℕ) → Kept m K' a b → (x : Bool) → K a b ≡ x → (y : Bool) → inner_edge m a b ≡ y →
          cond x true (cond y (not (certified m (λ c d. true) (record { a = a; b = b }))) false) ≡ true → x ≡ true
      go s a b k true p y q t = refl
      go s a b k false p false q t = t
      go s a b k false p true q t =
          let c = s.certified a b k q in
          not_both (has_certified m (λ c d. true) (record { a = a; b = b }) (c.0, c.1, certificate_more (λ i j h. refl) c.2))
          (not-true _ t)

-- ---- the plates
abbrev pub kite : List ℤ
kite = negsuc 2 ∷ pos 0 ∷ pos 0 ∷ negsuc 0 ∷ pos 3 ∷ pos 0 ∷ pos 0 ∷ pos 1 ∷ []

abbrev pub square : List ℤ
square = pos 0 ∷ pos 0 ∷ pos 2 ∷ pos 0 ∷ pos 2 ∷ pos 2 ∷ pos 0 ∷ pos 2 ∷ []

-- all pairs but (c, d): of four marks of which (0, 2) and (1, 3) are the diagonals, a triangulation leaves one of them out
unfoldable pub all_but : ℕ → ℕ → ℕ → ℕ → Bool
all_but c d a b = cond (eqb a c) (not (eqb b d)) true

kept_13 : (m : List ℤ) → 3 < count m → Kept m (all_but 0 2) 1 3
unfolding all_but
kept_13 m l = record { pair = record { up = omega arith; marks = l }; kept = refl }

kept_02 : (m : List ℤ) → 3 < count m → Kept m (all_but 1 3) 0 2
unfolding all_but
kept_02 m l = record { pair = record { up = omega arith; marks = omega arith }; kept = refl }

-- ---- what the checker computes
record Computed : Type 0 where
  kite_13_parts : is_triangulation kite (all_but 0 2) 1 3 ≡ true
  kite_02_parts : is_triangulation kite (all_but 1 3) 0 2 ≡ true
  square_13_parts : is_triangulation square (all_but 0 2) 1 3 ≡ true
  square_02_parts : is_triangulation square (all_but 1 3) 0 2 ≡ true
  kite_13_certified : certifies_inner kite (all_but 0 2) ≡ true
  kite_02_uncertified : certified kite (all_but 1 3) (record { a = 0; b = 2 }) ≡ false
  square_13_certified : certifies_inner square (all_but 0 2) ≡ true
  square_02_certified : certifies_inner square (all_but 1 3) ≡ true
  kite_02_inner : inner_edge kite 0 2 ≡ true
  kite_hull : holds_hull kite (all_but 0 2) ≡ true
  kite_uncertified : leaves_uncertified kite (all_but 0 2) ≡ true

computed : Computed
unfolding
    all_to mark area2 is_left is_right is_on opposite weight dot between on_segment clear empty_edge crosses not_left not_right one_sided
    hull_edge inner_edge inside outside hollow empty_triangle joined holds_against apex left_apex right_apex fits first_pick pick_fitting pick_right
    first_certificate certified every_pair if_then keeps_edges keeps_apart leaves_crossed is_triangulation certifies_inner holds_hull
    leaves_uncertified all_but
computed =
    record {
      kite_13_parts = refl;
      kite_02_parts = refl;
      square_13_parts = refl;
      square_02_parts = refl;
      kite_13_certified = refl;
      kite_02_uncertified = refl;
      square_13_certified = refl;
      square_02_certified = refl;
      kite_02_inner = refl;
      kite_hull = refl;
      kite_uncertified = refl;
    }

-- ---- the kite

-- With its short diagonal it is triangulated, and locally minimal;
pub kite_minimal : LocallyMinimal kite (all_but 0 2)
kite_minimal = minimal_by kite (all_but 0 2) 1 3 (kept_13 kite (omega arith)) computed.kite_13_parts computed.kite_13_certified

-- with its long one it is triangulated, and not locally minimal.
pub kite_other : Triangulation kite (all_but 1 3)
kite_other = triangulation_by kite (all_but 1 3) 0 2 (kept_02 kite (omega arith)) computed.kite_02_parts

pub kite_other_not_minimal : LocallyMinimal kite (all_but 1 3) → ⊥
kite_other_not_minimal l =
    not_both
    (has_certified kite (all_but 1 3) (record { a = 0; b = 2 })
    (l.certified 0 2 (kept_02 kite (omega arith)) computed.kite_02_inner))
    computed.kite_02_uncertified

-- Its largest set is not all empty edges: (0, 2) is one, and is left out.
pub kite_largest : Largest kite (all_but 0 2)
kite_largest =
    largest_by kite (all_but 0 2) (parts kite (all_but 0 2) 1 3 (kept_13 kite (omega arith)) computed.kite_13_parts).0 computed.kite_hull
    computed.kite_13_certified computed.kite_uncertified

pub kite_left_out : (empty_edge kite 0 2 ≡ true) × (all_but 0 2 0 2 ≡ false)
unfolding all_but
kite_left_out = (inner_empty kite 0 2 computed.kite_02_inner, refl)

-- ---- the square: its diagonals tie, and with either it is locally minimal
pub square_minimal : LocallyMinimal square (all_but 0 2)
square_minimal =
    minimal_by square (all_but 0 2) 1 3 (kept_13 square (omega arith)) computed.square_13_parts computed.square_13_certified

pub square_other_minimal : LocallyMinimal square (all_but 1 3)
square_other_minimal =
    minimal_by square (all_but 1 3) 0 2 (kept_02 square (omega arith)) computed.square_02_parts computed.square_02_certified
