-- Rule 3's laws: `Empty m a b` is the rule as it is written, and the test tells it. Assumes nothing.
use mathlib.Core.Path.{◌≡◌, refl, ap, ◌∙◌, subst}
use mathlib.Core.Bool.{Bool, true, false, not, cond}
use mathlib.Core.List.{List}
use mathlib.Core.Logic.{◌⊎◌, inl, inr}
use Prim.Native.Nat.{ℕ}
use borrow.Author.Tests.{eq-eqb, ne_eqb}
use lib.Dec.{eqb}
use lib.IntN.{ℤ}
use Rattle.plane.specs.declared.marks.Point.{Point}
use Rattle.plane.specs.Marks.{count, mark, IsMark, Plate}
use Rattle.plane.specs.Side.{on_line}
use Rattle.plane.specs.Edge.{between, on_segment, clear, empty_edge}
use Rattle.plane.proofs.Laws.Tells.{Tells, tells_dec, tells_map, tells_or, tells_not, tells_eqb, tells_all, tells_false, tells_same, cond_yes, cond_no}
use Rattle.plane.proofs.Laws.Marks.{marks_apart}
use Rattle.plane.proofs.Laws.Side.{L, Z, weak, same}
use Rattle.plane.proofs.Laws.Segment.{On, on_of, on_inner, on_outer, on_flip, on_segment_tells}

-- ---- when a mark leaves an edge clear
module _ (m : List ℤ) (a b k : ℕ) where
  pub clear_at_a : k ≡ a → clear m a b k ≡ true
  unfolding clear
  clear_at_a e = cond_yes _ _ (eq-eqb k a e)

  pub clear_at_b : k ≡ b → clear m a b k ≡ true
  unfolding clear
  clear_at_b e = go (eqb k a)
    where
      go : (t : Bool) → cond t true (cond (eqb k b) true (not (on_segment (mark m a) (mark m b) (mark m k)))) ≡ true
      go true = refl
      go false = cond_yes _ _ (eq-eqb k b e)

  pub clear_off : on_line (mark m a) (mark m b) (mark m k) ≡ false → clear m a b k ≡ true
  unfolding clear on_segment
  clear_off e = go (eqb k a) (eqb k b)
    where
      go : (s t : Bool) → cond s true (cond t true (not (on_segment (mark m a) (mark m b) (mark m k)))) ≡ true
      go true t = refl
      go false true = refl
      go false false = ap not (cond_no _ _ e)

  pub clear_third : (k ≡ a → ⊥) → (k ≡ b → ⊥) → on_line (mark m a) (mark m b) (mark m k) ≡ true → clear m a b k ≡ not (between (mark m a) (mark m b) (mark m k))
  unfolding clear on_segment
  clear_third h l e = cond_no _ _ (ne_eqb k a h) ∙ cond_no _ _ (ne_eqb k b l) ∙ ap not (cond_yes _ _ e)

-- ---- rule 3 as it is written: no third mark lies on the segment
pub record Empty (m : List ℤ) (a b : ℕ) : Type 0 where
  pub free : (k : ℕ) → IsMark m k → ¬ (k ≡ a) → ¬ (k ≡ b) → ¬ On (mark m a) (mark m b) (mark m k)

pub empty_edge_tells : (m : List ℤ) (a b : ℕ) → Tells (empty_edge m a b) (Empty m a b)
unfolding empty_edge clear
empty_edge_tells m a b =
    tells_map to from
    (tells_all (count m) (clear m a b) (λ k h. (k ≡ a) ⊎ ((k ≡ b) ⊎ (¬ On (mark m a) (mark m b) (mark m k))))
    (λ k h. tells_or tells_eqb (tells_or tells_eqb (tells_not (on_segment_tells (mark m a) (mark m b) (mark m k))))))
  where
    Each : Type 0
    Each = (k : ℕ) → IsMark m k → (k ≡ a) ⊎ ((k ≡ b) ⊎ (¬ On (mark m a) (mark m b) (mark m k)))

    to : Each → Empty m a b
    to f = record { free = λ k h i j o. go k i j o (f k h) }
      where
        go : (k : ℕ) → ¬ (k ≡ a) → ¬ (k ≡ b) → On (mark m a) (mark m b) (mark m k) → (k ≡ a) ⊎ ((k ≡ b) ⊎ (¬ On (mark m a) (mark m b) (mark m k))) → ⊥
        go k i j o (inl e) = i e
        go k i j o (inr (inl e)) = j e
        go k i j o (inr (inr n)) = n o

    from : Empty m a b → Each
    from f k h = go (tells_dec tells_eqb) (tells_dec tells_eqb)
      where
        go : Dec (k ≡ a) → Dec (k ≡ b) → (k ≡ a) ⊎ ((k ≡ b) ⊎ (¬ On (mark m a) (mark m b) (mark m k)))
        go (yes e) d = inl e
        go (no i) (yes e) = inr (inl e)
        go (no i) (no j) = inr (inr (f.free k h i j))

pub empty_swap : {m : List ℤ} {a b : ℕ} → Empty m a b → Empty m b a
empty_swap h = record { free = λ k l i j o. h.free k l j i (on_flip o) }

pub empty_edge_swap : (m : List ℤ) (a b : ℕ) → empty_edge m a b ≡ empty_edge m b a
empty_edge_swap m a b = tells_same (empty_edge_tells m a b) (empty_edge_tells m b a) empty_swap empty_swap

-- an edge with a third mark on the segment is not empty
pub third_blocks : (m : List ℤ) (a b k : ℕ) → IsMark m k → ¬ (k ≡ a) → ¬ (k ≡ b) → On (mark m a) (mark m b) (mark m k) → empty_edge m a b ≡ false
third_blocks m a b k h i j o = tells_false (empty_edge_tells m a b) (λ e. e.free k h i j o)

-- ---- rule 3 by sides, for a point c off the line: no mark lies strictly between
module _ {m : List ℤ} {a b : ℕ} {c : Point} where
  pub empty_gap : {k : ℕ} → Empty m a b → IsMark m k → L (mark m a) (mark m b) c → Z (mark m a) (mark m b) (mark m k) → L (mark m a) (mark m k) c → L (mark m k) (mark m b) c → ⊥
  empty_gap {k} h l s e f g = h.free k l at_a at_b (on_of s e (weak f) (weak g))
    where
      at_a : ¬ (k ≡ a)
      at_a i = same (subst (λ x. L (mark m a) (mark m x) c) i f)

      at_b : ¬ (k ≡ b)
      at_b i = same (subst (λ x. L (mark m x) (mark m b) c) i g)

  pub empty_of :
      Plate m → IsMark m a → IsMark m b → L (mark m a) (mark m b) c →
      ((k : ℕ) → IsMark m k → Z (mark m a) (mark m b) (mark m k) → L (mark m a) (mark m k) c → L (mark m k) (mark m b) c → ⊥) → Empty m a b
  empty_of h p q s f =
      record { free = λ k l i j o. f k l o.line (on_inner s o (marks_apart h l p i)) (on_outer s o (marks_apart h l q j)) }
