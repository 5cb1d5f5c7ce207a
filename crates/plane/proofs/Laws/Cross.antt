-- Rule 4's laws. A crossing has one of two ways round, `Cr a b c d` (c left of a to b and d right) or its mirror; from that it is
-- symmetric in the two edges and in each edge's ends, and no edge crosses itself or one that shares an end. Assumes nothing.
use mathlib.Core.Path.{◌≡◌, ◌∙◌}
use mathlib.Core.Bool.{false}
use mathlib.Core.List.{[], ◌∷◌}
use mathlib.Core.Logic.{◌⊎◌, inl, inr}
use Rattle.plane.specs.declared.marks.Point.{Point}
use Rattle.plane.specs.Side.{area2, opposite}
use Rattle.plane.specs.Cross.{crosses}
use Rattle.plane.proofs.Whole.Points.{D}
use Rattle.plane.proofs.Whole.Signs.{hyp, ◌⊹◌, refute}
use Rattle.plane.proofs.Laws.Tells.{Tells, tells_map, tells_and, tells_pick, tells_same, tells_false}
use Rattle.plane.proofs.Laws.Side.{L, clash, weak, same, rot, rot², left_of_tells, right_of_tells}

-- ---- c and d lie strictly on opposite sides of the line ab
pub data Opposite (a b c d : Point) : Type 0 where
  left_right : L a b c → L b a d → Opposite a b c d
  right_left : L b a c → L a b d → Opposite a b c d

pub opposite_tells : (a b c d : Point) → Tells (opposite (area2 a b c) (area2 a b d)) (Opposite a b c d)
unfolding opposite
opposite_tells a b c d = tells_map to from (tells_pick left_of_tells right_of_tells (tells_and right_of_tells left_of_tells))
  where
    to : (L a b c × L b a d) ⊎ ((¬ L a b c) × (L b a c × L a b d)) → Opposite a b c d
    to (inl h) = left_right h.0 h.1
    to (inr h) = right_left h.1.0 h.1.1

    from : Opposite a b c d → (L a b c × L b a d) ⊎ ((¬ L a b c) × (L b a c × L a b d))
    from (left_right h k) = inl (h, k)
    from (right_left h k) = inr ((λ l. clash l (weak h)), (h, k))

-- ---- the crossing with c left of a to b and d right
pub record Cr (a b c d : Point) : Type 0 where
  pub up : L a b c
  pub down : L b a d
  pub front : L c d b
  pub back : L d c a

-- the same crossing, told from the other edge, and with both turned round
pub cr_turn : {a b c d : Point} → Cr a b c d → Cr c d b a
cr_turn h = record { up = h.front; down = h.back; front = h.down; back = h.up }

pub cr_half : {a b c d : Point} → Cr a b c d → Cr b a d c
cr_half h = record { up = h.down; down = h.up; front = h.back; back = h.front }

-- the two ways of opposite sides go together
cross_no : {a b c d : Point} → L a b c → L b a d → L c d a → L d c b → ⊥
cross_no {a} {b} {c} {d} h k l m =
    refute (a ∷ b ∷ c ∷ d ∷ []) (hyp (D 0 1 2) h.l ⊹ hyp (D 1 0 3) k.l ⊹ hyp (D 2 3 0) l.l ⊹ hyp (D 3 2 1) m.l) tt

abbrev pub Crossing : Point → Point → Point → Point → Type 0
Crossing a b c d = Cr a b c d ⊎ Cr a b d c

pub crosses_tells : (a b c d : Point) → Tells (crosses a b c d) (Crossing a b c d)
unfolding crosses
crosses_tells a b c d = tells_map (λ h. to h.0 h.1) from (tells_and (opposite_tells a b c d) (opposite_tells c d a b))
  where
    to : Opposite a b c d → Opposite c d a b → Crossing a b c d
    to (left_right i j) (right_left k m) = inl (record { up = i; down = j; front = m; back = k })
    to (right_left i j) (left_right k m) = inr (record { up = j; down = i; front = m; back = k })
    to (left_right i j) (left_right k m) = absurd (cross_no i j k m)
    to (right_left i j) (right_left k m) = absurd (cross_no j i k m)

    from : Crossing a b c d → Opposite a b c d × Opposite c d a b
    from (inl h) = (left_right h.up h.down, right_left h.back h.front)
    from (inr h) = (right_left h.down h.up, left_right h.back h.front)

-- ---- symmetric in the two edges, and in each edge's ends
crossing_other : {a b c d : Point} → Crossing a b c d → Crossing c d a b
crossing_other (inl h) = inr (cr_turn h)
crossing_other (inr h) = inl (cr_half (cr_turn h))

crossing_ends : {a b c d : Point} → Crossing a b c d → Crossing a b d c
crossing_ends (inl h) = inr h
crossing_ends (inr h) = inl h

pub crosses_other : (a b c d : Point) → crosses a b c d ≡ crosses c d a b
crosses_other a b c d = tells_same (crosses_tells a b c d) (crosses_tells c d a b) crossing_other crossing_other

pub crosses_ends : (a b c d : Point) → crosses a b c d ≡ crosses a b d c
crosses_ends a b c d = tells_same (crosses_tells a b c d) (crosses_tells a b d c) crossing_ends crossing_ends

pub crosses_swap : (a b c d : Point) → crosses a b c d ≡ crosses b a c d
crosses_swap a b c d = crosses_other a b c d ∙ crosses_ends c d a b ∙ crosses_other c d b a

-- ---- sharing an end is no crossing; no edge crosses itself
shared : {a b d : Point} → Crossing a b a d → ⊥
shared (inl h) = same (rot² h.up)
shared (inr h) = same (rot h.down)

pub crosses_shared : (a b d : Point) → crosses a b a d ≡ false
crosses_shared a b d = tells_false (crosses_tells a b a d) shared

pub crosses_itself : (a b : Point) → crosses a b a b ≡ false
crosses_itself a b = crosses_shared a b b
