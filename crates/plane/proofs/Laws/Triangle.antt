-- Rule 6's laws: what the tests tell; an empty triangle does not depend on the order of its corners; and the form that proofs use, `Tri`:
-- the closed triangle holds no mark but its corners. Assumes nothing.
use mathlib.Core.Path.{◌≡◌, refl, subst}
use mathlib.Core.Bool.{Bool, true, false, cond}
use mathlib.Core.List.{List, [], ◌∷◌}
use mathlib.Core.Logic.{◌⊎◌, inl, inr}
use Prim.Native.Nat.{ℕ}
use lib.IntN.{ℤ}
use Rattle.plane.specs.declared.marks.Point.{Point}
use Rattle.plane.specs.Marks.{count, mark, IsMark, Plate}
use Rattle.plane.specs.Side.{area2, is_left, is_right, same_side}
use Rattle.plane.specs.Triangle.{inside, outside, hollow, empty_triangle}
use Rattle.plane.proofs.Whole.Points.{D}
use Rattle.plane.proofs.Whole.Signs.{hyp, ◌⊹◌, refute}
use Rattle.plane.proofs.Laws.Tells.{Tells, tells_map, tells_and, tells_not, tells_unless, tells_pick, tells_all, tells_dec, tells_eqb, tells_same}
use Rattle.plane.proofs.Laws.Marks.{marks_apart}
use Rattle.plane.proofs.Laws.Side.{L, N, Z, rot, rot², nrot, nrot², zrot, zswap, weak, flat, clash, off, same, Edge?, inner, border, border?, left_of_tells, right_of_tells, on_line_tells}
use Rattle.plane.proofs.Laws.Segment.{meet}
use Rattle.plane.proofs.Laws.Edge.{Empty, empty_edge_tells, empty_swap, empty_gap, empty_of}

-- ---- strictly inside
-- the test that compares sides
pub inside_same : (p q r k : Point) → inside p q r k ≡ cond (same_side (area2 p q k) (area2 q r k)) (same_side (area2 p q k) (area2 r p k)) false
unfolding inside same_side
inside_same p q r k = go (is_left (area2 p q k)) (is_left (area2 q r k)) (is_left (area2 r p k)) (is_right (area2 p q k)) (is_right (area2 q r k)) (is_right (area2 r p k))
  where
    go : (a b c x y z : Bool) → cond a (cond b c false) (cond x (cond y z false) false) ≡ cond (cond a b (cond x y false)) (cond a c (cond x z false)) false
    go true b c x y z = refl
    go false b c true y z = refl
    go false b c false y z = refl

pub data Inside (p q r k : Point) : Type 0 where
  lefts : L p q k → L q r k → L r p k → Inside p q r k
  rights : L q p k → L r q k → L p r k → Inside p q r k

pub inside_tells : (p q r k : Point) → Tells (inside p q r k) (Inside p q r k)
unfolding inside
inside_tells p q r k =
    tells_map to from
    (tells_pick left_of_tells (tells_and left_of_tells left_of_tells) (tells_and right_of_tells (tells_and right_of_tells right_of_tells)))
  where
    Tests : Type 0
    Tests = (L p q k × (L q r k × L r p k)) ⊎ ((¬ L p q k) × (L q p k × (L r q k × L p r k)))

    to : Tests → Inside p q r k
    to (inl h) = lefts h.0 h.1.0 h.1.1
    to (inr h) = rights h.1.0 h.1.1.0 h.1.1.1

    from : Inside p q r k → Tests
    from (lefts a b c) = inl (a, (b, c))
    from (rights a b c) = inr ((λ l. clash l (weak a)), (a, (b, c)))

inside_rotate : {p q r k : Point} → Inside p q r k → Inside q r p k
inside_rotate (lefts a b c) = lefts b c a
inside_rotate (rights a b c) = rights b c a

inside_swap : {p q r k : Point} → Inside p q r k → Inside q p r k
inside_swap (lefts a b c) = rights a c b
inside_swap (rights a b c) = lefts a c b

-- ---- rule 6 as it is written
pub record EmptyTriangle (m : List ℤ) (p q r : ℕ) : Type 0 where
  pub bent : ¬ Z (mark m p) (mark m q) (mark m r)
  pub pq : Empty m p q
  pub qr : Empty m q r
  pub rp : Empty m r p
  pub hollow : (k : ℕ) → IsMark m k → ¬ Inside (mark m p) (mark m q) (mark m r) (mark m k)

pub hollow_tells : (m : List ℤ) (p q r : ℕ) → Tells (hollow m p q r) ((k : ℕ) → IsMark m k → ¬ Inside (mark m p) (mark m q) (mark m r) (mark m k))
unfolding hollow outside
hollow_tells m p q r = tells_all (count m) (outside m p q r) (λ k h. ¬ Inside (mark m p) (mark m q) (mark m r) (mark m k)) (λ k h. tells_not (inside_tells _ _ _ _))

pub empty_triangle_tells : (m : List ℤ) (p q r : ℕ) → Tells (empty_triangle m p q r) (EmptyTriangle m p q r)
unfolding empty_triangle
empty_triangle_tells m p q r =
    tells_map
    (λ h. record { bent = h.0; pq = h.1.0; qr = h.1.1.0; rp = h.1.1.1.0; hollow = h.1.1.1.1 })
    (λ t. (t.bent, (t.pq, (t.qr, (t.rp, t.hollow)))))
    (tells_unless on_line_tells (tells_and (empty_edge_tells m p q) (tells_and (empty_edge_tells m q r) (tells_and (empty_edge_tells m r p) (hollow_tells m p q r)))))

-- ---- in any order of its corners
triangle_rotate : {m : List ℤ} {p q r : ℕ} → EmptyTriangle m p q r → EmptyTriangle m q r p
triangle_rotate t = record { bent = λ z. t.bent (zrot (zrot z)); pq = t.qr; qr = t.rp; rp = t.pq; hollow = λ k h i. t.hollow k h (inside_rotate (inside_rotate i)) }

triangle_swap : {m : List ℤ} {p q r : ℕ} → EmptyTriangle m p q r → EmptyTriangle m q p r
triangle_swap t = record { bent = λ z. t.bent (zswap z); pq = empty_swap t.pq; qr = empty_swap t.rp; rp = empty_swap t.qr; hollow = λ k h i. t.hollow k h (inside_swap i) }

pub empty_triangle_rotate : (m : List ℤ) (p q r : ℕ) → empty_triangle m p q r ≡ empty_triangle m q r p
empty_triangle_rotate m p q r =
    tells_same (empty_triangle_tells m p q r) (empty_triangle_tells m q r p) triangle_rotate (λ t. triangle_rotate (triangle_rotate t))

pub empty_triangle_swap : (m : List ℤ) (p q r : ℕ) → empty_triangle m p q r ≡ empty_triangle m q p r
empty_triangle_swap m p q r = tells_same (empty_triangle_tells m p q r) (empty_triangle_tells m q p r) triangle_swap triangle_swap

-- no point lies right of all three sides of a triangle that turns left
not_rights : {p q r k : Point} → L p q r → L q p k → L r q k → L p r k → ⊥
not_rights {p} {q} {r} {k} h a b c =
    refute (p ∷ q ∷ r ∷ k ∷ []) (hyp (D 0 1 2) h.l ⊹ hyp (D 1 0 3) a.l ⊹ hyp (D 2 1 3) b.l ⊹ hyp (D 0 2 3) c.l) tt

-- ---- the closed triangle, left turning, holds no mark but its corners
pub data Corner (p q r k : ℕ) : Type 0 where
  is_p : k ≡ p → Corner p q r k
  is_q : k ≡ q → Corner p q r k
  is_r : k ≡ r → Corner p q r k

module _ (m : List ℤ) where
  abbrev pub l : ℕ → ℕ → ℕ → Type 0
  l a b c = L (mark m a) (mark m b) (mark m c)

  abbrev pub n : ℕ → ℕ → ℕ → Type 0
  n a b c = N (mark m a) (mark m b) (mark m c)

  abbrev pub z : ℕ → ℕ → ℕ → Type 0
  z a b c = Z (mark m a) (mark m b) (mark m c)

  pub record Tri (p q r : ℕ) : Type 0 where
    pub turn : l p q r
    pub only : (k : ℕ) → IsMark m k → n p q k → n q r k → n r p k → Corner p q r k

  pub tri_rotate : {p q r : ℕ} → Tri p q r → Tri q r p
  tri_rotate {p} {q} {r} t = record { turn = rot t.turn; only = λ k h a b c. go k (t.only k h c a b) }
    where
      go : (k : ℕ) → Corner p q r k → Corner q r p k
      go k (is_p e) = is_r e
      go k (is_q e) = is_p e
      go k (is_r e) = is_q e

  module _ (plate : Plate m) {p q r : ℕ} (hp : IsMark m p) (hq : IsMark m q) (hr : IsMark m r) where
    pub tri_of : l p q r → EmptyTriangle m p q r → Tri p q r
    tri_of s t = record { turn = s; only = λ k h a b c. go k h (border? a) (border? b) (border? c) }
      where
        at : {k i : ℕ} → IsMark m k → IsMark m i → mark m k ≡ mark m i → k ≡ i
        at {k} {i} hk hi e = choose (tells_dec tells_eqb)
          where
            choose : Dec (k ≡ i) → k ≡ i
            choose (yes x) = x
            choose (no x) = absurd (marks_apart plate hk hi x e)

        go : (k : ℕ) → IsMark m k → Edge? (mark m p) (mark m q) (mark m k) → Edge? (mark m q) (mark m r) (mark m k) → Edge? (mark m r) (mark m p) (mark m k) → Corner p q r k
        go k h (inner a) (inner b) (inner c) = absurd (t.hollow k h (lefts a b c))
        go k h (border a) (inner b) (inner c) = absurd (empty_gap t.pq h s a (rot c) (rot² b))
        go k h (inner a) (border b) (inner c) = absurd (empty_gap t.qr h (rot s) b (rot a) (rot² c))
        go k h (inner a) (inner b) (border c) = absurd (empty_gap t.rp h (rot² s) c (rot b) (rot² a))
        go k h (border a) (border b) c = is_q (at h hq (meet (rot s) b (zswap a)))
        go k h (border a) (inner b) (border c) = is_p (at h hp (meet s a (zswap c)))
        go k h (inner a) (border b) (border c) = is_r (at h hr (meet (rot² s) c (zswap b)))

    -- its first side is an empty edge, hence all are
    pub tri_empty : Tri p q r → Empty m p q
    tri_empty t = empty_of plate hp hq t.turn (λ k h e f g. go k f g (t.only k h (flat e) (nrot (weak g)) (nrot² (weak f))))
      where
        go : (k : ℕ) → l p k r → l k q r → Corner p q r k → ⊥
        go k f g (is_p e) = same (subst (λ x. L (mark m p) (mark m x) (mark m r)) e f)
        go k f g (is_q e) = same (subst (λ x. L (mark m x) (mark m q) (mark m r)) e g)
        go k f g (is_r e) = same (rot (subst (λ x. L (mark m p) (mark m x) (mark m r)) e f))

  module _ (plate : Plate m) {p q r : ℕ} (hp : IsMark m p) (hq : IsMark m q) (hr : IsMark m r) where
    pub tri_triangle : Tri p q r → EmptyTriangle m p q r
    tri_triangle t =
        record {
          bent = λ e. off t.turn e;
          pq = tri_empty plate hp hq hr t;
          qr = tri_empty plate hq hr hp (tri_rotate t);
          rp = tri_empty plate hr hp hq (tri_rotate (tri_rotate t));
          hollow = λ k h i. hold k h i;
        }
      where
        corner : (k : ℕ) → l p q k → l q r k → Corner p q r k → ⊥
        corner k a b (is_p e) = same (rot² (subst (λ x. L (mark m p) (mark m q) (mark m x)) e a))
        corner k a b (is_q e) = same (rot (subst (λ x. L (mark m p) (mark m q) (mark m x)) e a))
        corner k a b (is_r e) = same (rot (subst (λ x. L (mark m q) (mark m r) (mark m x)) e b))

        hold : (k : ℕ) → IsMark m k → Inside (mark m p) (mark m q) (mark m r) (mark m k) → ⊥
        hold k h (lefts a b c) = corner k a b (t.only k h (weak a) (weak b) (weak c))
        hold k h (rights a b c) = not_rights t.turn a b c
