-- The answer to a request, by the pair's kind. Assumes nothing.
use mathlib.Core.Path.{◌≡◌, refl, sym, ap, ◌∙◌}
use mathlib.Core.Bool.{Bool, true, false, cond}
use mathlib.Core.List.{List}
use Prim.Native.Nat.{ℕ, ◌<◌, ◌≤◌}
use native.Mathlib.Omega.{arith}
use lib.IntN.{ℤ}
use Rattle.std.specs.Prelude.{Some}
use Rattle.plane.specs.declared.hull.Kind.{Kind}
use Rattle.plane.specs.declared.hull.Kind.TheVariants.{Blocked, Hull, Inner}
use Rattle.plane.specs.Marks.{count, IsMark}
use Rattle.plane.specs.Edge.{empty_edge}
use Rattle.plane.specs.Hull.{one_sided, hull_edge, kind_of}
use Rattle.plane.proofs.Laws.Tells.{tells_yes}
use Rattle.plane.proofs.Laws.Side.{left_of_tells, right_of_tells}
use Rattle.skeleton.specs.declared.request.Reply.{Reply}
use Rattle.skeleton.specs.declared.request.Reply.TheVariants.{NotEmpty}
use Rattle.skeleton.specs.declared.request.Reply.TheVariants as reply
use Rattle.certificates.specs.Certificate.{first_certificate}
use Rattle.certificates.specs.Rows.{Apart}
use Rattle.skeleton.specs.Answers.{answer_with, answer_in}
use Rattle.certificates.proofs.First.{found_first}
use Rattle.certificates.proofs.Rule7.{left_apart}

answer_by : Kind → Reply → Reply
answer_by Blocked x = NotEmpty
answer_by Hull x = reply.Hull
answer_by Inner x = x

module _ (m : List ℤ) (K : ℕ → ℕ → Bool) (a b : ℕ) where
  by_kind : answer_in m K a b ≡ answer_by (kind_of m a b) (answer_with a b (first_certificate m K a b))
  unfolding answer_in kind_of hull_edge answer_by
  by_kind = go (empty_edge m a b) (one_sided m a b)
    where
      go :
          (x y : Bool) →
          cond x (cond (cond x y false) reply.Hull (answer_with a b (first_certificate m K a b))) NotEmpty
          ≡ answer_by (cond x (cond y Hull Inner) Blocked) (answer_with a b (first_certificate m K a b))
      go true true = refl
      go true false = refl
      go false y = refl

  answer_as : {k : Kind} → kind_of m a b ≡ k → answer_in m K a b ≡ answer_by k (answer_with a b (first_certificate m K a b))
  answer_as e = by_kind ∙ ap (λ (k : Kind). answer_by k (answer_with a b (first_certificate m K a b))) e

  pub answer_blocked : kind_of m a b ≡ Blocked → answer_in m K a b ≡ NotEmpty
  unfolding answer_by
  answer_blocked e = answer_as e

  pub answer_hull : kind_of m a b ≡ Hull → answer_in m K a b ≡ reply.Hull
  unfolding answer_by
  answer_hull e = answer_as e

  pub answer_inner : kind_of m a b ≡ Inner → answer_in m K a b ≡ answer_with a b (first_certificate m K a b)
  unfolding answer_by
  answer_inner e = answer_as e

-- an inner edge is an empty one
pub inner_empty : (m : List ℤ) (a b : ℕ) → kind_of m a b ≡ Inner → empty_edge m a b ≡ true
unfolding kind_of
inner_empty m a b e = go (empty_edge m a b) (one_sided m a b) e
  where
    go : (x y : Bool) → cond x (cond y Hull Inner) Blocked ≡ Inner → x ≡ true
    go true y q = refl
    go false y q = let z : ◌≡◌ {A = ℕ} 0 1 = cc in absurd (omega arith)

-- the apexes of a certificate are small, and no ends of its edge
pub apexes_apart :
    (m : List ℤ) (K : ℕ → ℕ → Bool) (p q : ℕ) {r s : ℕ} → count m ≤ 128 → p < q → IsMark m q → first_certificate m K p q ≡ Some (record { r = r; s = s }) →
    Apart p q r × Apart p q s
apexes_apart m K p q {r} {s} few up marks e =
    let c = (found_first m K p q e).certificate in
    let d = left_apart m p q r (tells_yes left_of_tells c.r_left) in
    let f = left_apart m q p s (tells_yes right_of_tells c.s_right) in
    let k = c.r_mark in
    let l = c.s_mark in (
      record { off_p = λ x. d.0 (sym x); off_q = λ x. d.1 (sym x); p_small = omega arith; q_small = omega arith; r_small = omega arith },
      record { off_p = λ x. f.1 (sym x); off_q = λ x. f.0 (sym x); p_small = omega arith; q_small = omega arith; r_small = omega arith },
    )
