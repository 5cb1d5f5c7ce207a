-- The certificate request: its answer is the one whose conditions hold, since the tests are asked in the order of the table and
-- each says what its sentence says. Assumes nothing.
use mathlib.Core.Path.{◌≡◌, refl, sym, ap, ◌∙◌, subst}
use mathlib.Core.Logic.{◌↔◌, ⊎_elim}
use mathlib.Core.Bool.{Bool, true, false, not, cond}
use mathlib.Core.List.{List}
use Prim.Native.Nat.{ℕ, ◌<◌}
use lib.Dec.{eqb}
use lib.ListN.{get_or}
use lib.IntN.{ℤ}
use Rattle.refusals.specs.declared.Refusal.{Refusal}
use Rattle.std.specs.Prelude.{Option, Some, Result, Ok, Err}
use Rattle.refusals.specs.Check.{Shown, shown, Refused, Verdict}
use Rattle.refusals.proofs.Laws.{err_same, shown_same}
use Rattle.pairs.specs.Pairs.{pair_number}
use Rattle.plane.specs.Edge.{empty_edge}
use Rattle.plane.specs.Hull.{hull_edge, inner_edge}
use Rattle.plane.proofs.Laws.Tells.{cond_yes, cond_no}
use Rattle.pairs.proofs.Laws.{pair_unique}
use Rattle.striking.specs.Status.{remaining}
use Rattle.skeleton.specs.declared.request.Reply.{Reply}
use Rattle.certificates.specs.declared.certificate.Apexes.{Apexes}
use Rattle.certificates.specs.Certificate.{IsCertificate, first_certificate}
use Rattle.certificates.specs.Plate.{pairs_of, edges_of}
use Rattle.certificates.specs.Rule9.{IsPair}
use Rattle.skeleton.specs.Answers.{request_refusal, answer_with, answer_in, unless_refused, answer_of, shown_request}
use Rattle.skeleton.specs.Table.{RequestRow, pair, Lowest, None, IsAnswer, refused, not_empty, hull, certified, uncertified}
use Rattle.certificates.proofs.Rule7.{certificate_besides}
use Rattle.certificates.proofs.First.{nothing_none, found_first, first_found, first_same, none_nothing}
use Rattle.certificates.proofs.Rule5.{hull_empty, inner_empty, inner_not_hull, rest_inner}
use Rattle.certificates.proofs.Pairs.{pair_first}
use Rattle.skeleton.proofs.Settled.{not_accepted, Unrefused, shown_refused, shown_none, settled_exactly, settled_none}
use Rattle.skeleton.proofs.Table.{pair_cases, request_settled}

-- ---- the answer
module _ (m : List ℤ) (st : List ℕ) (a b : ℕ) where
  abbrev K : ℕ → ℕ → Bool
  K = edges_of m (remaining st)

  pub request_none : (request_refusal m st a b ≡ Ok tt) ↔ None (RequestRow m st a b)
  request_none = settled_none (request_settled m st a b)

  pub request_refused : (x : Refusal) → (request_refusal m st a b ≡ Err x) ↔ Lowest (RequestRow m st a b) (shown x)
  request_refused x =
      let s = settled_exactly (request_settled m st a b) (shown x) in
      (λ e. s.0 (x, e, refl), λ l. let r = s.1 l in r.1 ∙ ap Err (shown_same r.2))

  answer_refused : (x : Refusal) → request_refusal m st a b ≡ Err x → answer_of m st a b ≡ Err x
  unfolding answer_of unless_refused
  answer_refused x e = ap (λ (v : Verdict). unless_refused v (answer_in m K a b)) e

  answer_accepted : request_refusal m st a b ≡ Ok tt → answer_of m st a b ≡ Ok (answer_in m K a b)
  unfolding answer_of unless_refused
  answer_accepted e = ap (λ (v : Verdict). unless_refused v (answer_in m K a b)) e

  inner_answer : None (RequestRow m st a b) → inner_edge m a b ≡ true → answer_of m st a b ≡ Ok (answer_with a b (first_certificate m K a b))
  unfolding answer_in
  inner_answer n h =
      answer_accepted (request_none.1 n) ∙ ap Ok (cond_yes _ _ (inner_empty m a b h) ∙ cond_no _ _ (inner_not_hull m a b h))

  pub is_answer : {x : Result Reply Refusal} → IsAnswer m st a b x → answer_of m st a b ≡ x
  unfolding answer_in answer_with
  is_answer (refused x l) = answer_refused x ((request_refused x).1 l)
  is_answer (not_empty n e) = answer_accepted (request_none.1 n) ∙ ap Ok (cond_no _ _ e)
  is_answer (hull n h) = answer_accepted (request_none.1 n) ∙ ap Ok (cond_yes _ _ (hull_empty m a b h) ∙ cond_yes _ _ h)
  is_answer (certified n h r s f) = inner_answer n h ∙ ap (λ (p : Option Apexes). Ok (answer_with a b p)) (first_found f)
  is_answer (uncertified n h f) = inner_answer n h ∙ ap (λ (p : Option Apexes). Ok (answer_with a b p)) (none_nothing m K a b f)

  pub the_answer : IsAnswer m st a b (answer_of m st a b)
  unfolding answer_in answer_with
  the_answer = of_verdict (request_refusal m st a b) refl
    where
      of_pick :
          None (RequestRow m st a b) → inner_edge m a b ≡ true → (x : Option Apexes) → first_certificate m K a b ≡ x →
          IsAnswer m st a b (Ok (answer_with a b x))
      of_pick n h Option.None e = uncertified n h (nothing_none m K a b e)
      of_pick n h (Some x) e = certified n h x.r x.s (found_first m K a b e)

      of_kind :
          None (RequestRow m st a b) → (t : Bool) → empty_edge m a b ≡ t → (u : Bool) → hull_edge m a b ≡ u →
          IsAnswer m st a b
          (Ok (cond t (cond u Reply.Hull (answer_with a b (first_certificate m K a b))) Reply.NotEmpty))
      of_kind n false e u f = not_empty n e
      of_kind n true e true f = hull n f
      of_kind n true e false f = of_pick n (rest_inner m a b e f) (first_certificate m K a b) refl

      of_verdict : (v : Verdict) → request_refusal m st a b ≡ v → IsAnswer m st a b (answer_of m st a b)
      of_verdict (Err x) e = subst (IsAnswer m st a b) (sym (answer_refused x e)) (refused x ((request_refused x).0 e))
      of_verdict (Ok t) e =
          subst (IsAnswer m st a b) (sym (answer_accepted e))
          (of_kind (request_none.0 e) (empty_edge m a b) refl (hull_edge m a b) refl)

-- ---- what the controller shows of it
module _ (m : List ℤ) (st : List ℕ) (a b : ℕ) where
  refused_in : (x : Shown) → Refused (answer_of m st a b) x ↔ Refused (request_refusal m st a b) x
  unfolding answer_of unless_refused
  refused_in x = go (request_refusal m st a b)
    where
      go : (v : Verdict) → Refused (unless_refused v (answer_in m (K m st a b) a b)) x ↔ Refused v x
      go (Err y) = (λ r. (y, refl, ap shown (err_same r.1) ∙ r.2), λ r. (y, refl, ap shown (err_same r.1) ∙ r.2))
      go (Ok t) = (λ r. not_accepted r.1, λ r. not_accepted r.1)

  accepted_in : Unrefused (answer_of m st a b) ↔ (request_refusal m st a b ≡ Ok tt)
  unfolding answer_of unless_refused
  accepted_in = go (request_refusal m st a b)
    where
      go : (v : Verdict) → Unrefused (unless_refused v (answer_in m (K m st a b) a b)) ↔ (v ≡ Ok tt)
      go (Err y) = (λ u. absurd (u y refl), λ e. not_accepted (sym e))
      go (Ok t) = (λ u. refl, λ e x q. not_accepted q)

  pub shown_lowest : (x : Shown) → 0 < x.number → (shown_request m st a b ≡ x) ↔ Lowest (RequestRow m st a b) x
  shown_lowest x l =
      let s = shown_refused (answer_of m st a b) x l in
      let r = refused_in x in
      let t = settled_exactly (request_settled m st a b) x in
      (λ e. t.0 (r.0 (s.0 e)), λ h. s.1 (r.1 (t.1 h)))

  pub shown_nothing : ((shown_request m st a b).number ≡ 0) ↔ None (RequestRow m st a b)
  shown_nothing =
      let s = shown_none (answer_of m st a b) in
      let t = settled_none (request_settled m st a b) in
      (λ e. t.0 (accepted_in.0 (s.0 e)), λ n. s.1 (accepted_in.1 (t.1 n)))

-- ---- the byte of the pair itself
pub none_pair : (m : List ℤ) (st : List ℕ) (a b : ℕ) → None (RequestRow m st a b) → IsPair m a b
none_pair m st a b n = ⊎_elim (λ p. p) (λ h. absurd (n _ _ (pair h.0))) (pair_cases m a b)

-- two buffers that agree but for the byte of (a, b)
abbrev pub Agree : List ℕ → List ℕ → ℕ → ℕ → Type 0
Agree st st' a b = (i : ℕ) → (i ≡ pair_number a b → ⊥) → get_or st i 0 ≡ get_or st' i 0

module _ (m : List ℤ) (st st' : List ℕ) (a b : ℕ) (agree : Agree st st' a b) (p : IsPair m a b) where
  moved : {r s : ℕ} → IsCertificate m (edges_of m (remaining st)) a b r s → IsCertificate m (edges_of m (remaining st')) a b r s
  unfolding edges_of pairs_of remaining
  moved = certificate_besides m _ _ a b (pair_first p) p.marks besides
    where
      besides :
          (c d : ℕ) → IsPair m c d → (c ≡ a → d ≡ b → ⊥) → edges_of m (remaining st) c d ≡ true →
          edges_of m (remaining st') c d ≡ true
      besides c d q n h =
          let one = pair_unique c d a b q.up p.up in
          let other : pair_number c d ≡ pair_number a b → ⊥ = λ e. n (one e).0 (one e).1 in
          subst (λ (x : ℕ). cond (not (eqb x 0)) (empty_edge m c d) false ≡ true) (agree (pair_number c d) other) h

-- two requests that are not refused
module _
    (m : List ℤ) (st st' : List ℕ) (a b : ℕ) (agree : Agree st st' a b)
    (n : None (RequestRow m st a b)) (n' : None (RequestRow m st' a b)) where
  here : {r s : ℕ} → IsCertificate m (edges_of m (remaining st)) a b r s → IsCertificate m (edges_of m (remaining st')) a b r s
  here = moved m st st' a b agree (none_pair m st a b n)

  back : {r s : ℕ} → IsCertificate m (edges_of m (remaining st')) a b r s → IsCertificate m (edges_of m (remaining st)) a b r s
  back = moved m st' st a b (λ i h. sym (agree i h)) (none_pair m st a b n)

  pub answer_moved : {x : Result Reply Refusal} → IsAnswer m st a b x → IsAnswer m st' a b x
  answer_moved (refused x l) = absurd (n _ _ l.applies)
  answer_moved (not_empty k e) = not_empty n' e
  answer_moved (hull k h) = hull n' h
  answer_moved (certified k h r s f) =
      certified n' h r s (first_same (λ r' s' c. here c) (λ r' s' c. back c) f)
  answer_moved (uncertified k h f) = uncertified n' h (λ c. f (c.0, c.1, back c.2))
