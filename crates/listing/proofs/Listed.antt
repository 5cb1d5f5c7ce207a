-- From the search's answer to the text. Where a search ends without a refusal, its listing can be written: the list is a plate and there is
-- a byte for each pair. Assumes nothing.
use mathlib.Core.Path.{◌≡◌, refl, sym, ap, ap₂, ◌∙◌, subst}
use mathlib.Core.Bool.{Bool, true, false, cond}
use mathlib.Core.List.{List, ◌++◌}
use Prim.Native.Nat.{ℕ, ◌≤◌, ◌<◌}
use native.Mathlib.Omega.{arith}
use borrow.Author.Tests.{ltb-false}
use lib.Dec.{ltb}
use lib.IntN.{ℤ}
use lib.ListN.{length, take, drop, replicate, length-append, length-replicate, get_or-replicate}
use lib.Seq.{ext_get_or, get_or-take, length-take-le}
use Rattle.refusals.specs.declared.Refusal.{Refusal}
use Rattle.std.specs.Prelude.{Result, Ok, Err}
use Rattle.refusals.specs.Check.{shown}
use Rattle.plane.specs.Marks.{count}
use Rattle.pairs.specs.Pairs.{pair_count}
use Rattle.pairs.proofs.Laws.{pair_count_small}
use Rattle.skeleton.specs.declared.search.Outcome.{Outcome}
use Rattle.skeleton.specs.declared.search.Outcome.TheVariants.{Done, Paused}
use Rattle.skeleton.specs.Answers.{search_refusal, outcome_of, status_after}
use Rattle.skeleton.proofs.Table.{accepted_list, accepted_long}
use Rattle.skeleton.proofs.Ended.{done_search, paused_search}
use Rattle.skeleton.proofs.Theorems.{status-length}
use Rattle.std.specs.Prelude.{Ok}
use Rattle.reading.specs.declared.read.Reading.{Reading}
use Rattle.reading.specs.Read.{Answer, refused, numbers_of, reading_of, numbers_after}
use Rattle.writing.specs.Listing.{refused_text, listing_text}
use Rattle.reading.proofs.Answer.{numbers_first}
use Rattle.listing.specs.Program.{status_room, text_by, marks_text, list_text, list_status, text_for, answer_text, status_for, answer_status}

module _ (m : List ℤ) (st : List ℕ) (budget : ℕ) where
  pub record Listable : Type 0 where
    pub few : count m ≤ 128
    pub long : length (status_after m st budget) ≡ pair_count (count m)

  listable : search_refusal m st ≡ Ok tt → Listable
  listable e = record { few = (accepted_list m st e).few; long = status-length m st budget ∙ accepted_long m st e }

  pub done_listable : (e : ℕ) → outcome_of m st budget ≡ Ok (Done e) → Listable
  done_listable e q = listable (done_search m st budget e q).0

  pub paused_listable : (e : ℕ) → outcome_of m st budget ≡ Ok (Paused e) → Listable
  paused_listable e q = listable (paused_search m st budget e q).0

-- ---- the text, by what the search answers
module _ (m : List ℤ) (st : List ℕ) (budget : ℕ) where
  by : {o : Result Outcome Refusal} → outcome_of m st budget ≡ o → text_by o (status_after m st budget) (count m) ≡ marks_text m st budget
  unfolding marks_text
  by e = ap (λ (o : Result Outcome Refusal). text_by o (status_after m st budget) (count m)) (sym e)

  pub listed_refused : {x : Refusal} → outcome_of m st budget ≡ Err x → refused_text (shown x).number (shown x).detail ≡ marks_text m st budget
  unfolding text_by
  listed_refused {x} e = by e

  pub listed_done :
      {e n : ℕ} {st' : List ℕ} → outcome_of m st budget ≡ Ok (Done e) → st' ≡ status_after m st budget → n ≡ count m →
      listing_text true e st' n ≡ marks_text m st budget
  unfolding text_by
  listed_done {e} q s k = ap₂ (listing_text true e) s k ∙ by q

  pub listed_paused :
      {e n : ℕ} {st' : List ℕ} → outcome_of m st budget ≡ Ok (Paused e) → st' ≡ status_after m st budget → n ≡ count m →
      listing_text false e st' n ≡ marks_text m st budget
  unfolding text_by
  listed_paused {e} q s k = ap₂ (listing_text false e) s k ∙ by q

-- ---- a text that stands at the start of a buffer, and its length
abbrev pub Stands : List ℕ → ℕ → List ℕ → List ℕ → Type 0
Stands out n text out' = (n ≡ length text) × (out' ≡ text ++ drop (length text) out)

pub stands_as : (out : List ℕ) {n : ℕ} {x y out' : List ℕ} → x ≡ y → Stands out n x out' → Stands out n y out'
stands_as out {n} {x} {y} {out'} e h = subst (λ (t : List ℕ). Stands out n t out') e h

-- ---- the lent part
pub room_small : (m : List ℤ) → status_room m ≤ 8128
unfolding status_room
room_small m = go (ltb 128 (count m)) refl
  where
    go : (b : Bool) → ltb 128 (count m) ≡ b → cond b 0 (pair_count (count m)) ≤ 8128
    go true e = omega arith
    go false e = pair_count_small (count m) (ltb-false 128 (count m) e)

pub part_room : (m : List ℤ) {k : ℕ} {st : List ℕ} → k ≡ status_room m → st ≡ replicate 8128 0 → k ≤ length st
part_room m e s = let l = room_small m in let n = ap length s ∙ length-replicate {A = ℕ} 8128 0 in omega arith

take_zeros : (k n : ℕ) → k ≤ n → take k (replicate {A = ℕ} n 0) ≡ replicate k 0
take_zeros k n l =
    ext_get_or 0 (take k (replicate n 0)) (replicate k 0)
    (length-take-le k (replicate n 0) (rw (length-replicate {A = ℕ} n 0) l) ∙ sym (length-replicate {A = ℕ} k 0))
    (λ i h. let j = subst (λ (w : ℕ). i < w) (length-take-le k (replicate n 0) (rw (length-replicate {A = ℕ} n 0) l)) h in
    get_or-take k (replicate n 0) i 0 j ∙ get_or-replicate n i 0 0 (omega arith) ∙ sym (get_or-replicate k i 0 0 j))

pub part_cleared : (m : List ℤ) {k : ℕ} {st : List ℕ} → k ≡ status_room m → st ≡ replicate 8128 0 → take k st ≡ replicate (status_room m) 0
part_cleared m {k} {st} e s = ap₂ take e s ∙ take_zeros (status_room m) 8128 (room_small m)

pub listed_cleared : (m : List ℤ) (budget : ℕ) {st : List ℕ} → st ≡ replicate (status_room m) 0 → marks_text m st budget ≡ list_text m budget
unfolding list_text
listed_cleared m budget e = ap (λ (s : List ℕ). marks_text m s budget) e

pub listed_status :
    (m : List ℤ) (budget : ℕ) {k : ℕ} {st : List ℕ} → k ≡ status_room m → st ≡ replicate 8128 0 →
    status_after m (take k st) budget ++ drop k st ≡ list_status m budget
unfolding list_status
listed_status m budget e s =
    ap₂ ◌++◌ (ap (λ (x : List ℕ). status_after m x budget) (part_cleared m e s)) (ap₂ drop e s)

-- ---- the whole answer
module _ (t : List ℕ) where
  pub answered_refused : {d : ℕ} → reading_of t ≡ refused d → refused_text 9 d ≡ answer_text t
  unfolding answer_text text_for
  answered_refused e = sym (ap (λ (r : Answer). text_for r (numbers_of t)) e)

  pub answered_read : {r : Reading} {m : List ℤ} → reading_of t ≡ Ok r → m ≡ numbers_of t → list_text m r.budget ≡ answer_text t
  unfolding answer_text text_for
  answered_read {r} e q = ap (λ (m : List ℤ). list_text m r.budget) q ∙ sym (ap (λ (r : Answer). text_for r (numbers_of t)) e)

  pub status_refused : {d : ℕ} → reading_of t ≡ refused d → replicate 8128 0 ≡ answer_status t
  unfolding answer_status status_for
  status_refused e = sym (ap (λ (r : Answer). status_for r (numbers_of t)) e)

  pub status_read : {r : Reading} {m : List ℤ} → reading_of t ≡ Ok r → m ≡ numbers_of t → list_status m r.budget ≡ answer_status t
  unfolding answer_status status_for
  status_read {r} e q = ap (λ (m : List ℤ). list_status m r.budget) q ∙ sym (ap (λ (r : Answer). status_for r (numbers_of t)) e)

  -- the numbers that were read stand at the start of the list
  pub read_part : (r : Reading) (old : List ℤ) {m : List ℤ} → reading_of t ≡ Ok r → m ≡ numbers_after t old → take r.count m ≡ numbers_of t
  read_part r old e q = ap (take r.count) q ∙ numbers_first t r (sym e) old

-- a text that stands at the start of a buffer is no longer than it
pub stands_room : (out text : List ℕ) {out' : List ℕ} {n k : ℕ} → Stands out n text out' → length out' ≡ k → n ≤ k
stands_room out text h size =
    let n = h.0 in
    let e = ap length h.1 ∙ length-append text (drop (length text) out) in
    omega arith
