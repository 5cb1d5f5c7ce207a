-- Any search that only strikes, and at done leaves each inner edge that remains with a certificate: what its result tells
-- follows from what strikes in any order leave. Assumes nothing.
use mathlib.Core.Path.{◌≡◌, refl, sym, ap, ◌∙◌, fun_ext}
use mathlib.Core.Logic.{◌⊎◌, inl, inr, ⊎_elim}
use mathlib.Core.Bool.{Bool, true, false}
use mathlib.Core.List.{List}
use Prim.Native.Nat.{ℕ, ◌<◌, ◌≤◌}
use native.Mathlib.Decide.{dec_lt}
use native.Mathlib.Omega.{arith}
use lib.ListN.{get_or, length, replicate, length-replicate, get_or-replicate, get_or-eq_default}
use Rattle.striking.specs.System.{System, Lawful}
use Rattle.striking.specs.Status.{remaining, all_edges, status_byte, statuses}
use Rattle.striking.specs.Search.{Outcome, done, paused, answer8, is_answer8, Final, bytes_at, report, byte}
use Rattle.striking.specs.Strikes.{Struck}
use Rattle.striking.specs.Demands.{Supported, Largest, LocallyMinimal}
use Rattle.striking.proofs.Tests.{not_both, is_false}
use Rattle.striking.proofs.Below.{length_list}
use Rattle.striking.proofs.Strikes.{struck_less, uncrossed_stays}
use Rattle.striking.proofs.Runs.{AllVouched}
use Rattle.striking.proofs.Bytes.{byte_zero, byte_two, byte-set}
use Rattle.striking.proofs.AnyOrder.{rest_below, rest_largest, rest_supported, certain_in, impossible_out, largest_same}

-- whatever order the search of h went in
pub record Sound (y : System) (h : Final) : Type 0 where
  pub strikes : Struck y (all_edges y) h.rest
  pub vouched : h.outcome ≡ done → AllVouched y y.size (remaining h.rest)

-- ---- outcomes
pub done_no_answer8 : {o : Outcome} → o ≡ done → is_answer8 o ≡ false
unfolding is_answer8
done_no_answer8 q = rw q

pub ended_done : (o : Outcome) → (o ≡ paused → ⊥) → is_answer8 o ≡ false → o ≡ done
unfolding is_answer8
ended_done done n f = refl
ended_done paused n f = absurd (n refl)
ended_done (answer8 i) n f = not_both refl f

-- ---- the bytes
module _ (y : System) (h : Final) where
  pub report_bytes : is_answer8 h.outcome ≡ false → (report y h).status ≡ statuses y (remaining h.rest)
  unfolding report bytes_at is_answer8
  report_bytes f = go h.outcome f
    where
      go : (o : Outcome) → is_answer8 o ≡ false → bytes_at y o h.rest ≡ statuses y (remaining h.rest)
      go done f = refl
      go paused f = refl
      go (answer8 i) f = not_both refl f

  pub report_answer8 : (i : ℕ) → h.outcome ≡ answer8 i → (report y h).status ≡ replicate y.size 255
  unfolding report bytes_at
  report_answer8 i q = rw q

  pub report-length : length (report y h).status ≡ y.size
  unfolding report bytes_at statuses
  report-length = go h.outcome
    where
      go : (o : Outcome) → length (bytes_at y o h.rest) ≡ y.size
      go done = length_list (status_byte y (remaining h.rest)) y.size
      go paused = length_list (status_byte y (remaining h.rest)) y.size
      go (answer8 i) = length-replicate y.size 255

-- 255 everywhere tells nothing: a byte is 255, or, past the last pair, read as 0
abbrev all255 : ℕ → List ℕ
all255 n = replicate n 255

byte_255 : (n i : ℕ) → (get_or (all255 n) i 0 ≡ 255) ⊎ ((n ≤ i) × (get_or (all255 n) i 0 ≡ 0))
byte_255 n i = go (dec_lt i n)
  where
    go : Dec (i < n) → (get_or (all255 n) i 0 ≡ 255) ⊎ ((n ≤ i) × (get_or (all255 n) i 0 ≡ 0))
    go (yes l) = inl (get_or-replicate {A = ℕ} n i 255 0 l)
    go (no d) =
        let l : n ≤ i = omega arith in
        inr (l, get_or-eq_default (all255 n) 0 (rw (length-replicate {A = ℕ} n 255) l))

never_two : (n i : ℕ) → get_or (all255 n) i 0 ≡ 2 → ⊥
never_two n i b = ⊎_elim (λ q. omega arith) (λ r. let q = r.1 in omega arith) (byte_255 n i)

zero_past : (n i : ℕ) → get_or (all255 n) i 0 ≡ 0 → n ≤ i
zero_past n i b = ⊎_elim (λ q. absurd (omega arith)) (λ r. r.0) (byte_255 n i)

module _ (y : System) (law : Lawful y) (h : Final) (g : Sound y h) where
  pub report_remaining : is_answer8 h.outcome ≡ false → remaining (report y h).status ≡ remaining h.rest
  report_remaining f =
      ap remaining (report_bytes y h f) ∙ fun_ext (byte-set y (remaining h.rest) (rest_below y law g.strikes))

  -- ---- demand 2
  pub end_largest : h.outcome ≡ done → Largest y (remaining h.rest)
  end_largest q = rest_largest y law g.strikes (rest_supported y law g.strikes (g.vouched q))

  -- ---- demand 3
  module _ {T : ℕ → Bool} (t : LocallyMinimal y T) (i : ℕ) where
    pub report_certain : byte (report y h) i ≡ 2 → T i ≡ true
    unfolding report bytes_at
    report_certain b = go h.outcome b
      where
        go : (o : Outcome) → get_or (bytes_at y o h.rest) i 0 ≡ 2 → T i ≡ true
        go done b = certain_in y law g.strikes t i b
        go paused b = certain_in y law g.strikes t i b
        go (answer8 j) b = absurd (never_two y.size i b)

    pub report_impossible : byte (report y h) i ≡ 0 → T i ≡ false
    unfolding report bytes_at
    report_impossible b = go h.outcome b
      where
        go : (o : Outcome) → get_or (bytes_at y o h.rest) i 0 ≡ 0 → T i ≡ false
        go done b = impossible_out y law g.strikes t i b
        go paused b = impossible_out y law g.strikes t i b
        go (answer8 j) b =
            let l = zero_past y.size i b in
            is_false (T i) (λ f. let k = law.edges_below i (t.triangulation.edges i f) in omega arith)

  -- ---- strikes in another order that leave each inner edge with a certificate
  module _ {st : List ℕ} (p : Struck y (all_edges y) st) (s : Supported y (remaining st)) (q : h.outcome ≡ done) where
    pub complete_rest : remaining st ≡ remaining h.rest
    complete_rest = largest_same (rest_largest y law p s) (end_largest q)

    pub complete_bytes : statuses y (remaining st) ≡ (report y h).status
    complete_bytes = ap (statuses y) complete_rest ∙ sym (report_bytes y h (done_no_answer8 q))

-- ---- a search that went on by strikes keeps every 2 and every 0
module _
    (y : System) (law : Lawful y) (h h' : Final) (g : Sound y h) (g' : Sound y h') (on : Struck y h.rest h'.rest)
    (f : is_answer8 h.outcome ≡ false) (f' : is_answer8 h'.outcome ≡ false) (i : ℕ) where
  pub report_certain_later : byte (report y h) i ≡ 2 → byte (report y h') i ≡ 2
  report_certain_later b =
      let r = (byte_two y (remaining h.rest) (rest_below y law g.strikes) i).0 (rw (report_bytes y h f) at b) in
      let s = uncrossed_stays on i r.0 r.1 in
      rw (report_bytes y h' f') ((byte_two y (remaining h'.rest) (rest_below y law g'.strikes) i).1 s)

  pub report_impossible_later : byte (report y h) i ≡ 0 → byte (report y h') i ≡ 0
  report_impossible_later b =
      let r = (byte_zero y (remaining h.rest) (rest_below y law g.strikes) i).0 (rw (report_bytes y h f) at b) in
      let s = is_false (remaining h'.rest i) (λ t. not_both (struck_less on i t) r) in
      rw (report_bytes y h' f') ((byte_zero y (remaining h'.rest) (rest_below y law g'.strikes) i).1 s)
