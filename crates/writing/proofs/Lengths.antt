-- Bounds of the texts' lengths, by which a buffer of 64 bytes has room for a refusal and one of 138,240 for a listing. Assumes nothing.
use mathlib.Core.Path.{◌≡◌, sym}
use mathlib.Core.Bool.{Bool, true, false}
use mathlib.Core.List.{List, [], ◌∷◌}
use Prim.Native.Nat.{ℕ, zero, suc, ◌+◌, ◌*◌, ◌^◌, ◌≤◌, ◌<◌}
use native.Mathlib.Numerals.{add-one}
use native.Mathlib.Decide.{ℕ_discrete}
use native.Mathlib.Omega.{arith}
use lib.ListN.{length, get_or, length-append, length-drop}
use Rattle.pairs.specs.Pairs.{pair_count, pair_at}
use Rattle.pairs.proofs.Laws.{pair_count_small, pair_at_numbered, pair_at_below}
use Rattle.writing.specs.Digits.{digits}
use Rattle.writing.specs.Listing.{done_word, paused_word, refused_word, possible_word, certain_word, line, done_text, paused_text, outcome_text, refused_text, pair_text, pair_texts, pairs_text}
use Rattle.writing.proofs.Digits.{digits-length}
use Rattle.writing.proofs.Lines.{line_two, line_three, pair_possible, pair_certain, pair_none, pairs_none, pairs_more}

-- ---- lines
pub line_two_length : (f g : List ℕ) → length (line (f ∷ g ∷ [])) ≡ length f + length g + 2
line_two_length f g = rw (line_two f g) (simp length-append (omega arith))

pub line_three_length : (f g h : List ℕ) → length (line (f ∷ g ∷ h ∷ [])) ≡ length f + length g + length h + 3
line_three_length f g h = rw (line_three f g h) (simp length-append (omega arith))

-- a number of 64 bits has at most 20 digits
long : (n : ℕ) → n < 2 ^ 64 → length (digits n) ≤ 20
long n h = digits-length 19 n (omega arith)

pub refused_length : (i d : ℕ) → i < 2 ^ 64 → d < 2 ^ 64 → length (refused_text i d) ≤ 50
unfolding refused_text
refused_length i d h k = omega (arith, line_three_length refused_word (digits i) (digits d), long i h, long d k)

pub outcome_length : (done : Bool) (e : ℕ) → e < 2 ^ 64 → length (outcome_text done e) ≤ 28
unfolding outcome_text done_text paused_text
outcome_length true e h = omega (arith, line_two_length done_word (digits e), long e h)
outcome_length false e h = omega (arith, line_two_length paused_word (digits e), long e h)

-- ---- pairs
pub pair-length : (a b s : ℕ) → a < 1000 → b < 1000 → length (pair_text a b s) ≤ 17
pair-length a b s h k = go (ℕ_discrete s 1) (ℕ_discrete s 2)
  where
    short : (w : List ℕ) → length w ≤ 8 → length (line (digits a ∷ digits b ∷ w ∷ [])) ≤ 17
    short w l = omega (arith, line_three_length (digits a) (digits b) w, digits-length 2 a h, digits-length 2 b k)

    go : Dec (s ≡ 1) → Dec (s ≡ 2) → length (pair_text a b s) ≤ 17
    go (yes e) x = rw (pair_possible a b s e) (short possible_word (omega arith))
    go (no d) (yes e) = rw (pair_certain a b s e) (short certain_word (omega arith))
    go (no d) (no f) = rw (pair_none a b s d f) (omega arith)

pub pair_texts-length : (st : List ℕ) (k : ℕ) → k ≤ 8128 → length (pair_texts st k) ≤ k * 17
pair_texts-length st zero h = rw (pairs_none st) (omega arith)
pair_texts-length st (suc k) h =
    let below = pair_at_below 128 k (omega arith) in
    let up = (pair_at_numbered k).up in
    let last = pair-length (pair_at k).a (pair_at k).b (get_or st k 0) (omega arith) (omega arith) in
    let before = pair_texts-length st k (omega arith) in
    rw (sym (add-one k), pairs_more st k, length-append) (omega arith)

pub pairs_length : (st : List ℕ) (n : ℕ) → n ≤ 128 → length (pairs_text st n) ≤ 138176
pairs_length st n h = omega (arith, pair_texts-length st (pair_count n) (pair_count_small n h), pair_count_small n h)

-- what the goals of `write_listing` need
pub ruleset listings = (outcome_length, pairs_length, length-append, length-drop)
