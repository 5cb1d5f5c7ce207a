-- The first four rows of 01's table, in order: the lowest number that applies is given.
--   Row m n d                 a row of the table applies to m: number n, with detail d
--   in_range z, is_out m k    z lies from -10,000 to 10,000; number k of the list does not
--   first_out m               the index of the first number outside the range; the list's length where none is
--   has_twin m j              mark j equals an earlier mark
--   first_twin m              the smallest mark number that equals an earlier mark; n where none does
--   found k n                 k, where it is below n
--   shown x                   the number and the detail that the controller shows of the refusal x
--   refusal_words x           the refusal x as it is printed
--   shown_by v                what it shows of the answer v; 0 and 0 where nothing is refused
--   Refused v s               the answer v is a refusal of which the controller shows s
--   verdict m                 the answer to the list m
--   number_of v, detail_of v  what the controller shows of the answer v to a list
use Rattle.std.specs.Prelude.{◌≡◌, Bool, not, cond, Option, Some, None, Result, Ok, Err, List, ◌++◌, codes, decimal, ℕ, ◌%◌, ◌<◌, eqb, leb, ltb, length, get_or, ℤ, pos, nat_abs}
use Rattle.refusals.specs.declared.Refusal.{Refusal}
use Rattle.refusals.specs.declared.Refusal.TheVariants.{OddLength, TooManyMarks, OutOfRange, EqualMarks, BufferLength, ByteAboveTwo, NotAPair, Uncrossed}
use Rattle.plane.specs.Numbers.{all_to, first_to}
use Rattle.plane.specs.Marks.{count, mark, IsMark, same_point}

-- z lies outside the range
abbrev pub Outside : ℤ → Type 0
Outside z = 10000 < nat_abs z

-- mark j equals an earlier mark
abbrev pub EqualsEarlier : List ℤ → ℕ → Type 0
EqualsEarlier m j = (i : ℕ) × (i < j) × (mark m i ≡ mark m j)

unfoldable pub in_range : ℤ → Bool
in_range z = leb (nat_abs z) 10000

unfoldable pub is_out : List ℤ → ℕ → Bool
is_out m k = not (in_range (get_or m k (pos 0)))

unfoldable pub first_out : List ℤ → ℕ
first_out m = first_to (length m) (is_out m)

unfoldable pub differs : List ℤ → ℕ → ℕ → Bool
differs m j i = not (same_point (mark m i) (mark m j))

unfoldable pub has_twin : List ℤ → ℕ → Bool
has_twin m j = not (all_to j (differs m j))

unfoldable pub first_twin : List ℤ → ℕ
first_twin m = first_to (count m) (has_twin m)

-- what a search over the numbers below n has found, where it has come to k
unfoldable pub found : ℕ → ℕ → Option ℕ
found k n = cond (ltb k n) (Some k) None

-- ---- the table's rows: "Numbers the controller shows"
pub record Shown : Type 0 where
  pub number : ℕ
  pub detail : ℕ

abbrev pub shows : ℕ → ℕ → Shown
shows n d = record { number = n; detail = d }

unfoldable pub shown : Refusal → Shown
shown (OddLength d) = shows 1 d
shown (TooManyMarks d) = shows 2 d
shown (OutOfRange d) = shows 3 d
shown (EqualMarks d) = shows 4 d
shown (BufferLength d) = shows 5 d
shown (ByteAboveTwo d) = shows 6 d
shown NotAPair = shows 7 0
shown (Uncrossed d) = shows 8 d

-- a refusal as it is printed
abbrev pub refusal_words : Refusal → List ℕ
refusal_words x = codes "refused " ++ decimal (shown x).number ++ codes " " ++ decimal (shown x).detail

-- ---- an answer that may be a refusal: 0 and 0 are shown where nothing is refused
unfoldable pub shown_by : {A : Type 0} → Result A Refusal → Shown
shown_by (Ok x) = shows 0 0
shown_by (Err x) = shown x

abbrev pub Refused : {A : Type 0} → Result A Refusal → Shown → Type 0
Refused v s = (x : Refusal) × (v ≡ Err x) × (shown x ≡ s)

-- ---- the answer to a list
abbrev pub Verdict : Type 0
Verdict = Result (Unit {0}) Refusal

abbrev pub number_of : Verdict → ℕ
number_of v = (shown_by v).number

abbrev pub detail_of : Verdict → ℕ
detail_of v = (shown_by v).detail

unfoldable pub verdict : List ℤ → Verdict
verdict m =
    cond (eqb (length m % 2) 1) (Err (OddLength (length m)))
    (cond (ltb 128 (count m)) (Err (TooManyMarks (count m)))
    (cond (ltb (first_out m) (length m)) (Err (OutOfRange (first_out m)))
    (cond (ltb (first_twin m) (count m)) (Err (EqualMarks (first_twin m)))
    (Ok tt))))

pub data Row (m : List ℤ) (n d : ℕ) : Type 0 where
  -- 1 | list length odd | the length
  row1 : n ≡ 1 → length m % 2 ≡ 1 → d ≡ length m → Row m n d
  -- 2 | more than 128 marks | n
  row2 : n ≡ 2 → 128 < count m → d ≡ count m → Row m n d
  -- 3 | a number outside the range | index in the list of the first
  row3 : n ≡ 3 → d < length m → Outside (get_or m d (pos 0)) → ((k : ℕ) → k < d → ¬ Outside (get_or m k (pos 0))) → Row m n d
  -- 4 | two marks equal | smallest mark number that equals an earlier mark
  row4 : n ≡ 4 → IsMark m d → EqualsEarlier m d → ((j : ℕ) → j < d → ¬ EqualsEarlier m j) → Row m n d
