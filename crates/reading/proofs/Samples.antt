-- Texts worked by hand, each with what reading it answers. Assumes nothing.
use mathlib.Core.Path.{◌≡◌, refl}
use mathlib.Core.List.{List, [], ◌∷◌, map}
use Prim.Native.Nat.{ℕ}
use lib.IntN.{ℤ, pos, negsuc}
use Rattle.plane.specs.Numbers.{first_to, first_so_far}
use Rattle.std.specs.Prelude.{Ok}
use Rattle.reading.specs.Text.{place_of, all_digits, is_counting, is_number, value_of, is_coordinate, coordinate_of}
use Rattle.reading.specs.Read.{is_budget, budget_of, is_mark, rest_of, is_there, is_good_as, is_good, is_bad, first_bad, is_over}
use Rattle.reading.specs.Read.{mark_count, numbers_to, numbers_of, Answer, refused, reading_of, numbers_by, numbers_after}

-- the answer, and what a lent list of one number holds after it
pub record Sample : Type 0 where
  pub text : List ℕ
  pub answer : Answer
  pub numbers : List ℤ

abbrev pub sample : List ℕ → Answer → List ℤ → Sample
sample t r m = record { text = t; answer = r; numbers = m }

abbrev good : ℕ → ℕ → Answer
good b n = Ok (record { budget = b; count = n })

abbrev pub samples : List Sample
samples =
    -- the kite of 01
    sample (45 ∷ 10 ∷ 45 ∷ 51 ∷ 32 ∷ 48 ∷ 10 ∷ 48 ∷ 32 ∷ 45 ∷ 49 ∷ 10 ∷ 51 ∷ 32 ∷ 48 ∷ 10 ∷ 48 ∷ 32 ∷ 49 ∷ 10 ∷ []) (good 1000 8) (negsuc 2 ∷ pos 0 ∷ pos 0 ∷ negsuc 0 ∷ pos 3 ∷ pos 0 ∷ pos 0 ∷ pos 1 ∷ []) ∷
    -- a budget and no marks
    sample (53 ∷ 10 ∷ []) (good 5 0) (pos 7 ∷ []) ∷
    -- the largest budget
    sample (57 ∷ 57 ∷ 57 ∷ 57 ∷ 57 ∷ 57 ∷ 57 ∷ 57 ∷ 57 ∷ 10 ∷ []) (good 999999999 0) (pos 7 ∷ []) ∷
    -- a budget of ten digits
    sample (49 ∷ 48 ∷ 48 ∷ 48 ∷ 48 ∷ 48 ∷ 48 ∷ 48 ∷ 48 ∷ 48 ∷ 10 ∷ []) (refused 1) (pos 7 ∷ []) ∷
    -- a budget that starts with 0
    sample (48 ∷ 48 ∷ 55 ∷ 10 ∷ []) (refused 1) (pos 7 ∷ []) ∷
    -- an empty line 1
    sample (10 ∷ 49 ∷ 32 ∷ 50 ∷ 10 ∷ []) (refused 1) (pos 7 ∷ []) ∷
    -- the dash with a digit
    sample (45 ∷ 53 ∷ 10 ∷ []) (refused 1) (pos 7 ∷ []) ∷
    -- a carriage return
    sample (53 ∷ 13 ∷ 10 ∷ []) (refused 1) (pos 7 ∷ []) ∷
    -- no line feed after the budget
    sample (45 ∷ []) (refused 1) (pos 7 ∷ []) ∷
    -- no line feed after the last mark
    sample (53 ∷ 10 ∷ 49 ∷ 32 ∷ 50 ∷ []) (refused 2) (pos 7 ∷ []) ∷
    -- coordinates of seven digits
    sample (48 ∷ 10 ∷ 49 ∷ 50 ∷ 51 ∷ 52 ∷ 53 ∷ 54 ∷ 55 ∷ 32 ∷ 45 ∷ 55 ∷ 54 ∷ 53 ∷ 52 ∷ 51 ∷ 50 ∷ 49 ∷ 10 ∷ []) (good 0 2) (pos 1234567 ∷ negsuc 7654320 ∷ []) ∷
    -- a coordinate of eight digits
    sample (48 ∷ 10 ∷ 49 ∷ 32 ∷ 50 ∷ 10 ∷ 49 ∷ 50 ∷ 51 ∷ 52 ∷ 53 ∷ 54 ∷ 55 ∷ 56 ∷ 32 ∷ 49 ∷ 10 ∷ []) (refused 3) (pos 7 ∷ []) ∷
    -- minus zero
    sample (48 ∷ 10 ∷ 45 ∷ 48 ∷ 32 ∷ 48 ∷ 10 ∷ []) (refused 2) (pos 7 ∷ []) ∷
    -- two spaces
    sample (48 ∷ 10 ∷ 49 ∷ 32 ∷ 32 ∷ 50 ∷ 10 ∷ []) (refused 2) (pos 7 ∷ []) ∷
    -- a space at the end
    sample (48 ∷ 10 ∷ 49 ∷ 32 ∷ 50 ∷ 32 ∷ 10 ∷ []) (refused 2) (pos 7 ∷ []) ∷
    -- no space
    sample (48 ∷ 10 ∷ 49 ∷ 50 ∷ 10 ∷ []) (refused 2) (pos 7 ∷ []) ∷
    -- an empty last line
    sample (48 ∷ 10 ∷ 49 ∷ 32 ∷ 50 ∷ 10 ∷ 10 ∷ []) (refused 3) (pos 7 ∷ []) ∷
    -- a sign +
    sample (48 ∷ 10 ∷ 43 ∷ 49 ∷ 32 ∷ 50 ∷ 10 ∷ []) (refused 2) (pos 7 ∷ []) ∷
    -- minus alone
    sample (48 ∷ 10 ∷ 45 ∷ 32 ∷ 50 ∷ 10 ∷ []) (refused 2) (pos 7 ∷ []) ∷
    []

abbrev worked : Sample → Sample
worked s = record { text = s.text; answer = reading_of s.text; numbers = numbers_after s.text (pos 7 ∷ []) }

pub samples_hold : map worked samples ≡ samples
unfolding first_to first_so_far place_of all_digits is_counting is_number value_of is_coordinate coordinate_of is_budget budget_of is_mark rest_of is_there is_good_as is_good is_bad first_bad is_over mark_count numbers_to numbers_of reading_of numbers_by
samples_hold = refl
