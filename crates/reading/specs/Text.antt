-- What stands in a part of a text, a list of bytes.
--   place_of b p      the first place at which b stands; the part's length where there is none
--   has b p           b stands in the part
--   before b p        what stands before the first b, all of the part where there is none
--   after b p         what stands after the first b
--   Cut b p l r       b stands in the part, l is what stands before the first b, and r what stands after it
--   is_only b p       the part is the one byte b
--   starts_with b p   the part begins with b
--   all_digits p      every byte of the part is a digit
--   is_counting p     the part is a digit 1 to 9 followed by digits
--   is_number k p     the part is a number of at most k digits; value_of p is that number
--   is_coordinate p   the part is a coordinate; coordinate_of p is that coordinate
use Rattle.std.specs.Prelude.{◌≡◌, Bool, true, false, cond, List, ℕ, ◌+◌, ◌*◌, ◌-◌, ◌==◌, eqb, ltb, ℤ, pos, neg_ℤ, length, get_or, take, drop}
use Rattle.std.specs.Char.{is_ascii_digit}
use Rattle.std.specs.List.{fold, list_all, position_or_len}

-- the line feed, the space, "-" and "0"
abbrev pub feed : ℕ
feed = 10

abbrev pub space : ℕ
space = 32

abbrev pub dash : ℕ
dash = 45

abbrev pub digit0 : ℕ
digit0 = 48

unfoldable pub place_of : ℕ → List ℕ → ℕ
place_of b p = position_or_len (λ x. x == b) p

abbrev pub has : ℕ → List ℕ → Bool
has b p = ltb (place_of b p) (length p)

abbrev pub before : ℕ → List ℕ → List ℕ
before b p = take (place_of b p) p

abbrev pub after : ℕ → List ℕ → List ℕ
after b p = drop (place_of b p + 1) p

-- the part is cut at the first b: l stands before it, and r after it
pub record Cut (b : ℕ) (p l r : List ℕ) : Type 0 where
  pub there : has b p ≡ true
  pub left : l ≡ before b p
  pub right : r ≡ after b p

abbrev pub is_only : ℕ → List ℕ → Bool
is_only b p = cond (eqb (length p) 1) (eqb (get_or p 0 0) b) false

abbrev pub starts_with : ℕ → List ℕ → Bool
starts_with b p = cond (ltb 0 (length p)) (eqb (get_or p 0 0) b) false

unfoldable pub all_digits : List ℕ → Bool
all_digits p = list_all is_ascii_digit p

-- "a digit 1 to 9 followed by digits": digits, at least one, of which the first is not "0"
unfoldable pub is_counting : List ℕ → Bool
is_counting p = cond (ltb 0 (length p)) (cond (starts_with digit0 p) false (all_digits p)) false

-- "A number is 0, or a digit 1 to 9 followed by digits, at most [k] digits in all"
unfoldable pub is_number : ℕ → List ℕ → Bool
is_number k p = cond (ltb k (length p)) false (cond (is_only digit0 p) true (is_counting p))

-- the number that the digits spell
unfoldable pub value_of : List ℕ → ℕ
value_of p = fold (λ v b. v * 10 + (b - digit0)) 0 p

-- "at most 7 digits in all for a coordinate, which may have "-" before it unless it is 0"
unfoldable pub is_coordinate : List ℕ → Bool
is_coordinate p = cond (starts_with dash p) (cond (is_only digit0 (drop 1 p)) false (is_number 7 (drop 1 p))) (is_number 7 p)

unfoldable pub coordinate_of : List ℕ → ℤ
coordinate_of p = cond (starts_with dash p) (neg_ℤ (pos (value_of (drop 1 p)))) (pos (value_of p))
