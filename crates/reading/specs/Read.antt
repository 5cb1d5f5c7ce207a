-- The listing program's text. "Line 1 is the budget, "-" or up to 9 digits; "-" stands for 1,000. Each further line is one mark: x, one
-- space, y. Every line ends in a line feed, the last one too. [..] Line numbers start at 1. Input that is empty is 9 with line 1; more
-- than 4,096 bytes is 9 with detail 0; else the first bad line counts." Lines are counted from 0 here: line n is 01's n + 1.
--   rest_of t n             the text from line n on; nothing where there is no line n
--   line_of t n             line n, without its line feed
--   is_there t n            the text has a line n
--   is_budget p             the part is "-" or a number of at most 9 digits; budget_of p is the budget that it stands for
--   is_mark p               the part is a coordinate, one space, a coordinate
--   is_good_as n p          the part is what line n asks: a budget for n = 0, else a mark
--   x_of p, y_of p          the coordinates of the mark p
--   is_good t n             line n ends in a line feed and is good as line n
--   first_bad t             the first line that is there and not good; the text's length where there is none
--   Readable t              t is a text as 01 has it
--   mark_count t            how many marks it has: its lines without the first
--   numbers_of t            the marks' numbers, x0, y0, x1, y1, and so on
--   Answer, refused d       an answer to a text; that it is refused, refusal 9 with detail d
--   reading_of t            what reading t answers: the detail of refusal 9, or the budget and how many numbers there are
--   number_of r, detail_of r  what the controller shows of the answer r
--   Row9 t d                row 9 of the table applies to t, with detail d
--   numbers_after t old     a lent list that held `old`, after t was read: nothing changes by a refusal, and after a good text
--                           the text's numbers stand at its start
use Rattle.std.specs.Prelude.{◌≡◌, Bool, true, false, not, cond, List, [], ◌∷◌, ◌++◌, ℕ, zero, suc, ◌+◌, ◌*◌, ◌-◌}
use Rattle.std.specs.Prelude.{◌≤◌, ◌<◌, eqb, ltb, ℤ, length, drop, Result, Ok, Err}
use Rattle.plane.specs.Numbers.{first_to}
use Rattle.reading.specs.declared.read.BadLine.{BadLine}
use Rattle.reading.specs.declared.read.Reading.{Reading}
use Rattle.reading.specs.Text.{feed, space, dash, has, before, after, is_only, is_number, value_of, is_coordinate, coordinate_of}

-- what "-" stands for
abbrev pub dash_budget : ℕ
dash_budget = 1000

unfoldable pub is_budget : List ℕ → Bool
is_budget p = cond (is_only dash p) true (is_number 9 p)

unfoldable pub budget_of : List ℕ → ℕ
budget_of p = cond (is_only dash p) dash_budget (value_of p)

unfoldable pub is_mark : List ℕ → Bool
is_mark p = cond (has space p) (cond (is_coordinate (before space p)) (is_coordinate (after space p)) false) false

unfoldable pub rest_of : List ℕ → ℕ → List ℕ
rest_of t zero = t
rest_of t (suc n) = after feed (rest_of t n)

abbrev pub line_of : List ℕ → ℕ → List ℕ
line_of t n = before feed (rest_of t n)

unfoldable pub is_there : List ℕ → ℕ → Bool
is_there t n = ltb 0 (length (rest_of t n))

-- the part p is good as line n: a budget for n = 0, else a mark
unfoldable pub is_good_as : ℕ → List ℕ → Bool
is_good_as n p = cond (eqb n 0) (is_budget p) (is_mark p)

unfoldable pub is_good : List ℕ → ℕ → Bool
is_good t n = cond (has feed (rest_of t n)) (is_good_as n (line_of t n)) false

unfoldable pub is_bad : List ℕ → ℕ → Bool
is_bad t n = cond (is_there t n) (not (is_good t n)) false

unfoldable pub first_bad : List ℕ → ℕ
first_bad t = first_to (length t) (is_bad t)

pub record Readable (t : List ℕ) : Type 0 where
  pub short : length t ≤ 4096
  pub some : 0 < length t
  -- no line is bad
  pub good : length t ≤ first_bad t

-- the lines end before line n
unfoldable pub is_over : List ℕ → ℕ → Bool
is_over t n = not (is_there t n)

unfoldable pub mark_count : List ℕ → ℕ
mark_count t = first_to (length t) (is_over t) - 1

-- the coordinates of a mark's line
abbrev pub x_of : List ℕ → ℤ
x_of p = coordinate_of (before space p)

abbrev pub y_of : List ℕ → ℤ
y_of p = coordinate_of (after space p)

-- the numbers of the first k marks
unfoldable pub numbers_to : List ℕ → ℕ → List ℤ
numbers_to t zero = []
numbers_to t (suc k) = numbers_to t k ++ (x_of (line_of t (k + 1)) ∷ y_of (line_of t (k + 1)) ∷ [])

unfoldable pub numbers_of : List ℕ → List ℤ
numbers_of t = numbers_to t (mark_count t)

abbrev pub Answer : Type 0
Answer = Result Reading BadLine

abbrev pub refused : ℕ → Answer
refused d = Err (record { 0 = d })

unfoldable pub reading_of : List ℕ → Answer
reading_of t =
    cond (ltb 4096 (length t)) (refused 0)
    (cond (eqb (length t) 0) (refused 1)
    (cond (ltb (first_bad t) (length t)) (refused (first_bad t + 1))
    (Ok (record { budget = budget_of (line_of t 0); count = 2 * mark_count t }))))

-- the number that the controller shows, and its detail; both 0 for a text that was read
unfoldable pub number_of : Answer → ℕ
number_of (Err e) = 9
number_of (Ok r) = 0

unfoldable pub detail_of : Answer → ℕ
detail_of (Err e) = e.0
detail_of (Ok r) = 0

-- 9 | program only, bad text | line number, or 0 for text too long
pub data Row9 (t : List ℕ) (d : ℕ) : Type 0 where
  -- "more than 4,096 bytes is 9 with detail 0"
  long : 4096 < length t → d ≡ 0 → Row9 t d
  -- "Input that is empty is 9 with line 1"
  empty : length t ≡ 0 → d ≡ 1 → Row9 t d
  -- "else the first bad line counts"
  line : (n : ℕ) → length t ≤ 4096 → is_bad t n ≡ true → ((k : ℕ) → k < n → is_bad t k ≡ false) → d ≡ n + 1 → Row9 t d

unfoldable pub numbers_by : Answer → List ℕ → List ℤ → List ℤ
numbers_by (Err e) t old = old
numbers_by (Ok r) t old = numbers_of t ++ drop r.count old

abbrev pub numbers_after : List ℕ → List ℤ → List ℤ
numbers_after t old = numbers_by (reading_of t) t old
