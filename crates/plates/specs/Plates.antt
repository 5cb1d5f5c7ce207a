-- The worked plates marked P: the table, and what each row of it says.
--   table                      the numbers of the source's table
--   number_at k i              number i of row k
--   marks_at k, budget_at k    the plate and the budget of row k
--   outcome_at k, status_at k  its result
--   lent_at k                  the status bytes that are lent
--   right_at k                 the search gives that result
use Rattle.std.specs.Prelude.{Bool, true, false, cond, Result, Ok, Err, List, [], ◌∷◌, ℕ, ◌+◌, ◌*◌, eqb, ℤ, pos, ◌-ℤ◌, get_or, take, drop, replicate}
use Rattle.pairs.specs.Pairs.{pair_count}
use Rattle.refusals.specs.declared.Refusal.{Refusal}
use Rattle.skeleton.specs.declared.search.Outcome.{Outcome}
use Rattle.skeleton.specs.declared.search.Outcome.TheVariants.{Done, Paused}
use Rattle.skeleton.specs.Answers.{outcome_of, status_after}

unfoldable pub table : List ℕ
table =
    0 ∷ 1000 ∷ 1 ∷ 0 ∷ 10 ∷ 10 ∷ 10 ∷ 10 ∷ 10 ∷ 10 ∷ 10 ∷ 10 ∷ 10 ∷ 10 ∷ 0 ∷ 0 ∷ 0 ∷ 0 ∷ 0 ∷ 0 ∷ 0 ∷ 0 ∷ 0 ∷ 0 ∷
    1 ∷ 1000 ∷ 1 ∷ 0 ∷ 17 ∷ 17 ∷ 10 ∷ 10 ∷ 10 ∷ 10 ∷ 10 ∷ 10 ∷ 10 ∷ 10 ∷ 0 ∷ 0 ∷ 0 ∷ 0 ∷ 0 ∷ 0 ∷ 0 ∷ 0 ∷ 0 ∷ 0 ∷
    2 ∷ 1000 ∷ 1 ∷ 0 ∷ 10 ∷ 10 ∷ 15 ∷ 10 ∷ 10 ∷ 10 ∷ 10 ∷ 10 ∷ 10 ∷ 10 ∷ 2 ∷ 0 ∷ 0 ∷ 0 ∷ 0 ∷ 0 ∷ 0 ∷ 0 ∷ 0 ∷ 0 ∷
    3 ∷ 1000 ∷ 1 ∷ 0 ∷ 10 ∷ 10 ∷ 11 ∷ 10 ∷ 12 ∷ 10 ∷ 10 ∷ 10 ∷ 10 ∷ 10 ∷ 2 ∷ 0 ∷ 2 ∷ 0 ∷ 0 ∷ 0 ∷ 0 ∷ 0 ∷ 0 ∷ 0 ∷
    4 ∷ 1000 ∷ 1 ∷ 2 ∷ 10 ∷ 10 ∷ 12 ∷ 10 ∷ 12 ∷ 12 ∷ 10 ∷ 12 ∷ 10 ∷ 10 ∷ 2 ∷ 1 ∷ 2 ∷ 2 ∷ 1 ∷ 2 ∷ 0 ∷ 0 ∷ 0 ∷ 0 ∷
    4 ∷ 1000 ∷ 1 ∷ 3 ∷ 7 ∷ 10 ∷ 10 ∷ 9 ∷ 13 ∷ 10 ∷ 10 ∷ 11 ∷ 10 ∷ 10 ∷ 2 ∷ 0 ∷ 2 ∷ 2 ∷ 2 ∷ 2 ∷ 0 ∷ 0 ∷ 0 ∷ 0 ∷
    4 ∷ 0 ∷ 0 ∷ 0 ∷ 7 ∷ 10 ∷ 10 ∷ 9 ∷ 13 ∷ 10 ∷ 10 ∷ 11 ∷ 10 ∷ 10 ∷ 2 ∷ 1 ∷ 2 ∷ 2 ∷ 1 ∷ 2 ∷ 0 ∷ 0 ∷ 0 ∷ 0 ∷
    4 ∷ 2 ∷ 0 ∷ 2 ∷ 7 ∷ 10 ∷ 10 ∷ 9 ∷ 13 ∷ 10 ∷ 10 ∷ 11 ∷ 10 ∷ 10 ∷ 2 ∷ 0 ∷ 2 ∷ 2 ∷ 2 ∷ 2 ∷ 0 ∷ 0 ∷ 0 ∷ 0 ∷
    4 ∷ 1000 ∷ 1 ∷ 3 ∷ 10 ∷ 10 ∷ 16 ∷ 10 ∷ 10 ∷ 16 ∷ 11 ∷ 11 ∷ 10 ∷ 10 ∷ 2 ∷ 2 ∷ 2 ∷ 2 ∷ 2 ∷ 2 ∷ 0 ∷ 0 ∷ 0 ∷ 0 ∷
    4 ∷ 1000 ∷ 1 ∷ 1 ∷ 10 ∷ 10 ∷ 14 ∷ 10 ∷ 10 ∷ 14 ∷ 12 ∷ 10 ∷ 10 ∷ 10 ∷ 0 ∷ 2 ∷ 2 ∷ 2 ∷ 2 ∷ 2 ∷ 0 ∷ 0 ∷ 0 ∷ 0 ∷
    5 ∷ 1000 ∷ 1 ∷ 4 ∷ 10 ∷ 10 ∷ 14 ∷ 10 ∷ 14 ∷ 14 ∷ 10 ∷ 14 ∷ 12 ∷ 12 ∷ 2 ∷ 0 ∷ 2 ∷ 2 ∷ 0 ∷ 2 ∷ 2 ∷ 2 ∷ 2 ∷ 2 ∷
    5 ∷ 1000 ∷ 1 ∷ 10 ∷ 10 ∷ 10 ∷ 11 ∷ 8 ∷ 18 ∷ 7 ∷ 19 ∷ 13 ∷ 11 ∷ 12 ∷ 2 ∷ 0 ∷ 2 ∷ 0 ∷ 0 ∷ 2 ∷ 2 ∷ 2 ∷ 2 ∷ 2 ∷
    5 ∷ 5 ∷ 0 ∷ 5 ∷ 10 ∷ 10 ∷ 11 ∷ 8 ∷ 18 ∷ 7 ∷ 19 ∷ 13 ∷ 11 ∷ 12 ∷ 2 ∷ 1 ∷ 2 ∷ 0 ∷ 0 ∷ 2 ∷ 2 ∷ 1 ∷ 2 ∷ 2 ∷
    []

-- the table has each coordinate with 10 added to it
unfoldable pub coordinates : List ℕ → List ℤ
coordinates [] = []
coordinates (x ∷ xs) = (pos x -ℤ pos 10) ∷ coordinates xs

unfoldable pub number_at : ℕ → ℕ → ℕ
number_at k i = get_or table (k * 24 + i) 0

unfoldable pub marks_at : ℕ → List ℤ
marks_at k = coordinates (take (number_at k 0 * 2) (drop (k * 24 + 4) table))

unfoldable pub budget_at : ℕ → ℕ
budget_at k = number_at k 1

unfoldable pub outcome_at : ℕ → Result Outcome Refusal
outcome_at k = Ok (cond (eqb (number_at k 2) 1) (Done (number_at k 3)) (Paused (number_at k 3)))

unfoldable pub status_at : ℕ → List ℕ
status_at k = take (pair_count (number_at k 0)) (drop (k * 24 + 14) table)

-- the bytes that are lent say nothing
unfoldable pub lent_at : ℕ → List ℕ
lent_at k = replicate (pair_count (number_at k 0)) 7

-- ---- the test
unfoldable pub same_outcome : Result Outcome Refusal → Result Outcome Refusal → Bool
same_outcome (Err x) o = false
same_outcome (Ok o) (Err x) = false
same_outcome (Ok (Done e)) (Ok (Done f)) = eqb e f
same_outcome (Ok (Done e)) (Ok (Paused f)) = false
same_outcome (Ok (Paused e)) (Ok (Done f)) = false
same_outcome (Ok (Paused e)) (Ok (Paused f)) = eqb e f

unfoldable pub same_list : List ℕ → List ℕ → Bool
same_list [] [] = true
same_list [] (y ∷ ys) = false
same_list (x ∷ xs) [] = false
same_list (x ∷ xs) (y ∷ ys) = cond (eqb x y) (same_list xs ys) false

-- the search gives the result of row k
unfoldable pub right_at : ℕ → Bool
right_at k =
    cond (same_outcome (outcome_of (marks_at k) (lent_at k) (budget_at k)) (outcome_at k))
    (same_list (status_after (marks_at k) (lent_at k) (budget_at k)) (status_at k)) false
