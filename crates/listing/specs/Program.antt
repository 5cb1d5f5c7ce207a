-- What the listing program answers: from the bytes that it reads to those that it writes.
--   status_room m           how many of the status bytes a list is lent
--   marks_text m st budget  the text for the list m, where the status bytes st are lent
--   list_text m budget      the same, of bytes that are "all cleared before a run"
--   list_status m budget    the status bytes then, all 8,128
--   answer_text t           the text that answers the text t
--   answer_status t         the status bytes when the text t is answered
use Rattle.std.specs.Prelude.{true, false, cond, Result, Ok, Err, List, ◌++◌, ℕ, ltb, ℤ, drop, replicate}
use Rattle.plane.specs.Marks.{count}
use Rattle.pairs.specs.Pairs.{pair_count}
use Rattle.refusals.specs.declared.Refusal.{Refusal}
use Rattle.refusals.specs.Check.{shown}
use Rattle.skeleton.specs.declared.search.Outcome.{Outcome}
use Rattle.skeleton.specs.declared.search.Outcome.TheVariants.{Done, Paused}
use Rattle.skeleton.specs.Answers.{outcome_of, status_after}
use Rattle.reading.specs.Read.{Answer, numbers_of, reading_of}
use Rattle.writing.specs.Listing.{refused_text, listing_text}

-- "Its length is exactly n(n-1)/2": a list of more than 128 marks is refused before its length counts
unfoldable pub status_room : List ℤ → ℕ
status_room m = cond (ltb 128 (count m)) 0 (pair_count (count m))

unfoldable pub text_by : Result Outcome Refusal → List ℕ → ℕ → List ℕ
text_by (Ok (Done e)) st n = listing_text true e st n
text_by (Ok (Paused e)) st n = listing_text false e st n
text_by (Err x) st n = refused_text (shown x).number (shown x).detail

unfoldable pub marks_text : List ℤ → List ℕ → ℕ → List ℕ
marks_text m st budget = text_by (outcome_of m st budget) (status_after m st budget) (count m)

-- "The program keeps 8,128 status bytes, all cleared before a run."
unfoldable pub list_text : List ℤ → ℕ → List ℕ
list_text m budget = marks_text m (replicate (status_room m) 0) budget

-- the bytes that were lent have the statuses, the others stay cleared
unfoldable pub list_status : List ℤ → ℕ → List ℕ
list_status m budget = status_after m (replicate (status_room m) 0) budget ++ drop (status_room m) (replicate 8128 0)

-- "the program tests 9 before all others"
unfoldable pub text_for : Answer → List ℤ → List ℕ
text_for (Err e) m = refused_text 9 e.0
text_for (Ok r) m = list_text m r.budget

unfoldable pub answer_text : List ℕ → List ℕ
answer_text t = text_for (reading_of t) (numbers_of t)

unfoldable pub status_for : Answer → List ℤ → List ℕ
status_for (Err e) m = replicate 8128 0
status_for (Ok r) m = list_status m r.budget

unfoldable pub answer_status : List ℕ → List ℕ
answer_status t = status_for (reading_of t) (numbers_of t)
