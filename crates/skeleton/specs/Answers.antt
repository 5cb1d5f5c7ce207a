-- What the search and the certificate request answer, for every input, and every byte of the status buffer on return.
--   search_refusal m st           rows 1 to 5 of the table, in order: the refusal, or none
--   request_refusal m st a b      rows 1 to 7, in order
--   answer_of m st a b            what the certificate request answers; it never writes
--   outcome_of m st budget        what the search answers
--   outcome_words o               the outcome o as it is printed
--   status_after m st budget      the status buffer when the search returns
--   byte_after m st budget a b    the byte of the pair (a, b) in it
--   remaining_edges m budget a b  the edge (a, b) remains where the search of m, step by step, stops
--   shown_reply, shown_outcome    the number and the detail that the controller shows; 0 and 0 where nothing is refused
--   shown_request m st a b        what it shows of the certificate request
--   shown_search m st budget      what it shows of the search
--   without, certificate_shown    the certificate that is told with an answer: all zeros where there is none
use Rattle.std.specs.Prelude.{Bool, cond, List, [], ◌∷◌, ◌++◌, codes, decimal, ℕ, eqb, ltb, length, get_or, ℤ, Option, None, Some, Result, Ok, Err}
use Rattle.refusals.specs.declared.Refusal.{Refusal}
use Rattle.refusals.specs.declared.Refusal.TheVariants.{BufferLength, ByteAboveTwo, NotAPair, Uncrossed}
use Rattle.plane.specs.Numbers.{first_to}
use Rattle.plane.specs.Marks.{count}
use Rattle.pairs.specs.Pairs.{pair_count, pair_number}
use Rattle.plane.specs.Edge.{empty_edge}
use Rattle.plane.specs.Hull.{hull_edge}
use Rattle.refusals.specs.Check.{Shown, shown_by, Verdict, verdict}
use Rattle.striking.specs.Status.{remaining}
use Rattle.striking.specs.Search.{done, paused, answer8, remaining_set, search_result}
use Rattle.striking.specs.Search as striking
use Rattle.skeleton.specs.declared.request.Reply.{Reply}
use Rattle.skeleton.specs.declared.request.Reply.TheVariants.{Hull, NotEmpty, Certified, Uncertified}
use Rattle.skeleton.specs.declared.search.Outcome.{Outcome}
use Rattle.skeleton.specs.declared.search.Outcome.TheVariants.{Done, Paused}
use Rattle.certificates.specs.declared.certificate.Certificate.{Certificate}
use Rattle.certificates.specs.declared.certificate.Apexes.{Apexes}
use Rattle.certificates.specs.Certificate.{first_certificate, certificate_of}
use Rattle.certificates.specs.Plate.{pairs_of, edges_of, plate}

-- ---- refusals
-- "The lowest number that applies is given": later rows are asked where no earlier one applies
unfoldable pub or_else : Verdict → Verdict → Verdict
or_else (Err x) v = Err x
or_else (Ok t) v = v

-- 5: "status buffer not n(n-1)/2 long", detail n(n-1)/2
unfoldable pub buffer_row : List ℤ → List ℕ → Verdict
buffer_row m st = cond (eqb (length st) (pair_count (count m))) (Ok tt) (Err (BufferLength (pair_count (count m))))

-- 6: "certificate request, a byte above 2", detail the index of the first
unfoldable pub is_above : List ℕ → ℕ → Bool
is_above st k = ltb 2 (get_or st k 0)

unfoldable pub first_above : List ℕ → ℕ
first_above st = first_to (length st) (is_above st)

unfoldable pub byte_row : List ℕ → Verdict
byte_row st = cond (ltb (first_above st) (length st)) (Err (ByteAboveTwo (first_above st))) (Ok tt)

-- 7: "certificate request, not a < b < n", detail 0
unfoldable pub pair_row : List ℤ → ℕ → ℕ → Verdict
pair_row m a b = cond (ltb a b) (cond (ltb b (count m)) (Ok tt) (Err NotAPair)) (Err NotAPair)

unfoldable pub search_refusal : List ℤ → List ℕ → Verdict
search_refusal m st = or_else (verdict m) (buffer_row m st)

unfoldable pub request_refusal : List ℤ → List ℕ → ℕ → ℕ → Verdict
request_refusal m st a b = or_else (search_refusal m st) (or_else (byte_row st) (pair_row m a b))

-- ---- the certificate request
unfoldable pub answer_with : ℕ → ℕ → Option Apexes → Reply
answer_with a b None = Uncertified
answer_with a b (Some x) = Certified (certificate_of a b x.r x.s)

-- "It returns hull, not empty, the first certificate, or none": of the pair (a, b), where K is the set
unfoldable pub answer_in : List ℤ → (ℕ → ℕ → Bool) → ℕ → ℕ → Reply
answer_in m K a b = cond (empty_edge m a b) (cond (hull_edge m a b) Hull (answer_with a b (first_certificate m K a b))) NotEmpty

unfoldable pub unless_refused : Verdict → Reply → Result Reply Refusal
unless_refused (Err x) reply = Err x
unless_refused (Ok t) reply = Ok reply

-- "An edge belongs to the set if its byte is not 0 and it is an empty edge."
unfoldable pub answer_of : List ℤ → List ℕ → ℕ → ℕ → Result Reply Refusal
answer_of m st a b = unless_refused (request_refusal m st a b) (answer_in m (edges_of m (remaining st)) a b)

-- ---- the search
-- "The result says done or paused, and the examinations made"; or it is answer 8 with its pair number
unfoldable pub told : striking.Outcome → ℕ → Result Outcome Refusal
told done e = Ok (Done e)
told paused e = Ok (Paused e)
told (answer8 i) e = Err (Uncrossed i)

unfoldable pub outcome_after : Verdict → striking.Result → Result Outcome Refusal
outcome_after (Err x) result = Err x
outcome_after (Ok t) result = told result.outcome result.examinations

unfoldable pub outcome_of : List ℤ → List ℕ → ℕ → Result Outcome Refusal
outcome_of m st budget = outcome_after (search_refusal m st) (search_result (plate m) budget)

-- an outcome as it is printed
abbrev pub outcome_words : Outcome → List ℕ
outcome_words (Done e) = codes "done " ++ decimal e
outcome_words (Paused e) = codes "paused " ++ decimal e

-- "After 1 to 7 the status buffer holds what it held before. After 8 every byte of it is 255." Else it has the statuses.
unfoldable pub bytes_after : Verdict → List ℕ → striking.Result → List ℕ
bytes_after (Err x) st result = st
bytes_after (Ok t) st result = result.status

unfoldable pub status_after : List ℤ → List ℕ → ℕ → List ℕ
status_after m st budget = bytes_after (search_refusal m st) st (search_result (plate m) budget)

abbrev pub byte_after : List ℤ → List ℕ → ℕ → ℕ → ℕ → ℕ
byte_after m st budget a b = get_or (status_after m st budget) (pair_number a b) 0

abbrev pub remaining_edges : List ℤ → ℕ → ℕ → ℕ → Bool
remaining_edges m budget = pairs_of (remaining_set (plate m) budget)

-- ---- what the controller shows
abbrev pub shown_reply : Result Reply Refusal → Shown
shown_reply answer = shown_by answer

abbrev pub shown_outcome : Result Outcome Refusal → Shown
shown_outcome answer = shown_by answer

abbrev pub shown_request : List ℤ → List ℕ → ℕ → ℕ → Shown
shown_request m st a b = shown_reply (answer_of m st a b)

abbrev pub shown_search : List ℤ → List ℕ → ℕ → Shown
shown_search m st budget = shown_outcome (outcome_of m st budget)

-- ---- the certificate that is told with an answer
-- of an answer that comes with no certificate: the record is all zeros
abbrev pub without : Certificate
without = record { r = 0; s = 0; sides = 0 ∷ 0 ∷ 0 ∷ 0 ∷ [] }

unfoldable pub reply_certificate : Reply → Certificate
reply_certificate Hull = without
reply_certificate NotEmpty = without
reply_certificate (Certified c) = c
reply_certificate Uncertified = without

unfoldable pub certificate_shown : Result Reply Refusal → Certificate
certificate_shown (Err x) = without
certificate_shown (Ok reply) = reply_certificate reply
