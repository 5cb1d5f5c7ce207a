-- What each function of include/skeleton.h answers: the number that it returns, and what it leaves in each lent buffer.
--   version                    the version of the interface
--   Told, told number numbers  a reply: the status number, and the numbers for the result buffer
--   returned result x          the number returned, where the reply is x and the result buffer holds `result`
--   written result x           the result buffer on return
--   search_reply, certificate_reply, pair_reply, longest_budget_reply  the reply of each function
--   search_status              the status buffer when the search returns
--   longest_budget n           the longest budget that a plate of n marks can need
use Rattle.std.specs.Prelude.{Bool, false, cond, Result, Ok, Err, List, [], ◌∷◌, ◌++◌, ℕ, ◌+◌, ◌*◌, ◌/◌, ltb, ℤ, length, drop}
use Rattle.pairs.specs.Pairs.{pair_count, pair_number}
use Rattle.refusals.specs.declared.Refusal.{Refusal}
use Rattle.refusals.specs.Check.{shown}
use Rattle.certificates.specs.declared.certificate.Certificate.{Certificate}
use Rattle.skeleton.specs.declared.request.Reply.{Reply}
use Rattle.skeleton.specs.declared.request.Reply.TheVariants.{Hull, NotEmpty, Certified, Uncertified}
use Rattle.skeleton.specs.declared.search.Outcome.{Outcome}
use Rattle.skeleton.specs.declared.search.Outcome.TheVariants.{Done, Paused}
use Rattle.skeleton.specs.Answers.{answer_of, outcome_of, status_after, shown_reply, shown_outcome, certificate_shown}

abbrev pub version : ℕ
version = 1

-- ---- a reply, and how it reaches the caller
pub record Told : Type 0 where
  pub number : ℕ
  pub numbers : List ℕ

abbrev pub told : ℕ → List ℕ → Told
told number numbers = record { number = number; numbers = numbers }

-- 100: the result buffer is shorter than the reply
unfoldable pub returned : List ℕ → Told → ℕ
returned result x = cond (ltb (length result) (length x.numbers)) 100 x.number

-- The numbers stand at its start, and what stands behind stays; a buffer that is too short is left as it is.
unfoldable pub written : List ℕ → Told → List ℕ
written result x =
    cond (ltb (length result) (length x.numbers)) result (x.numbers ++ drop (length x.numbers) result)

-- ---- the search: 0 done or 1 paused, and the examinations; of a refusal its detail, and 0
unfoldable pub outcome_numbers : Result Outcome Refusal → List ℕ
outcome_numbers (Ok (Done e)) = 0 ∷ e ∷ []
outcome_numbers (Ok (Paused e)) = 1 ∷ e ∷ []
outcome_numbers (Err x) = (shown x).detail ∷ 0 ∷ []

abbrev pub outcome_reply : Result Outcome Refusal → Told
outcome_reply o = told (shown_outcome o).number (outcome_numbers o)

unfoldable pub search_reply : List ℤ → List ℕ → ℕ → Told
search_reply m st budget = outcome_reply (outcome_of m st budget)

-- Where the result buffer is too short there is no search.
unfoldable pub search_status : List ℕ → List ℤ → List ℕ → ℕ → List ℕ
search_status result m st budget = cond (ltb (length result) 2) st (status_after m st budget)

-- ---- the certificate request: first 0 hull, 1 not empty, 2 certified or 3 none, and of a refusal its detail; then the certificate's apexes
-- r and s and the numbers of its sides pr, qr, ps, qs. These six are 0 unless the pair is certified (`certificate_shown` of skeleton's Answers.antt)
unfoldable pub reply_first : Result Reply Refusal → ℕ
reply_first (Ok Hull) = 0
reply_first (Ok NotEmpty) = 1
reply_first (Ok (Certified c)) = 2
reply_first (Ok Uncertified) = 3
reply_first (Err x) = (shown x).detail

unfoldable pub certificate_numbers : ℕ → Certificate → List ℕ
certificate_numbers first c = first ∷ c.r ∷ c.s ∷ c.sides

abbrev pub answer_reply : Result Reply Refusal → Told
answer_reply x = told (shown_reply x).number (certificate_numbers (reply_first x) (certificate_shown x))

unfoldable pub certificate_reply : List ℤ → List ℕ → ℕ → ℕ → Told
certificate_reply m st a b = answer_reply (answer_of m st a b)

-- ---- the number of a pair of marks, of which there are at most 128; 101 if it is none
unfoldable pub is_pair : ℕ → ℕ → Bool
is_pair a b = cond (ltb a b) (ltb b 128) false

unfoldable pub pair_reply : ℕ → ℕ → Told
pair_reply a b = cond (is_pair a b) (told 0 (pair_number a b ∷ [])) (told 101 (0 ∷ []))

-- ---- "With m inner edges a search ends within m(m+1)/2 examinations", and n marks have at most n(n-1)/2 inner edges
unfoldable pub longest_budget : ℕ → ℕ
longest_budget n = pair_count n * (pair_count n + 1) / 2

-- 2: "more than 128 marks", detail n
unfoldable pub longest_budget_reply : ℕ → Told
longest_budget_reply n = cond (ltb 128 n) (told 2 (n ∷ [])) (told 0 (longest_budget n ∷ []))
