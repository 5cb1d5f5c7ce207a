-- The search, step by step: an examination, a pair's turn, a round, the rounds, the result. Throughout, `e` is the number of
-- examinations made, and `st` has a byte a pair for what remains.
use Rattle.std.specs.Prelude.{Bool, true, false, List, ℕ, zero, suc, ◌+◌, ltb, get_or, set, replicate}
use Rattle.striking.specs.System.{System, crossed, due}
use Rattle.striking.specs.Status.{remaining, all_edges, statuses}

-- how a search ends: done, paused, or with answer 8 and its pair number
pub data Outcome : Type 0 where
  done : Outcome
  paused : Outcome
  answer8 : ℕ → Outcome

-- the outcome is answer 8
unfoldable pub is_answer8 : Outcome → Bool
is_answer8 done = false
is_answer8 paused = false
is_answer8 (answer8 i) = true

-- the end of a search: its outcome, the examinations made, and what remains
pub record Final : Type 0 where
  pub outcome : Outcome
  pub examinations : ℕ
  pub rest : List ℕ

-- a round under way: whether it has struck something, the examinations made, and what remains; or the search is over
pub data State : Type 0 where
  going : Bool → ℕ → List ℕ → State
  over : Final → State

-- "Examining an edge asks for a certificate in the remaining set as it is at that moment. With one, the edge stays. Without one,
-- and if some remaining edge crosses it, it is struck at once. Without one and crossed by nothing remaining, the search ends with
-- answer 8." "Each examination costs one of the budget."
unfoldable pub examine : System → Bool → ℕ → List ℕ → ℕ → State
examine y struck e st i =
    elim (y.vouched (remaining st) i) [
      | true ↦ going struck (e + 1) st
      | false ↦
          elim (crossed y (remaining st) i) [
            | true ↦ going true (e + 1) (set st i 0)
            | false ↦ over (record { outcome = answer8 i; examinations = e + 1; rest = st })
          ]
    ]

-- the turn of pair i in a round: it is examined if it is an inner edge that remains. "The search pauses when an examination is
-- due and the budget is spent."
unfoldable pub visit : System → ℕ → ℕ → State → State
visit y budget i (over h) = over h
visit y budget i (going struck e st) =
    elim (due y (remaining st) i) [
      | false ↦ going struck e st
      | true ↦
          elim (ltb e budget) [
            | true ↦ examine y struck e st i
            | false ↦ over (record { outcome = paused; examinations = e; rest = st })
          ]
    ]

-- "A round goes through the inner edges that remain, in pair order": the turns of the pairs below k
unfoldable pub visits : System → ℕ → ℕ → State → State
visits y budget zero s = s
visits y budget (suc k) s = visit y budget k (visits y budget k s)

-- "A round that struck something is followed by another; a round that struck nothing, or had no edge to examine, ends the
-- search." At most `fuel` rounds: each that is followed by another cost an examination, so that fuel beyond the budget never runs
-- out.
unfoldable pub rounds : System → ℕ → ℕ → ℕ → List ℕ → Final
rounds y budget zero e st = record { outcome = paused; examinations = e; rest = st }
rounds y budget (suc fuel) e st =
    elim (visits y budget y.size (going false e st)) [
      | over h ↦ h
      | going struck e' st' ↦
          elim struck [
            | true ↦ rounds y budget fuel e' st'
            | false ↦ record { outcome = done; examinations = e'; rest = st' }
          ]
    ]

-- the search from a set, where e examinations were made before
unfoldable pub search_from : System → ℕ → ℕ → List ℕ → Final
search_from y budget e st = rounds y budget (suc budget) e st

-- the search from all empty edges
unfoldable pub run : System → ℕ → Final
run y budget = search_from y budget 0 (all_edges y)

-- the set that remains where the search ends
abbrev pub remaining_set : System → ℕ → ℕ → Bool
remaining_set y budget = remaining (run y budget).rest

-- what the caller is given: the outcome, the examinations made, and every byte of the status buffer
pub record Result : Type 0 where
  pub outcome : Outcome
  pub examinations : ℕ
  pub status : List ℕ

-- "At a pause or at the end" the status of each pair. "After 8 every byte of it is 255."
unfoldable pub bytes_at : System → Outcome → List ℕ → List ℕ
bytes_at y done st = statuses y (remaining st)
bytes_at y paused st = statuses y (remaining st)
bytes_at y (answer8 i) st = replicate y.size 255

-- what the end of a search tells the caller
unfoldable pub report : System → Final → Result
report y h = record { outcome = h.outcome; examinations = h.examinations; status = bytes_at y h.outcome h.rest }

-- the search, as its caller sees it
unfoldable pub search_result : System → ℕ → Result
search_result y budget = report y (run y budget)

-- the status byte of pair i
abbrev pub byte : Result → ℕ → ℕ
byte r i = get_or r.status i 0
