-- How the code's state stands for the search's, for the contracts of this crate. No contract of an entry point mentions it.
--   edge_byte k      the byte with which a pair of kind k starts
--   as_state run st  the round under way
--   as_final run st  the search that is over
--   Ready m st d     the bytes st remain of the plate m, and d are their rows
--   IsGoing run      no end is reached
use Rattle.std.specs.Prelude.{◌≡◌, List, ℕ, ℤ, length}
use Rattle.plane.specs.declared.hull.Kind.{Kind}
use Rattle.plane.specs.declared.hull.Kind.TheVariants.{Blocked, Hull, Inner}
use Rattle.plane.specs.Marks.{count, Plate}
use Rattle.pairs.specs.Pairs.{pair_count}
use Rattle.sets.specs.declared.Set.{Set}
use Rattle.striking.specs.Status.{remaining}
use Rattle.striking.specs.Search.{Outcome, done, paused, answer8, Final, State, going, over}
use Rattle.rounds.specs.declared.search.Halt.{Halt}
use Rattle.rounds.specs.declared.search.Halt.TheVariants.{Going, Finished, Spent, Stuck}
use Rattle.rounds.specs.declared.search.Run.{Run}
use Rattle.certificates.specs.Plate.{edges_of}
use Rattle.certificates.specs.Rows.{Rows, Clean}

unfoldable pub edge_byte : Kind → ℕ
edge_byte Blocked = 0
edge_byte Hull = 1
edge_byte Inner = 1

-- a search that is still going is no end; it is told as paused
unfoldable pub outcome_by : Halt → Outcome
outcome_by Going = paused
outcome_by Finished = done
outcome_by Spent = paused
outcome_by (Stuck i) = answer8 i

unfoldable pub as_final : Run → List ℕ → Final
as_final run st = record { outcome = outcome_by run.halt; examinations = run.exams; rest = st }

unfoldable pub state_by : Halt → Run → List ℕ → State
state_by Going run st = going run.struck run.exams st
state_by Finished run st = over (as_final run st)
state_by Spent run st = over (as_final run st)
state_by (Stuck i) run st = over (as_final run st)

unfoldable pub as_state : Run → List ℕ → State
as_state run st = state_by run.halt run st

pub record Ready (m : List ℤ) (st : List ℕ) (d : List Set) : Type 0 where
  pub accepted : Plate m
  pub long : length st ≡ pair_count (count m)
  pub clean : Clean m st
  pub rows : Rows m (edges_of m (remaining st)) d

-- no end is reached
abbrev pub IsGoing : Run → Type 0
IsGoing run = run.halt ≡ Going
