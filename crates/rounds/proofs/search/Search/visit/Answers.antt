-- `Search::visit` meets its contract: each way out is a turn of the round. Assumes nothing.
use mathlib.Core.Path.{refl, sym, ◌∙◌}
use Rattle.rounds.specs.Run.{as_state, state_by, as_final, outcome_by}
use Rattle.rounds.proofs.Turns.{turn_over, turn_passes, turn_examines, turn_pauses}
use Rattle.rounds.proofs.Readiness.{due_edge}
use Rattle.rounds.proofs.search.Search.visit.Goals as goal

pub returns-in_default : goal.returns-in_default
returns-in_default c = record { visited = turn_over _ _ _ _ _ c.in_default.not-Going; place = refl; ready = c.requires.ready_before }

pub returns-then-not-is_due-clause-visited : goal.returns-then-not-is_due-clause-visited
returns-then-not-is_due-clause-visited c =
    turn_passes _ _ _ _ _ c.in-Going.is (sym c.is_due.ensures.due ∙ c.if-not-is_due.true)

pub examine-requires-clause-empty : goal.examine-requires-clause-empty
examine-requires-clause-empty c =
    due_edge c.requires.ready_before c.requires.pair (sym c.is_due.ensures.due ∙ c.if-not-is_due.false)

pub returns-then-run-budget-clause-visited : goal.returns-then-run-budget-clause-visited
returns-then-run-budget-clause-visited c =
    c.examine.ensures.examined ∙
    turn_examines _ _ _ _ _ c.in-Going.is (sym c.is_due.ensures.due ∙ c.if-not-is_due.false) c.if-run-budget.true

pub returns-clause-visited : goal.returns-clause-visited
unfolding as_state state_by as_final outcome_by
returns-clause-visited c =
    turn_pauses _ _ _ _ _ c.in-Going.is (sym c.is_due.ensures.due ∙ c.if-not-is_due.false) c.if-run-budget.false
