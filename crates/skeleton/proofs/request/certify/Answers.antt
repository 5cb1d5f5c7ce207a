-- `request::certify` meets its contract: each kind of pair has its answer. Assumes nothing.
use mathlib.Core.Path.{sym, ◌∙◌}
use Rattle.skeleton.proofs.Asked.{answer_blocked, answer_hull, answer_inner, inner_empty}
use Rattle.skeleton.proofs.request.certify.Goals as goal

pub certify_inner-requires-clause-empty : goal.certify_inner-requires-clause-empty
certify_inner-requires-clause-empty c = inner_empty _ _ _ (sym c.kind_of.ensures.kind ∙ c.in-Inner.is)

pub returns-in-Blocked : goal.returns-in-Blocked
returns-in-Blocked c = record { answered = sym (answer_blocked _ _ _ _ (sym c.kind_of.ensures.kind ∙ c.in-Blocked.is)) }

pub returns-in-Hull : goal.returns-in-Hull
returns-in-Hull c = record { answered = sym (answer_hull _ _ _ _ (sym c.kind_of.ensures.kind ∙ c.in-Hull.is)) }

pub returns-in-Inner : goal.returns-in-Inner
returns-in-Inner c = record {
  answered = c.certify_inner.ensures.answered ∙ sym (answer_inner _ _ _ _ (sym c.kind_of.ensures.kind ∙ c.in-Inner.is));
}
