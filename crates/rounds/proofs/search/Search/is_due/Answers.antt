-- `Search::is_due` meets its contract: it asks in the order of the definition. Assumes nothing.
use mathlib.Core.Path.{sym, ◌∙◌}
use Rattle.striking.specs.System.{due}
use Rattle.plane.proofs.Laws.Tells.{cond_yes, cond_no}
use Rattle.certificates.proofs.Pairs.{inner_at}
use Rattle.rounds.proofs.search.Search.is_due.Goals as goal

pub returns-then-remains : goal.returns-then-remains
unfolding due
returns-then-remains c = record {
  due =
      c.is_inner.ensures.inner ∙ sym (inner_at _ _ _ c.requires.pair) ∙
      sym (cond_yes _ _ (sym c.remains.ensures.remains ∙ c.if-remains.true));
}

pub returns-else-remains : goal.returns-else-remains
unfolding due
returns-else-remains c = record {
  due = c.if-remains.false ∙ sym (cond_no _ _ (sym c.remains.ensures.remains ∙ c.if-remains.false));
}
