-- `search::check_buffer` meets its contract. Assumes nothing.
use mathlib.Core.Path.{sym, ◌∙◌, ap}
use Prim.Native.Nat.{ℕ}
use borrow.Author.Tests.{eq-eqb, ne_eqb}
use Rattle.pairs.specs.Pairs.{pair_count}
use Rattle.std.specs.Prelude.{Err}
use Rattle.refusals.specs.declared.Refusal.TheVariants.{BufferLength}
use Rattle.skeleton.specs.Answers.{buffer_row}
use Rattle.plane.proofs.Laws.Tells.{cond_yes, cond_no}
use Rattle.skeleton.proofs.search.check_buffer.Goals as goal

pub returns-then-st-k : goal.returns-then-st-k
unfolding buffer_row
returns-then-st-k c =
    let e = c.pair_count-k.ensures.counted ∙ ap pair_count c.count.ensures.counted in
    record {
      answered =
          ap (λ (k : ℕ). Err (BufferLength k)) e ∙ sym (cond_no _ _ (ne_eqb _ _ (λ q. c.if-st-k.true (q ∙ sym e))));
    }

pub returns : goal.returns
unfolding buffer_row
returns c = record {
  answered =
      sym (cond_yes _ _ (eq-eqb _ _ (c.if-st-k.false ∙ c.pair_count-k.ensures.counted ∙ ap pair_count c.count.ensures.counted)));
}
