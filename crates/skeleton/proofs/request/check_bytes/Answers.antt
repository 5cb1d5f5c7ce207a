-- `request::check_bytes` meets its contract. Assumes nothing.
use mathlib.Core.Path.{sym, ap, ◌∙◌}
use Prim.Native.Nat.{ℕ}
use borrow.Author.Tests.{lt-ltb, le-ltb}
use Rattle.std.specs.Prelude.{Err}
use Rattle.refusals.specs.declared.Refusal.TheVariants.{ByteAboveTwo}
use Rattle.refusals.proofs.First.{found_some, found_past}
use Rattle.skeleton.specs.Answers.{byte_row}
use Rattle.plane.proofs.Laws.Tells.{cond_yes, cond_no}
use Rattle.skeleton.proofs.request.check_bytes.Goals as goal

pub returns-in-Some : goal.returns-in-Some
unfolding byte_row
returns-in-Some c =
    let k = found_some (sym c.in-Some.is ∙ c.first_above.ensures.first) in
    record { answered = ap (λ (k : ℕ). Err (ByteAboveTwo k)) k.0 ∙ sym (cond_yes _ _ (lt-ltb _ _ k.1)) }

pub returns-in-None : goal.returns-in-None
unfolding byte_row
returns-in-None c = record {
  answered = sym (cond_no _ _ (le-ltb _ _ (found_past (sym c.in-None.is ∙ c.first_above.ensures.first))));
}
