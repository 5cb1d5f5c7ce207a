-- `search::finish` meets its contract: each case is told as the search has it. Assumes nothing.
use mathlib.Core.Path.{sym, ap, ◌∙◌}
use Prim.Native.Nat.{ℕ}
use lib.ListN.{replicate}
use Rattle.striking.specs.Search.{Outcome, bytes_at}
use Rattle.rounds.specs.declared.search.Halt.{Halt}
use Rattle.certificates.specs.Plate.{plate}
use Rattle.skeleton.specs.Answers.{told}
use Rattle.rounds.specs.Run.{outcome_by}
use Rattle.rounds.specs.Search.{marks, remains}
use Rattle.rounds.proofs.Turns.{paused_by}
use Rattle.skeleton.proofs.search.finish.Goals as goal

pub returns-in-Stuck : goal.returns-in-Stuck
unfolding told outcome_by bytes_at plate
returns-in-Stuck c =
    let s = c.args.search.now in
    record {
      outcome = sym (ap (λ (x : Halt). told (outcome_by x) c.args.run.exams) c.in-Stuck.is);
      status =
          c.blank.ensures.blank ∙ ap (λ (n : ℕ). replicate n 255) c.requires.long ∙
          sym (ap (λ (x : Halt). bytes_at (plate (marks s)) (outcome_by x) (remains s)) c.in-Stuck.is);
      place = c.blank.ensures.place;
    }

pub returns-in-Finished : goal.returns-in-Finished
unfolding told outcome_by bytes_at
returns-in-Finished c =
    let s = c.args.search.now in
    record {
      outcome = sym (ap (λ (x : Halt). told (outcome_by x) c.args.run.exams) c.in-Finished.is);
      status =
          c.show.ensures.shown ∙
          sym (ap (λ (x : Halt). bytes_at (plate (marks s)) (outcome_by x) (remains s)) c.in-Finished.is);
      place = c.show.ensures.place;
    }

pub returns : goal.returns
unfolding told bytes_at
returns c =
    let s = c.args.search.now in
    let g = paused_by _ c.in_default.not-Stuck c.in_default-halt.not-Finished in
    record {
      outcome = sym (ap (λ (x : Outcome). told x c.args.run.exams) g);
      status = c.show.ensures.shown ∙ sym (ap (λ (x : Outcome). bytes_at (plate (marks s)) x (remains s)) g);
      place = c.show.ensures.place;
    }
