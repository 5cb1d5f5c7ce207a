-- `rounds::status_byte` meets its contract: it asks in the order of the definition. Assumes nothing.
use mathlib.Core.Path.{◌≡◌, sym, ap, ◌∙◌}
use Prim.Native.Nat.{ℕ}
use lib.ListN.{get_or}
use Rattle.pairs.specs.Pairs.{pair_number}
use Rattle.striking.specs.System.{crossed}
use Rattle.striking.specs.Status.{remaining, status_byte}
use Rattle.striking.proofs.Remaining.{remaining_not, remaining_yes}
use Rattle.plane.proofs.Laws.Tells.{cond_yes, cond_no}
use Rattle.certificates.specs.Edges.{EdgeSet}
use Rattle.certificates.specs.Plate.{plate}
use Rattle.rounds.proofs.status_byte.Goals as goal
use Rattle.rounds.proofs.status_byte.Goals.{After-pair_number, After-is_crossed}

asked :
    (c : After-is_crossed) →
    c.is_crossed.result ≡ crossed (plate c.args.lefts.now) (remaining c.args.st.now) (pair_number c.args.p.a c.args.p.b)
asked c =
    c.is_crossed.ensures.crossed ∙
    ap (λ (e : EdgeSet). crossed (plate e.marks) (remaining e.statuses) (pair_number c.args.p.a c.args.p.b)) c.new.ensures

-- the byte that is read is the pair's
byte : (c : After-pair_number) → get_or c.args.st.now c.pair_number.result 0 ≡ get_or c.args.st.now (pair_number c.args.p.a c.args.p.b) 0
byte c = ap (λ (i : ℕ). get_or c.args.st.now i 0) c.pair_number.ensures.numbered

pub returns-then-st-pair_number-eq0 : goal.returns-then-st-pair_number-eq0
unfolding status_byte
returns-then-st-pair_number-eq0 c =
    let e = byte (goal.at.returns-then-st-pair_number-eq0 c).After-pair_number in
    record { status = sym (cond_no _ _ (remaining_not _ _ (sym e ∙ c.if-st-pair_number-eq0.true))) }

pub returns-then-is_crossed : goal.returns-then-is_crossed
unfolding status_byte
returns-then-is_crossed c =
    let at = goal.at.returns-then-is_crossed c in
    record {
      status =
          sym (cond_yes _ _ (remaining_yes _ _ (λ z. c.if-st-pair_number-eq0.false (byte at.After-pair_number ∙ z))) ∙
          cond_yes _ _ (sym (asked at.After-is_crossed) ∙ c.if-is_crossed.true));
    }

pub returns : goal.returns
unfolding status_byte
returns c =
    let at = goal.at.returns c in
    record {
      status =
          sym (cond_yes _ _ (remaining_yes _ _ (λ z. c.if-st-pair_number-eq0.false (byte at.After-pair_number ∙ z))) ∙
          cond_no _ _ (sym (asked at.After-is_crossed) ∙ c.if-is_crossed.false));
    }
