-- `Search::examine` meets its contract: each way out is a step of the search. Assumes nothing.
use mathlib.Core.Path.{◌≡◌, sym, ap, ◌∙◌}
use mathlib.Core.Bool.{true}
use Prim.Native.Nat.{ℕ, ◌+◌}
use Rattle.pairs.specs.Pairs.{pair_number}
use Rattle.striking.specs.System.{crossed}
use Rattle.striking.specs.Status.{remaining}
use Rattle.striking.specs.Search.{answer8, going, over}
use Rattle.certificates.specs.Certificate.{first_certificate}
use Rattle.certificates.specs.Edges.{EdgeSet}
use Rattle.certificates.specs.Plate.{edges_of, plate}
use Rattle.rounds.specs.Run.{as_state, state_by, as_final, outcome_by}
use Rattle.rounds.specs.Search.{marks, remains}
use Rattle.rounds.proofs.Turns.{state_going, examine_keeps, examine_strikes, examine_stuck}
use Rattle.rounds.proofs.search.Search.examine.Goals as goal
use Rattle.rounds.proofs.search.Search.examine.Goals.{After-is_some, After-is_crossed}

first :
    (c : After-is_some) →
    c.first_certificate.result ≡
    first_certificate (marks c.args.self.now) (edges_of (marks c.args.self.now) (remaining (remains c.args.self.now))) c.args.p.a
    c.args.p.b
first c =
    c.first_certificate.ensures.first ∙
    ap (λ (e : EdgeSet). first_certificate e.marks (edges_of e.marks (remaining e.statuses)) c.args.p.a c.args.p.b) c.edges-edges.ensures

asked :
    (c : After-is_crossed) →
    c.is_crossed.result ≡
    crossed (plate (marks c.args.self.now)) (remaining (remains c.args.self.now)) (pair_number c.args.p.a c.args.p.b)
asked c =
    c.is_crossed.ensures.crossed ∙
    ap (λ (e : EdgeSet). crossed (plate e.marks) (remaining e.statuses) (pair_number c.args.p.a c.args.p.b)) c.edges-edges.ensures

pub returns-then-is_some-clause-examined : goal.returns-then-is_some-clause-examined
returns-then-is_some-clause-examined c =
    state_going c.requires.going ∙
    examine_keeps _ _ _ _ _ _ c.requires.pair.up (first (goal.at.returns-then-is_some-clause-examined c).After-is_some)
    (sym c.is_some.ensures ∙ c.if-is_some.true)

pub returns-then-not-is_crossed-clause-examined : goal.returns-then-not-is_crossed-clause-examined
unfolding as_state state_by as_final outcome_by
returns-then-not-is_crossed-clause-examined c =
    let at = goal.at.returns-then-not-is_crossed-clause-examined c in
    ap (λ (i : ℕ). over (record { outcome = answer8 i; examinations = c.args.run.exams + 1; rest = remains c.args.self.now }))
    c.pair_number.ensures.numbered ∙
    examine_stuck _ _ _ _ _ _ c.requires.pair.up (first at.After-is_some) (sym c.is_some.ensures ∙ c.if-is_some.false)
    (sym (asked at.After-is_crossed) ∙ c.if-not-is_crossed.true)

pub returns-clause-examined : goal.returns-clause-examined
returns-clause-examined c =
    let at = goal.at.returns-clause-examined c in
    state_going c.requires.going ∙ ap (going true (c.args.run.exams + 1)) c.strike.ensures.struck ∙
    examine_strikes _ _ _ _ _ _ c.requires.pair.up (first at.After-is_some) (sym c.is_some.ensures ∙ c.if-is_some.false)
    (sym (asked at.After-is_crossed) ∙ c.if-not-is_crossed.false)
