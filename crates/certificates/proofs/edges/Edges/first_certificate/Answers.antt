-- `Edges::first_certificate` meets its contract. The invariant of both loops: nothing is found yet, the members of the set are candidates,
-- and every other mark picks nothing. So the first match is the first certificate, and where the left candidates are used up there is none. Assumes nothing.
use mathlib.Core.Path.{refl, sym, ◌∙◌}
use native.Mathlib.Omega.{arith}
use Rattle.sets.proofs.Laws.Pop.{taken, ended}
use Rattle.certificates.specs.Certificate.{first_certificate, pick_right}
use Rattle.certificates.proofs.Open.{open_start, open_at, open_hit, open_end, open_next}
use Rattle.certificates.proofs.Candidates.{candidate_mark, right_mark}
use Rattle.certificates.proofs.Apexes.{Given, left_miss, right_miss, match_no, match_yes}
use Rattle.certificates.proofs.edges.Edges.first_certificate.Goals as goal
use Rattle.certificates.proofs.edges.Edges.first_certificate.Goals.{After-lefts-lefts}

given : (a : After-lefts-lefts) → Given a.args.self.now.marks a.args.p a.args.q
given a =
    let up = a.requires.p_lt_q in
    let q_mark = a.requires.q_is_mark in
    record { plate = a.lefts-lefts.ensures.plate; p_mark = omega arith; q_mark = q_mark; empty = a.requires.empty }

pub search-init : goal.search-init
search-init c =
    let g = given (goal.at.search-init c).After-lefts-lefts in
    (refl, open_start _ _ g.plate.few (c.into_iter-r-iterator.ensures.into_iter_gives ∙ c.candidates-r-items.ensures.found) (left_miss _ _ _ _ g))

pub splits-across-requires-clause-r_bound : goal.splits-across-requires-clause-r_bound
splits-across-requires-clause-r_bound c = (taken c.in-Some.ensures.steps).small

pub right_candidates-s-items-requires-clause-r_bound : goal.right_candidates-s-items-requires-clause-r_bound
right_candidates-s-items-requires-clause-r_bound c = (taken c.in-Some.ensures.steps).small

pub loop-s-init : goal.loop-s-init
loop-s-init c =
    let g = given (goal.at.loop-s-init c).After-lefts-lefts in
    let t = taken c.in-Some.ensures.steps in (
      c.search.invariant.0,
      open_start _ _ g.plate.few (c.into_iter-s-iterator.ensures.into_iter_gives ∙ c.right_candidates-s-items.ensures.found)
          (right_miss _ _ _ _ g _ (open_at c.search.invariant.1 t.first t.small)),
    )

pub is_match-requires-clause-r_is_mark : goal.is_match-requires-clause-r_is_mark
is_match-requires-clause-r_is_mark c =
    let t = taken c.in-Some.ensures.steps in
    candidate_mark _ _ _ _ _ _ _ (open_at c.search.invariant.1 t.first t.small)

pub is_match-requires-clause-s_is_mark : goal.is_match-requires-clause-s_is_mark
is_match-requires-clause-s_is_mark c =
    let t = taken c.in-Some-s.ensures.steps in
    right_mark _ _ _ _ _ _ (open_at c.loop-s.invariant.1 t.first t.small)

pub loop-s-preserved : goal.loop-s-preserved
loop-s-preserved c =
    let g = given (goal.at.loop-s-preserved c).After-lefts-lefts in
    let t = taken c.in-Some.ensures.steps in
    let u = taken c.in-Some-s.ensures.steps in
    let miss =
    match_no _ _ _ _ g _ (open_at c.search.invariant.1 t.first t.small) _ (open_at c.loop-s.invariant.1 u.first u.small)
    (sym c.is_match.ensures.fits ∙ c.if-is_match.false) in
    (c.loop-s.invariant.0, open_next c.loop-s.invariant.1 u.first g.plate.few miss u.rest)

pub search-preserved : goal.search-preserved
unfolding pick_right
search-preserved c =
    let t = taken c.in-Some.ensures.steps in
    let few = c.lefts-lefts.ensures.plate.few in
    let miss = open_end c.loop-s.invariant.1 refl few (ended c.in-None-s.ensures.steps) in
    (c.loop-s.invariant.0, open_next c.search.invariant.1 t.first few miss t.rest)

pub returns-then-is_match : goal.returns-then-is_match
unfolding first_certificate pick_right
returns-then-is_match c =
    let g = given (goal.at.returns-then-is_match c).After-lefts-lefts in
    let t = taken c.in-Some.ensures.steps in
    let u = taken c.in-Some-s.ensures.steps in
    let e = open_at c.search.invariant.1 t.first t.small in
    let h = open_at c.loop-s.invariant.1 u.first u.small in
    let pick = match_yes _ _ _ _ g _ e _ h (sym c.is_match.ensures.fits ∙ c.if-is_match.true) in
    record {
      first =
          sym (open_hit c.search.invariant.1 t.first (candidate_mark _ _ _ _ _ _ _ e)
          (open_hit c.loop-s.invariant.1 u.first (right_mark _ _ _ _ _ _ h) pick));
    }

pub returns-in-None : goal.returns-in-None
unfolding first_certificate
returns-in-None c = record {
  first = c.search.invariant.0 ∙ sym (open_end c.search.invariant.1 refl c.lefts-lefts.ensures.plate.few (ended c.in-None.ensures.steps));
}
