-- `request::certify_inner` meets its contract: 8128 bytes have room for the pairs of every plate, and each end of the search for a
-- certificate has its answer. Assumes nothing.
use mathlib.Core.Path.{◌≡◌, sym, ap, ◌∙◌}
use native.Mathlib.Omega.{arith}
use Prim.Native.Nat.{ℕ, ◌≤◌}
use lib.ListN.{length, take, replicate, length-replicate}
use lib.Seq.{length-take-le}
use Rattle.plane.specs.Marks.{count}
use Rattle.pairs.specs.Pairs.{pair_count}
use Rattle.pairs.proofs.Laws.{pair_count_small}
use Rattle.certificates.specs.declared.certificate.Certificate.{Certificate}
use Rattle.skeleton.specs.declared.request.Reply.TheVariants.{Certified}
use Rattle.skeleton.specs.Answers.{answer_with}
use Rattle.skeleton.proofs.Asked.{apexes_apart}
use Rattle.skeleton.proofs.request.certify_inner.Goals as goal
use Rattle.skeleton.proofs.request.certify_inner.Goals.{After-pair_count}

room : (k : ℕ) → k ≤ 8128 → length (take k (replicate {A = ℕ} 8128 0)) ≡ k
room k l = length-take-le k (replicate 8128 0) (rw (length-replicate {A = ℕ} 8128 0) l)

-- how many pairs the plate has
many : (c : After-pair_count) → c.pair_count.result ≡ pair_count (count c.args.m.now)
many c = c.pair_count.ensures.counted ∙ ap pair_count c.count.ensures.counted

few : (c : After-pair_count) → c.pair_count.result ≤ 8128
few c = let e = many c in let l = pair_count_small (count c.args.m.now) c.count.ensures.plate.few in omega (arith, e, l)

pub slice_bounds-own-end : goal.slice_bounds-own-end
slice_bounds-own-end c = few (goal.at.slice_bounds-own-end c).After-pair_count

pub certificate_with-requires-clause-own_len : goal.certificate_with-requires-clause-own_len
certificate_with-requires-clause-own_len c =
    let at = (goal.at.certificate_with-requires-clause-own_len c).After-pair_count in
    room _ (few at) ∙ many at

pub certificate_of-requires-clause-r_apart : goal.certificate_of-requires-clause-r_apart
certificate_of-requires-clause-r_apart c =
    (apexes_apart _ _ _ _ c.count.ensures.plate.few c.requires.pair.up c.requires.pair.marks (sym c.certificate_with.ensures.first ∙ c.in-Some.is)).0

pub certificate_of-requires-clause-s_apart : goal.certificate_of-requires-clause-s_apart
certificate_of-requires-clause-s_apart c =
    (apexes_apart _ _ _ _ c.count.ensures.plate.few c.requires.pair.up c.requires.pair.marks (sym c.certificate_with.ensures.first ∙ c.in-Some.is)).1

pub returns-in-None : goal.returns-in-None
unfolding answer_with
returns-in-None c = record {
  answered = sym (ap (answer_with c.args.a c.args.b) (sym c.certificate_with.ensures.first ∙ c.in-None.is));
}

pub returns-in-Some : goal.returns-in-Some
unfolding answer_with
returns-in-Some c = record {
  answered =
      ap (λ (x : Certificate). Certified x) c.certificate_of.ensures.kept ∙
      sym (ap (answer_with c.args.a c.args.b) (sym c.certificate_with.ensures.first ∙ c.in-Some.is));
}
