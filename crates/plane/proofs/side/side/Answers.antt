-- `side::side` meets its contract: each difference is at most 20,000 from 0, each product 400,000,000, the whole 800,000,000. Assumes nothing.
use mathlib.Core.Path.{◌∙◌, ap}
use Rattle.plane.specs.Side.{area2, sign, side}
use Rattle.plane.proofs.Laws.Bounds.{gap, gap_fits, mul_reads, mul_fits, sub_reads, sub_fits, back}
use Rattle.plane.proofs.Laws.Asked.{signum_sign}
use Rattle.plane.proofs.side.side.Goals as goal

pub overflow_sub-q-inside : goal.overflow_sub-q-inside
overflow_sub-q-inside c = gap_fits c.q.invariant.near_x c.p.invariant.near_x

pub overflow_sub-r-inside : goal.overflow_sub-r-inside
overflow_sub-r-inside c = gap_fits c.r.invariant.near_y c.p.invariant.near_y

pub overflow_mul-q-inside : goal.overflow_mul-q-inside
overflow_mul-q-inside c =
    let p = c.p.invariant in
    mul_fits (gap c.q.invariant.near_x p.near_x) (gap c.r.invariant.near_y p.near_y) tt

pub overflow_sub-q-inside-2 : goal.overflow_sub-q-inside-2
overflow_sub-q-inside-2 c = gap_fits c.q.invariant.near_y c.p.invariant.near_y

pub overflow_sub-r-inside-2 : goal.overflow_sub-r-inside-2
overflow_sub-r-inside-2 c = gap_fits c.r.invariant.near_x c.p.invariant.near_x

pub overflow_mul-q-inside-2 : goal.overflow_mul-q-inside-2
overflow_mul-q-inside-2 c =
    let p = c.p.invariant in
    mul_fits (gap c.q.invariant.near_y p.near_y) (gap c.r.invariant.near_x p.near_x) tt

pub overflow_sub-q-inside-3 : goal.overflow_sub-q-inside-3
overflow_sub-q-inside-3 c =
    let p = c.p.invariant in
    let q = c.q.invariant in
    let r = c.r.invariant in
    sub_fits (mul_reads (gap q.near_x p.near_x) (gap r.near_y p.near_y) tt)
    (mul_reads (gap q.near_y p.near_y) (gap r.near_x p.near_x) tt) tt

pub returns : goal.returns
unfolding side area2
returns c =
    let p = c.p.invariant in
    let q = c.q.invariant in
    let r = c.r.invariant in
    record {
      sided =
          back (record { sfits = c.signum.type_inv }) ∙ c.signum.ensures.value ∙ signum_sign _ ∙
          ap sign (sub_reads (mul_reads (gap q.near_x p.near_x) (gap r.near_y p.near_y) tt)
          (mul_reads (gap q.near_y p.near_y) (gap r.near_x p.near_x) tt) tt).reads ∙
          (λ i. side (c.p.view_is i) (c.q.view_is i) (c.r.view_is i));
    }
