-- `edge::dot` meets its contract: each difference is at most 20,000 from 0, each product 400,000,000, the whole 800,000,000. Assumes nothing.
use mathlib.Core.Path.{◌∙◌}
use Rattle.plane.specs.Edge.{dot}
use Rattle.plane.proofs.Laws.Bounds.{gap, gap_fits, mul_reads, mul_fits, add_reads, add_fits}
use Rattle.plane.proofs.edge.dot.Goals as goal

pub overflow_sub-result : goal.overflow_sub-result
overflow_sub-result c = gap_fits c.a.invariant.near_x c.k.invariant.near_x

pub overflow_sub-result-2 : goal.overflow_sub-result-2
overflow_sub-result-2 c = gap_fits c.b.invariant.near_x c.k.invariant.near_x

pub overflow_mul-result : goal.overflow_mul-result
overflow_mul-result c =
    let k = c.k.invariant in
    mul_fits (gap c.a.invariant.near_x k.near_x) (gap c.b.invariant.near_x k.near_x) tt

pub overflow_sub-result-3 : goal.overflow_sub-result-3
overflow_sub-result-3 c = gap_fits c.a.invariant.near_y c.k.invariant.near_y

pub overflow_sub-result-4 : goal.overflow_sub-result-4
overflow_sub-result-4 c = gap_fits c.b.invariant.near_y c.k.invariant.near_y

pub overflow_mul-result-2 : goal.overflow_mul-result-2
overflow_mul-result-2 c =
    let k = c.k.invariant in
    mul_fits (gap c.a.invariant.near_y k.near_y) (gap c.b.invariant.near_y k.near_y) tt

pub overflow_add-result : goal.overflow_add-result
overflow_add-result c =
    let k = c.k.invariant in
    let a = c.a.invariant in
    let b = c.b.invariant in
    add_fits (mul_reads (gap a.near_x k.near_x) (gap b.near_x k.near_x) tt)
    (mul_reads (gap a.near_y k.near_y) (gap b.near_y k.near_y) tt) tt

pub returns : goal.returns
unfolding dot
returns c =
    let k = c.k.invariant in
    let a = c.a.invariant in
    let b = c.b.invariant in
    record {
      product =
          (add_reads (mul_reads (gap a.near_x k.near_x) (gap b.near_x k.near_x) tt)
          (mul_reads (gap a.near_y k.near_y) (gap b.near_y k.near_y) tt) tt).reads ∙
          (λ i. dot (c.k.view_is i) (c.a.view_is i) (c.b.view_is i));
    }
