-- `weight::weight` meets its contract: each difference is at most 20,000 from 0, each square 400,000,000, the whole 800,000,000. Assumes nothing.
use mathlib.Core.Path.{◌∙◌, ap₂}
use Rattle.plane.specs.Weight.{weight}
use Rattle.plane.proofs.Laws.Bounds.{gap, gap_fits, mul_reads, mul_fits, add_reads, add_fits}
use Rattle.plane.proofs.weight.weight.Goals as goal

pub overflow_sub-dx : goal.overflow_sub-dx
overflow_sub-dx c = gap_fits c.b.invariant.near_x c.a.invariant.near_x

pub overflow_sub-dy : goal.overflow_sub-dy
overflow_sub-dy c = gap_fits c.b.invariant.near_y c.a.invariant.near_y

pub overflow_mul-result : goal.overflow_mul-result
overflow_mul-result c =
    let a = c.a.invariant in
    let b = c.b.invariant in
    mul_fits (gap b.near_x a.near_x) (gap b.near_x a.near_x) tt

pub overflow_mul-result-2 : goal.overflow_mul-result-2
overflow_mul-result-2 c =
    let a = c.a.invariant in
    let b = c.b.invariant in
    mul_fits (gap b.near_y a.near_y) (gap b.near_y a.near_y) tt

pub overflow_add-result : goal.overflow_add-result
overflow_add-result c =
    let a = c.a.invariant in
    let b = c.b.invariant in
    add_fits (mul_reads (gap b.near_x a.near_x) (gap b.near_x a.near_x) tt)
    (mul_reads (gap b.near_y a.near_y) (gap b.near_y a.near_y) tt) tt

pub returns : goal.returns
unfolding weight
returns c =
    let a = c.a.invariant in
    let b = c.b.invariant in
    record {
      weighed =
          (add_reads (mul_reads (gap b.near_x a.near_x) (gap b.near_x a.near_x) tt)
          (mul_reads (gap b.near_y a.near_y) (gap b.near_y a.near_y) tt) tt).reads ∙ ap₂ weight c.a.view_is c.b.view_is;
    }
