-- The worked plates: one statement over the whole table, which the checker computes, and the fact at each row. Assumes nothing.
use mathlib.Core.Bool.{Bool, true, false}
use mathlib.Core.List.{List, [], ◌∷◌}
use Prim.Native.Nat.{ℕ, ◌<◌}
use lib.Dec.{eqb}
use Rattle.plane.specs.Numbers.{all_to, first_so_far, first_to}
use Rattle.plane.specs.Marks.{mark, same_number, same_point}
use Rattle.pairs.specs.Pairs.{pair_of, next_pair, pair_at}
use Rattle.plane.specs.Side.{area2, is_left, is_right, is_on, opposite}
use Rattle.plane.specs.Weight.{weight}
use Rattle.plane.specs.Edge.{dot, between, on_segment, clear, empty_edge}
use Rattle.plane.specs.Cross.{crosses}
use Rattle.plane.specs.Hull.{not_left, not_right, one_sided, hull_edge, inner_edge}
use Rattle.plane.specs.Triangle.{inside, outside, hollow, empty_triangle}
use Rattle.refusals.specs.Check.{in_range, is_out, first_out, differs, has_twin, first_twin, verdict}
use Rattle.striking.specs.Below.{any_below, list_below}
use Rattle.striking.specs.System.{crossed, due}
use Rattle.striking.specs.Status.{remaining, all_edges, status_byte, statuses}
use Rattle.striking.specs.Search.{examine, visit, visits, rounds, search_from, run, bytes_at, report, search_result}
use Rattle.std.specs.Prelude.{Result, Ok, Err}
use Rattle.refusals.specs.declared.Refusal.{Refusal}
use Rattle.skeleton.specs.declared.search.Outcome.{Outcome}
use Rattle.skeleton.specs.declared.search.Outcome.TheVariants.{Done, Paused}
use Rattle.certificates.specs.Certificate.{joined, holds_against, apex, left_apex, right_apex, fits, first_pick, pick_fitting, pick_right, first_certificate}
use Rattle.certificates.specs.Plate.{pairs_of, edges_of, is_pair, empty_pair, inner_pair, cross_pairs, certified, plate}
use Rattle.skeleton.specs.Answers.{or_else, buffer_row, search_refusal, told, outcome_after, outcome_of, bytes_after, status_after}
use mathlib.Core.Path.{◌≡◌, refl, ap, ap₂}
use borrow.Author.Tests.{eqb-true}
use Rattle.striking.proofs.Tests.{both_first, both_second, not_both}
use Rattle.plane.proofs.Laws.Numbers.{all_no}
use Rattle.plates.specs.Plates.{table, coordinates, number_at, marks_at, budget_at, outcome_at, status_at, lent_at, same_outcome, same_list, right_at}

-- the search gives every row's result
pub all_right : all_to 13 right_at ≡ true
unfolding all_to first_so_far first_to mark same_number same_point pair_of next_pair pair_at area2 is_left is_right is_on opposite weight dot between on_segment clear empty_edge crosses not_left not_right one_sided hull_edge inner_edge inside outside hollow empty_triangle in_range is_out first_out differs has_twin first_twin verdict any_below list_below crossed due remaining all_edges status_byte statuses examine visit visits rounds search_from run bytes_at report search_result joined holds_against apex left_apex right_apex fits first_pick pick_fitting pick_right first_certificate pairs_of edges_of is_pair empty_pair inner_pair cross_pairs certified plate or_else buffer_row search_refusal told outcome_after outcome_of bytes_after status_after table coordinates number_at marks_at budget_at outcome_at status_at lent_at same_outcome same_list right_at
all_right = refl

-- ---- from the test to the fact at each row
same_outcome_lem : (o p : Result Outcome Refusal) → same_outcome o p ≡ true → o ≡ p
unfolding same_outcome
same_outcome_lem (Err x) p h = not_both h refl
same_outcome_lem (Ok (Done e)) (Err x) h = not_both h refl
same_outcome_lem (Ok (Paused e)) (Err x) h = not_both h refl
same_outcome_lem (Ok (Done e)) (Ok (Done f)) h = ap (λ (k : ℕ). Ok (Done k)) (eqb-true e f h)
same_outcome_lem (Ok (Done e)) (Ok (Paused f)) h = not_both h refl
same_outcome_lem (Ok (Paused e)) (Ok (Done f)) h = not_both h refl
same_outcome_lem (Ok (Paused e)) (Ok (Paused f)) h = ap (λ (k : ℕ). Ok (Paused k)) (eqb-true e f h)

same_list_lem : (xs ys : List ℕ) → same_list xs ys ≡ true → xs ≡ ys
unfolding same_list
same_list_lem [] [] h = refl
same_list_lem [] (y ∷ ys) h = not_both h refl
same_list_lem (x ∷ xs) [] h = not_both h refl
same_list_lem (x ∷ xs) (y ∷ ys) h =
    ap₂ (λ (v : ℕ) (vs : List ℕ). v ∷ vs) (eqb-true x y (both_first (eqb x y) _ h)) (same_list_lem xs ys (both_second (eqb x y) _ h))

row_right : (k : ℕ) → k < 13 → (b : Bool) → right_at k ≡ b → right_at k ≡ true
row_right k l true e = e
row_right k l false e = not_both all_right (all_no right_at k 13 l e)

pub plate_right :
    (k : ℕ) → k < 13 →
    (outcome_of (marks_at k) (lent_at k) (budget_at k) ≡ outcome_at k) × (status_after (marks_at k) (lent_at k) (budget_at k) ≡ status_at k)
unfolding right_at
plate_right k l =
    let r = row_right k l (right_at k) refl in (
      same_outcome_lem _ _ (both_first (same_outcome (outcome_of (marks_at k) (lent_at k) (budget_at k)) (outcome_at k)) _ r),
      same_list_lem _ _ (both_second (same_outcome (outcome_of (marks_at k) (lent_at k) (budget_at k)) (outcome_at k)) _ r),
    )
