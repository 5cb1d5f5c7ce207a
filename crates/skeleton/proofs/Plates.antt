-- Certificate requests on worked plates: one table, and one statement over it, which the checker computes. The searches are in crates/plates.
-- Assumes nothing.
use mathlib.Core.Bool.{Bool, true, false, cond}
use mathlib.Core.List.{List, [], ◌∷◌}
use Prim.Native.Nat.{ℕ}
use lib.Dec.{T, eqb}
use lib.IntN.{ℤ, pos, negsuc}
use Rattle.std.specs.Prelude.{Result, Ok, Err}
use Rattle.refusals.specs.declared.Refusal.{Refusal}
use Rattle.refusals.specs.declared.Refusal.TheVariants.{BufferLength, ByteAboveTwo, NotAPair}
use Rattle.plane.specs.Numbers.{all_to, first_so_far, first_to}
use Rattle.plane.specs.Marks.{mark, same_number, same_point}
use Rattle.pairs.specs.Pairs.{pair_of}
use Rattle.plane.specs.Side.{area2, is_left, is_right, is_on, opposite}
use Rattle.plane.specs.Weight.{weight}
use Rattle.plane.specs.Edge.{dot, between, on_segment, clear, empty_edge}
use Rattle.plane.specs.Cross.{crosses}
use Rattle.plane.specs.Hull.{not_left, not_right, one_sided, hull_edge}
use Rattle.plane.specs.Triangle.{inside, outside, hollow, empty_triangle}
use Rattle.refusals.specs.Check.{in_range, is_out, first_out, differs, has_twin, first_twin, shown, verdict}
use Rattle.striking.specs.Status.{remaining}
use Rattle.skeleton.specs.declared.request.Reply.{Reply}
use Rattle.skeleton.specs.declared.request.Reply.TheVariants.{Hull, NotEmpty, Certified, Uncertified}
use Rattle.certificates.specs.Certificate.{joined, holds_against, apex, left_apex, right_apex, fits, first_pick, pick_fitting, pick_right, first_certificate, certificate_of}
use Rattle.certificates.specs.Plate.{pairs_of, edges_of}
use Rattle.skeleton.specs.Answers.{or_else, buffer_row, is_above, first_above, byte_row, pair_row, search_refusal, request_refusal, answer_with, answer_in, unless_refused, answer_of, reply_certificate, certificate_shown}

-- ---- equal results
unfoldable pub same_list : List ℕ → List ℕ → Bool
same_list [] [] = true
same_list [] (y ∷ ys) = false
same_list (x ∷ xs) [] = false
same_list (x ∷ xs) (y ∷ ys) = elim (eqb x y) [ true ↦ same_list xs ys | false ↦ false ]

-- a result as a list of numbers: its kind, and what it holds
unfoldable pub reply_numbers : Reply → List ℕ
reply_numbers Hull = 10 ∷ []
reply_numbers NotEmpty = 11 ∷ []
reply_numbers (Certified c) = 12 ∷ c.r ∷ c.s ∷ c.sides
reply_numbers Uncertified = 13 ∷ []

unfoldable pub answer_numbers : Result Reply Refusal → List ℕ
answer_numbers (Err x) = (shown x).number ∷ (shown x).detail ∷ []
answer_numbers (Ok reply) = reply_numbers reply

-- ---- the plates of 01
abbrev three : List ℤ
three = pos 0 ∷ pos 0 ∷ pos 1 ∷ pos 0 ∷ pos 2 ∷ pos 0 ∷ []

abbrev kite : List ℤ
kite = negsuc 2 ∷ pos 0 ∷ pos 0 ∷ negsuc 0 ∷ pos 3 ∷ pos 0 ∷ pos 0 ∷ pos 1 ∷ []

-- ---- requests: marks, status bytes, the pair; the answer, and the two apexes and four sides of the certificate that is told with it
pub record Requested : Type 0 where
  pub marks : List ℤ
  pub status : List ℕ
  pub a : ℕ
  pub b : ℕ
  pub answer : Result Reply Refusal
  pub certificate : List ℕ

abbrev ask : List ℤ → List ℕ → ℕ → ℕ → Result Reply Refusal → List ℕ → Requested
ask m st a b x c = record { marks = m; status = st; a = a; b = b; answer = x; certificate = c }

-- the numbers of the certificate that is told with an answer
abbrev told_numbers : Result Reply Refusal → List ℕ
told_numbers x = let c = certificate_shown x in c.r ∷ c.s ∷ c.sides

unfoldable pub is_answered : Requested → Result Reply Refusal → Bool
is_answered q x = cond (same_list (answer_numbers x) (answer_numbers q.answer)) (same_list (told_numbers x) q.certificate) false

unfoldable pub all_answered : List Requested → Bool
all_answered [] = true
all_answered (q ∷ qs) =
    elim (is_answered q (answer_of q.marks q.status q.a q.b)) [ true ↦ all_answered qs | false ↦ false ]

abbrev diagonal : Reply
diagonal = Certified (record { r = 0; s = 2; sides = 0 ∷ 3 ∷ 2 ∷ 5 ∷ [] })

abbrev zeros : List ℕ
zeros = 0 ∷ 0 ∷ 0 ∷ 0 ∷ 0 ∷ 0 ∷ []

-- The kite: the diagonal that holds, with its own byte 1 and 0 and with a side struck; the other diagonal; a hull edge; rows 6, 7
-- and 5. Then a pair that is not empty.
unfoldable pub requested : List Requested
requested =
    ask kite (2 ∷ 1 ∷ 2 ∷ 2 ∷ 1 ∷ 2 ∷ []) 1 3 (Ok diagonal) (0 ∷ 2 ∷ 0 ∷ 3 ∷ 2 ∷ 5 ∷ []) ∷
    ask kite (2 ∷ 1 ∷ 2 ∷ 2 ∷ 0 ∷ 2 ∷ []) 1 3 (Ok diagonal) (0 ∷ 2 ∷ 0 ∷ 3 ∷ 2 ∷ 5 ∷ []) ∷
    ask kite (2 ∷ 1 ∷ 0 ∷ 2 ∷ 1 ∷ 2 ∷ []) 1 3 (Ok Uncertified) zeros ∷
    ask kite (2 ∷ 1 ∷ 2 ∷ 2 ∷ 1 ∷ 2 ∷ []) 0 2 (Ok Uncertified) zeros ∷
    ask kite (2 ∷ 1 ∷ 2 ∷ 2 ∷ 1 ∷ 2 ∷ []) 0 3 (Ok Hull) zeros ∷
    ask kite (2 ∷ 3 ∷ 2 ∷ 2 ∷ 4 ∷ 2 ∷ []) 3 3 (Err (ByteAboveTwo 1)) zeros ∷
    ask kite (2 ∷ 1 ∷ 2 ∷ 2 ∷ 1 ∷ 2 ∷ []) 3 3 (Err NotAPair) zeros ∷
    ask kite (2 ∷ 1 ∷ 2 ∷ 2 ∷ 9 ∷ []) 3 3 (Err (BufferLength 6)) zeros ∷
    ask three (2 ∷ 0 ∷ 2 ∷ []) 0 2 (Ok NotEmpty) zeros ∷
    []

pub requests_right : T (all_answered requested)
unfolding shown all_to first_so_far first_to mark same_number same_point pair_of area2 is_left is_right is_on opposite weight dot between on_segment clear empty_edge crosses not_left not_right one_sided hull_edge inside outside hollow empty_triangle in_range is_out first_out differs has_twin first_twin verdict remaining joined holds_against apex left_apex right_apex fits first_pick pick_fitting pick_right first_certificate certificate_of pairs_of edges_of or_else buffer_row is_above first_above byte_row pair_row search_refusal request_refusal answer_with answer_in unless_refused answer_of reply_certificate certificate_shown same_list reply_numbers answer_numbers is_answered all_answered requested
requests_right = tt
