-- Laws of the pairs' lines, in the shape of the loop that puts them: the next pair's line follows those before it, and has room if all
-- lines have. Assumes nothing.
use mathlib.Core.Path.{◌≡◌, sym, ap, ◌∙◌}
use mathlib.Core.List.{List, ◌++◌}
use Prim.Native.Nat.{ℕ, zero, suc, ◌+◌, ◌≤◌, ◌<◌}
use native.Mathlib.Nat.{le_refl, le_of_suc-le-suc}
use native.Mathlib.Numerals.{add-one}
use native.Mathlib.Decide.{dec_lt}
use native.Mathlib.Omega.{arith}
use lib.ListN.{length, length-append}
use Rattle.pairs.specs.declared.Pair.{Pair}
use Rattle.pairs.specs.Pairs.{pair_count, all_pairs}
use Rattle.pairs.proofs.Turns.{all_pairs_length, Turn, pair_is}
use Rattle.writing.specs.Listing.{pair_text, pair_texts}
use Rattle.writing.specs.Sheet.{Sheet, put, Fits}
use Rattle.writing.proofs.Lines.{pairs_more}
use Rattle.writing.proofs.Sheets.{put_put, rest_put}

-- ---- fewer lines are no longer
pub pair_texts_up : (st : List ℕ) (j k : ℕ) → j ≤ k → length (pair_texts st j) ≤ length (pair_texts st k)
pair_texts_up st j zero h = let e : j ≡ 0 = omega arith in rw e (le_refl _)
pair_texts_up st j (suc k) h = go (λ l. pair_texts_up st j k l) (dec_lt j (suc k))
  where
    more : length (pair_texts st k) ≤ length (pair_texts st (suc k))
    more = rw (sym (add-one k), pairs_more st k, length-append) (omega arith)

    go : (j ≤ k → length (pair_texts st j) ≤ length (pair_texts st k)) → Dec (j < suc k) → length (pair_texts st j) ≤ length (pair_texts st (suc k))
    go up (yes l) = omega (arith, more, up (le_of_suc-le-suc l))
    go up (no d) = let e : j ≡ suc k = omega arith in rw e (le_refl _)

-- ---- one turn
module _ (n k : ℕ) (st : List ℕ) {p : Pair} {ps : List Pair} {x : ℕ} {xs : List ℕ} (h : Turn (all_pairs n) k p ps) (g : Turn st k x xs) where
  pub line_more : pair_texts st (k + 1) ≡ pair_texts st k ++ pair_text p.a p.b x
  line_more = rw (pair_is n k h, g.item 0) (pairs_more st k)

  pub line_fits : (s : Sheet) → Fits s (pair_texts st (pair_count n)) → Fits (put s (pair_texts st k)) (pair_text p.a p.b x)
  line_fits s r =
      omega (
        arith,
        r,
        pair_texts_up st (k + 1) (pair_count n) (omega (arith, h.below, all_pairs_length n)),
        ap length line_more,
        length-append (pair_texts st k) (pair_text p.a p.b x),
        rest_put s (pair_texts st k),
      )

  pub line_put : (s : Sheet) → put (put s (pair_texts st k)) (pair_text p.a p.b x) ≡ put s (pair_texts st (k + 1))
  line_put s = put_put s (pair_texts st k) (pair_text p.a p.b x) ∙ ap (put s) (sym line_more)
