-- The text that the listing program writes, as bytes. "Output: "done E" or "paused E", E the examinations; then for each pair not
-- impossible, in pair order, a, b and its status word. A refusal prints one line: "refused", number, detail. Fields are parted by one
-- space and every line ends in a line feed."
--   line fields               one line of these fields
--   done_text e               the line "done E"
--   paused_text e             the line "paused E"
--   outcome_text done e       whichever of the two
--   refused_text i d          the line "refused", number i, detail d
--   pair_text a b s           the line of the pair (a, b) with status byte s: 1 possible, 2 certain; no line for any other byte
--   pair_texts st k           the lines of the first k pairs in pair order, whose status bytes are the first k of st
--   pairs_text st n           the lines of all pairs of n marks
--   listing_text done e st n  the whole listing
use Rattle.std.specs.Prelude.{Bool, cond, List, [], ◌∷◌, ◌++◌, ℕ, zero, suc, eqb, get_or}
use Rattle.pairs.specs.Pairs.{pair_count, pair_at}
use Rattle.writing.specs.Digits.{digits}

-- ---- the words
-- "done"
abbrev pub done_word : List ℕ
done_word = 100 ∷ 111 ∷ 110 ∷ 101 ∷ []

-- "paused"
abbrev pub paused_word : List ℕ
paused_word = 112 ∷ 97 ∷ 117 ∷ 115 ∷ 101 ∷ 100 ∷ []

-- "refused"
abbrev pub refused_word : List ℕ
refused_word = 114 ∷ 101 ∷ 102 ∷ 117 ∷ 115 ∷ 101 ∷ 100 ∷ []

-- "possible"
abbrev pub possible_word : List ℕ
possible_word = 112 ∷ 111 ∷ 115 ∷ 115 ∷ 105 ∷ 98 ∷ 108 ∷ 101 ∷ []

-- "certain"
abbrev pub certain_word : List ℕ
certain_word = 99 ∷ 101 ∷ 114 ∷ 116 ∷ 97 ∷ 105 ∷ 110 ∷ []

-- ---- the lines
-- "Fields are parted by one space and every line ends in a line feed": 32 is the space, 10 the line feed
unfoldable pub line : List (List ℕ) → List ℕ
line [] = 10 ∷ []
line (f ∷ []) = f ++ (10 ∷ [])
line (f ∷ g ∷ fs) = f ++ (32 ∷ line (g ∷ fs))

unfoldable pub done_text : ℕ → List ℕ
done_text e = line (done_word ∷ digits e ∷ [])

unfoldable pub paused_text : ℕ → List ℕ
paused_text e = line (paused_word ∷ digits e ∷ [])

unfoldable pub outcome_text : Bool → ℕ → List ℕ
outcome_text done e = cond done (done_text e) (paused_text e)

unfoldable pub refused_text : ℕ → ℕ → List ℕ
refused_text i d = line (refused_word ∷ digits i ∷ digits d ∷ [])

unfoldable pub pair_text : ℕ → ℕ → ℕ → List ℕ
pair_text a b s =
    cond (eqb s 1) (line (digits a ∷ digits b ∷ possible_word ∷ []))
    (cond (eqb s 2) (line (digits a ∷ digits b ∷ certain_word ∷ []))
    [])

-- ---- the listing
unfoldable pub pair_texts : List ℕ → ℕ → List ℕ
pair_texts st zero = []
pair_texts st (suc k) = pair_texts st k ++ pair_text (pair_at k).a (pair_at k).b (get_or st k 0)

abbrev pub pairs_text : List ℕ → ℕ → List ℕ
pairs_text st n = pair_texts st (pair_count n)

unfoldable pub listing_text : Bool → ℕ → List ℕ → ℕ → List ℕ
listing_text done e st n = outcome_text done e ++ pairs_text st n
