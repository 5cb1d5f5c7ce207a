-- Worked examples of the text, by computation: numbers, the kite's listing, a paused listing with a possible pair, and a refusal.
-- Assumes nothing.
use mathlib.Core.Path.{◌≡◌, refl}
use mathlib.Core.Bool.{true, false}
use mathlib.Core.List.{List, [], ◌∷◌, ◌++◌}
use Prim.Native.Nat.{ℕ}
use Rattle.pairs.specs.Pairs.{pair_at, next_pair}
use Rattle.writing.specs.Digits.{digits_in, digits}
use Rattle.writing.specs.Listing.{line, done_text, paused_text, outcome_text, refused_text, pair_text, pair_texts, listing_text}

-- ---- numbers
number_0 : digits 0 ≡ 48 ∷ []
unfolding digits_in digits
number_0 = refl

number_9 : digits 9 ≡ 57 ∷ []
unfolding digits_in digits
number_9 = refl

number_10 : digits 10 ≡ 49 ∷ 48 ∷ []
unfolding digits_in digits
number_10 = refl

number_99 : digits 99 ≡ 57 ∷ 57 ∷ []
unfolding digits_in digits
number_99 = refl

number_100 : digits 100 ≡ 49 ∷ 48 ∷ 48 ∷ []
unfolding digits_in digits
number_100 = refl

number_4294967295 : digits 4294967295 ≡ 52 ∷ 50 ∷ 57 ∷ 52 ∷ 57 ∷ 54 ∷ 55 ∷ 50 ∷ 57 ∷ 53 ∷ []
unfolding digits_in digits
number_4294967295 = refl

-- ---- the kite: every pair but (0, 2) is certain
-- the line of two marks below 10, given by their bytes, and "certain"
certain_line : ℕ → ℕ → List ℕ
certain_line a b = a ∷ 32 ∷ b ∷ 32 ∷ 99 ∷ 101 ∷ 114 ∷ 116 ∷ 97 ∷ 105 ∷ 110 ∷ 10 ∷ []

kite_text : List ℕ
kite_text =
    (100 ∷ 111 ∷ 110 ∷ 101 ∷ 32 ∷ 51 ∷ 10 ∷ [])
    ++ certain_line 48 49
    ++ certain_line 49 50
    ++ certain_line 48 51
    ++ certain_line 49 51
    ++ certain_line 50 51

kite : listing_text true 3 (2 ∷ 0 ∷ 2 ∷ 2 ∷ 2 ∷ 2 ∷ []) 4 ≡ kite_text
unfolding digits_in digits line done_text paused_text outcome_text pair_text pair_texts listing_text pair_at next_pair certain_line kite_text
kite = refl

-- ---- "paused 12", "0 1 certain", "0 2 possible"
paused_listing : List ℕ
paused_listing =
    (112 ∷ 97 ∷ 117 ∷ 115 ∷ 101 ∷ 100 ∷ 32 ∷ 49 ∷ 50 ∷ 10 ∷ [])
    ++ certain_line 48 49
    ++ (48 ∷ 32 ∷ 50 ∷ 32 ∷ 112 ∷ 111 ∷ 115 ∷ 115 ∷ 105 ∷ 98 ∷ 108 ∷ 101 ∷ 10 ∷ [])

paused : listing_text false 12 (2 ∷ 1 ∷ 0 ∷ []) 3 ≡ paused_listing
unfolding digits_in digits line done_text paused_text outcome_text pair_text pair_texts listing_text pair_at next_pair certain_line paused_listing
paused = refl

-- ---- "refused 2 129"
refused : refused_text 2 129 ≡ 114 ∷ 101 ∷ 102 ∷ 117 ∷ 115 ∷ 101 ∷ 100 ∷ 32 ∷ 50 ∷ 32 ∷ 49 ∷ 50 ∷ 57 ∷ 10 ∷ []
unfolding digits_in digits line refused_text
refused = refl
