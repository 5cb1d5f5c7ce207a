-- Laws of the lines: a line of two or three fields as its fields, each with the byte that ends it; the refusal's line, the outcome's by its
-- case, and a pair's by its status byte; one pair's line after those before it. Assumes nothing.
use mathlib.Core.Path.{◌≡◌, refl, ◌∙◌}
use mathlib.Core.Bool.{Bool, true, false}
use mathlib.Core.List.{List, [], ◌∷◌, ◌++◌, append_assoc}
use Prim.Native.Nat.{ℕ, ◌+◌}
use native.Mathlib.Numerals.{add-one}
use borrow.Author.Tests.{eq-eqb, ne_eqb}
use lib.ListN.{get_or}
use Rattle.pairs.specs.Pairs.{pair_at}
use Rattle.plane.proofs.Laws.Tells.{cond_yes, cond_no}
use Rattle.writing.specs.Digits.{digits}
use Rattle.writing.specs.Listing.{done_word, paused_word, refused_word, possible_word, certain_word, line, done_text, paused_text, outcome_text, refused_text, pair_text, pair_texts}

pub line_two : (f g : List ℕ) → line (f ∷ g ∷ []) ≡ f ++ (32 ∷ []) ++ g ++ (10 ∷ [])
unfolding line
line_two f g = simp append_assoc

pub line_three : (f g h : List ℕ) → line (f ∷ g ∷ h ∷ []) ≡ f ++ (32 ∷ []) ++ g ++ (32 ∷ []) ++ h ++ (10 ∷ [])
unfolding line
line_three f g h = simp append_assoc

pub refused_is : (i d : ℕ) → refused_text i d ≡ line (refused_word ∷ digits i ∷ digits d ∷ [])
unfolding refused_text
refused_is i d = refl

pub done_is : (done : Bool) (e : ℕ) → done ≡ true → outcome_text done e ≡ line (done_word ∷ digits e ∷ [])
unfolding outcome_text done_text
done_is done e t = cond_yes _ _ t

pub paused_is : (done : Bool) (e : ℕ) → done ≡ false → outcome_text done e ≡ line (paused_word ∷ digits e ∷ [])
unfolding outcome_text paused_text
paused_is done e t = cond_no _ _ t

pub pair_possible : (a b s : ℕ) → s ≡ 1 → pair_text a b s ≡ line (digits a ∷ digits b ∷ possible_word ∷ [])
unfolding pair_text
pair_possible a b s e = cond_yes _ _ (eq-eqb s 1 e)

pub pair_certain : (a b s : ℕ) → s ≡ 2 → pair_text a b s ≡ line (digits a ∷ digits b ∷ certain_word ∷ [])
unfolding pair_text
pair_certain a b s e = rw e refl

pub pair_none : (a b s : ℕ) → (s ≡ 1 → ⊥) → (s ≡ 2 → ⊥) → pair_text a b s ≡ []
unfolding pair_text
pair_none a b s h k = cond_no _ _ (ne_eqb s 1 h) ∙ cond_no _ _ (ne_eqb s 2 k)

pub pairs_none : (st : List ℕ) → pair_texts st 0 ≡ []
unfolding pair_texts
pairs_none st = refl

pub pairs_more : (st : List ℕ) (k : ℕ) → pair_texts st (k + 1) ≡ pair_texts st k ++ pair_text (pair_at k).a (pair_at k).b (get_or st k 0)
unfolding pair_texts
pairs_more st k = rw (add-one k) refl

pub ruleset lines = (line_two, line_three, refused_is, done_is, paused_is, pair_possible, pair_certain, pair_none, pairs_none)
