-- Laws of `put`: two texts put one after the other are one text put. Assumes nothing.
use mathlib.Core.Path.{◌≡◌, sym, ap, ap₂, ◌∙◌}
use mathlib.Core.List.{List, [], ◌++◌, append-nil, append_assoc}
use Prim.Native.Nat.{ℕ, ◌-◌}
use lib.ListN.{length, drop, length-append, length-drop}
use lib.Seq.{drop-drop}
use Rattle.writing.specs.Sheet.{Sheet, put}
use Rattle.writing.proofs.Lines.{lines}

pub put_put : (s : Sheet) (a b : List ℕ) → put (put s a) b ≡ put s (a ++ b)
unfolding put
put_put s a b = ap₂ (λ (w r : List ℕ). record { name = s.name; written = w; rest = r }) (append_assoc s.written a b) rests
  where
    rests : drop (length b) (drop (length a) s.rest) ≡ drop (length (a ++ b)) s.rest
    rests = drop-drop (length b) (length a) s.rest ∙ ap (λ (k : ℕ). drop k s.rest) (sym (length-append a b))

pub put_nothing : (s : Sheet) → put s [] ≡ s
unfolding put
put_nothing s = ap (λ (w : List ℕ). record { name = s.name; written = w; rest = s.rest }) (append-nil s.written)

pub rest_put : (s : Sheet) (a : List ℕ) → length (put s a).rest ≡ length s.rest - length a
unfolding put
rest_put s a = length-drop (length a) s.rest

-- what the methods' goals need
pub ruleset puts = (put_put, put_nothing, rest_put, length-append, lines)
