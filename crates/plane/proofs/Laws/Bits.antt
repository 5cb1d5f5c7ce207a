-- `==` of two signed numbers is a test of their bits: what it says of the numbers. Assumes nothing.
use mathlib.Core.Path.{◌≡◌, sym, ap, ◌∙◌}
use lib.Dec.{eqb}
use lib.IntN.{ℤ}
use mir.Syntax.{w32}
use mir.Val.{SFits, to_z, of_z}
use Rattle.plane.specs.Marks.{same_number}
use Rattle.plane.specs.Side.{is_on}
use Rattle.plane.proofs.Laws.Bounds.{back}
use Rattle.plane.proofs.Laws.Tells.{tells_same, tells_eqb}
use Rattle.plane.proofs.Laws.Marks.{same_number_tells}
use Rattle.plane.proofs.Laws.Side.{on_tells}

pub bits_same : (a b : ℤ) → SFits w32 a → SFits w32 b → eqb (of_z w32 a) (of_z w32 b) ≡ same_number a b
bits_same a b f g = tells_same tells_eqb (same_number_tells a b) (λ e. sym (back f) ∙ ap (to_z w32) e ∙ back g) (ap (of_z w32))

pub bits_on : (s : ℤ) → SFits w32 s → eqb (of_z w32 s) 0 ≡ is_on s
bits_on s f = tells_same tells_eqb (on_tells s) (λ e. sym (back f) ∙ ap (to_z w32) e) (ap (of_z w32))
