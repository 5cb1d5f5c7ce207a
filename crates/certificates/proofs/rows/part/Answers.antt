-- `rows::part` meets its contract. The set loses one edge, (a, b), so row a loses b, row b loses a, and
-- every other row stays. Assumes nothing.
use mathlib.Core.Path.{refl}
use Rattle.certificates.proofs.Near.{rows_parted}
use Rattle.certificates.proofs.rows.part.Goals as goal

pub returns : goal.returns
returns c = record {
  parted = rows_parted _ c.args.a c.args.b c.requires.plate c.requires.a_lt_b c.requires.b_is_mark c.requires.rows
      refl c.without.ensures.removed refl refl c.without-2.ensures.removed refl;
}
