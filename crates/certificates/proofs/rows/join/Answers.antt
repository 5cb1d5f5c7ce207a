-- `rows::join` meets its contract. The set gains one edge, (a, b), so row a gains b, row b gains a, and every other row stays. Assumes nothing.
use mathlib.Core.Path.{refl}
use Rattle.certificates.proofs.Near.{rows_joined}
use Rattle.certificates.proofs.rows.join.Goals as goal

pub returns : goal.returns
returns c = record {
  joined = rows_joined _ c.args.a c.args.b c.requires.a_lt_b c.requires.b_is_mark c.requires.rows c.requires.plate
      c.requires.clean c.requires.remains refl c.with.ensures.added refl refl c.with-2.ensures.added refl;
}
