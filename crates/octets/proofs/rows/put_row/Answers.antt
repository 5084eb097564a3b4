-- The row of words lies below what is carried behind it, and so leaves it as it was. Assumes nothing.
use mathlib.Core.List.{[]}
use native.Mathlib.Omega.{arith}
use Rattle.std.proofs.Common.{rules}
use Rattle.octets.specs.Words.{words}
use Rattle.octets.proofs.Splice.{splice_carry}
use Rattle.octets.proofs.rows.put_row.Goals as goal

pub returns : goal.returns
returns g c =
    let a = c.args in
    let row = c.put_all-end.ensures in
    (omega arith, splice_carry (words a.buf.now) a.at a.front.now _ [] a.from a.n row.1 c.carry.ensures (search rules) (omega arith) (omega arith))
