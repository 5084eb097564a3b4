-- The output is a store behind the row of the head and the terms. Assumes nothing.
use native.Mathlib.Omega.{arith}
use Rattle.octets.specs.Words.{words}
use Rattle.octets.proofs.Splice.{splice_put, length_part}
use Rattle.octets.proofs.rows.put_atom.Goals as goal

pub returns : goal.returns
returns c =
    let a = c.args in
    let l = words a.buf.now in
    let row = c.put_row-end.ensures in
    (omega arith, splice_put l a.at _ _ _ row.1 c.put.ensures (omega (arith, length_part l a.from a.n (omega arith))) (omega arith))
