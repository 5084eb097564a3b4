-- Printing a number behind a space: a byte is stored and the digits follow it. Assumes nothing.
use native.Mathlib.Omega.{arith}
use Rattle.lines.proofs.Texts.{wrote_one, wrote_then}
use Rattle.lines.proofs.printing.put_spaced.Goals as goal

pub returns-clause-wrote : goal.returns-clause-wrote
returns-clause-wrote c =
    let a = c.args in
    wrote_then {l = a.text.now} (wrote_one a.text.now a.at 32 (omega (arith, c.requires))) c.put_decimal.ensures (omega (arith, c.requires))
