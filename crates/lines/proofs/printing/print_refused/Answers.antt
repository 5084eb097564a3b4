-- Printing a refusal: its name, its number and its place, each written where the part before it ended, and a line feed. Assumes nothing.
use native.Mathlib.Omega.{arith}
use Rattle.lines.proofs.Texts.{wrote_then, wrote_snoc}
use Rattle.lines.proofs.printing.print_refused.Goals as goal

pub returns : goal.returns
returns c =
    let number = wrote_then c.put_bytes-name.ensures.wrote c.put_spaced-first.ensures.wrote (omega arith) in
    let place = wrote_then number c.put_spaced-second.ensures.wrote (omega arith) in
    wrote_snoc 10 place (omega arith) (omega arith)
