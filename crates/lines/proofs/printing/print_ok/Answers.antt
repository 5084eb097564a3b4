-- Printing a result: its name, three numbers, a line feed and its words, each written where the part before it ended. Assumes nothing.
use native.Mathlib.Omega.{arith}
use Rattle.octets.specs.Words.{words}
use Rattle.lines.proofs.Texts.{wrote_one, wrote_then, wrote_same, printed_ok}
use mathlib.Core.Path.{sym}
use Rattle.lines.proofs.printing.print_ok.Goals as goal

pub returns : goal.returns
returns c =
    let a = c.args in
    let count = wrote_then c.put_bytes-name.ensures.wrote c.put_spaced-first.ensures.wrote (omega arith) in
    let replacements = wrote_then count c.put_spaced-second.ensures.wrote (omega arith) in
    let passes = wrote_then replacements c.put_spaced-third.ensures.wrote (omega arith) in
    let lines = wrote_then (wrote_one c.put_spaced-third.new.text c.put_spaced-third.result 10 (omega arith)) c.put_words.ensures (omega arith) in
    wrote_same (printed_ok (words a.output.now) c.count.result a.replacements a.passes (sym c.count.ensures)) (wrote_then passes lines (omega arith))
