-- The bytes of the word, put where it stands, are one store of a word. Assumes nothing.
use mathlib.Core.Path.{ap, sym, ◌∙◌}
use native.Mathlib.Omega.{arith}
use Rattle.std.proofs.Common.{rules, ◌+◌}
use Rattle.octets.specs.Words.{words}
use Rattle.octets.specs.Regions.{splice}
use Rattle.octets.proofs.Words.{words_of_one}
use Rattle.octets.proofs.Splice.{splice_one}
use Rattle.octets.proofs.Returned.{words_given_back}
use Rattle.octets.proofs.put.Goals as goal

pub returns : goal.returns
returns c =
    let a = c.args in
    let one = ap words (c.copy_from_slice.ensures.after ∙ c.to_le_bytes.ensures) ∙ words_of_one a.w (search rules) in
    words_given_back a.s.now c.copy_from_slice.new.self a.at (a.at + 1) (omega arith) (omega arith) (search rules)
    ∙ ap (splice (words a.s.now) a.at) one ∙ sym (splice_one (words a.s.now) a.at a.w c.requires)
