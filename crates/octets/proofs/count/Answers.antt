-- Four bytes are a word, so there are a quarter as many words. Assumes nothing.
use mathlib.Core.Path.{sym}
use Rattle.octets.proofs.Words.{length_words}
use Rattle.octets.proofs.count.Goals as goal

pub returns : goal.returns
returns c = sym (length_words _)
