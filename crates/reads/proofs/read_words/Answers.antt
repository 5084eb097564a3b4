-- Each word is put below the count of words, so its bytes lie in the slice. Assumes nothing.
use native.Mathlib.Omega.{arith}
use Rattle.octets.proofs.Words.{length_words}
use Rattle.reads.proofs.read_words.Goals as goal

pub loop-i-preserved : goal.loop-i-preserved
loop-i-preserved c = omega (arith, length_words c.loop-i.out, c.put.auto.s)
