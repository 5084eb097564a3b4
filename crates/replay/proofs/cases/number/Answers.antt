-- Four bytes are a word. Assumes nothing.
use native.Mathlib.Omega.{arith}
use Rattle.octets.proofs.Words.{length_words}
use Rattle.replay.proofs.cases.number.Goals as goal

pub get-requires : goal.get-requires
get-requires c = omega (arith, length_words c.args.bytes.now)
