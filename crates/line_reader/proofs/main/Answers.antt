-- A buffer has room for a word of each line. Assumes nothing.
use Rattle.std.proofs.Common.{arith}
use Rattle.octets.proofs.Words.{length_words}
use Rattle.line_reader.proofs.main.Goals as goal

pub read_lines-requires : goal.read_lines-requires
read_lines-requires c = omega (arith, c.filled-given.ensures.len, length_words c.filled-given.result)
