-- The payload is two numbers, as the definitions take it apart. Assumes nothing.
use mathlib.Core.Path.{refl}
use Rattle.words.proofs.header_word.Goals as goal

pub overflow_sub-p : goal.overflow_sub-p
overflow_sub-p c = c.requires

pub returns : goal.returns
returns c = refl
