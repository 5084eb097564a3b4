-- The row that it fills is what it has read of the words so far. Assumes nothing.
use mathlib.Core.Path.{refl}
use native.Mathlib.Omega.{arith}
use Rattle.std.proofs.Common.{rules}
use Rattle.octets.proofs.Splice.{take_more}
use Rattle.octets.proofs.Filling.{filled_start, filled_next}
use Rattle.octets.proofs.rows.put_all.Goals as goal

pub loop-i-init : goal.loop-i-init
loop-i-init g c = filled_start _ _ _ _ refl

pub loop-i-preserved : goal.loop-i-preserved
loop-i-preserved g c = filled_next c.loop-i.invariant (omega arith) (omega arith) c.put.auto.s c.put.ensures refl (take_more _ _ (search rules))
