-- Mixing a word into a key is the definition's own sum, taken to 32 bits after the product and again after the sum. Assumes nothing.
use Rattle.std.proofs.Common.{arith}
use Rattle.bodies.specs.Buckets.{mix}
use Rattle.bodies.proofs.buckets.mixed.Goals as goal

pub returns : goal.returns
unfolding mix
returns c = omega arith
