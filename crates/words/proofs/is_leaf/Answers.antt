-- Fewer than three leading zeros are 2^29 and up. Assumes nothing.
use mathlib.Core.Path.{refl}
use Rattle.words.proofs.Ranges.{kind_test}
use Rattle.words.proofs.is_leaf.Goals as goal

pub returns : goal.returns
returns c = kind_test 3 29 c.args.w refl c.ranges.w.fits
