-- The two ways of the test are those of `swap`. Assumes nothing.
use borrow.Author.Tests.{eq-eqb, ne_eqb}
use Rattle.octets.specs.Regions.{swap}
use Rattle.octets.proofs.regions.swapped.Goals as goal

pub returns-then-w-x : goal.returns-then-w-x
unfolding swap
returns-then-w-x c = rw (eq-eqb _ _ c.if-w-x.true)

pub returns-else-w-x : goal.returns-else-w-x
unfolding swap
returns-else-w-x c = rw (ne_eqb _ _ c.if-w-x.false)
