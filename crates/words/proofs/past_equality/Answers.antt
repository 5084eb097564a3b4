-- An equality has its first word and two terms. Assumes nothing.
use mathlib.Core.Path.{ap}
use native.Mathlib.Omega.{arith}
use Rattle.words.specs.declared.Atom.{Atom}
use Rattle.words.proofs.past_equality.Goals as goal

pub returns : goal.returns
returns c = omega (arith, ap (λ (x : Atom). x.next) c.laid_out-atom.ensures)
