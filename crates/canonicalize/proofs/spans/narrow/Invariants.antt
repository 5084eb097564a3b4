use mathlib.Core.Path.{◌≡◌}
use lib.ListN.{length}
use Rattle.octets.specs.Words.{words}
use Rattle.canonicalize.proofs.SpansBuilt.{Narrowing}
use Rattle.canonicalize.proofs.spans.narrow.Given as goal

abbrev pub invariant-loop-p : goal.invariant-loop-p
invariant-loop-p l = (length l.s ≡ length l.fn.s) × Narrowing (words l.fn.s) (words l.s) l.at l.n l.table l.p
