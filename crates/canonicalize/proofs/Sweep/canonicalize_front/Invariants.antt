use mathlib.Core.Path.{◌≡◌}
use lib.ListN.{length}
use Rattle.octets.specs.Words.{words}
use Rattle.bodies.specs.Terms.{sig}
use Rattle.canonicalize.proofs.Fronting.{Fronting}
use Rattle.canonicalize.proofs.Sweep.canonicalize_front.Given as goal

abbrev pub invariant-loop-i : goal.invariant-loop-i
invariant-loop-i l =
    (length l.s ≡ length l.initial.s)
    × Fronting (sig l.self.sign) (words l.initial.s) (words l.s) l.at l.e l.k l.to l.d l.self.spans.at l.self.spans.count l.i l.t
