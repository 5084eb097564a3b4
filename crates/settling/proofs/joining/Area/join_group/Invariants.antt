use mathlib.Core.Path.{◌≡◌}
use lib.ListN.{length}
use Rattle.octets.specs.Words.{words}
use Rattle.bodies.specs.Terms.{sig}
use Rattle.settling.proofs.JoinGroup.{Grouping}
use Rattle.settling.proofs.joining.Area.join_group.Given as goal

abbrev pub invariant-loop-i : goal.invariant-loop-i
invariant-loop-i l = (length l.s ≡ length l.initial.s) × Grouping (sig l.self.sign) (words l.initial.s) (words l.s) l.left l.p l.m l.n l.self l.i l.t
