use mathlib.Core.Path.{◌≡◌}
use lib.ListN.{length}
use Rattle.octets.specs.Words.{words}
use Rattle.merging.specs.Chains.{link_of}
use Rattle.merging.proofs.Links.{left_from}
use Rattle.merging.proofs.Following.{Following}
use Rattle.merging.proofs.Pass.group.Given as goal

abbrev pub invariant-loop-next : goal.invariant-loop-next
invariant-loop-next l =
    (length l.s ≡ length l.initial.s)
    × Following (words l.initial.s) (words l.s) l.self.from l.self.n l.i l.self.links l.to (link_of l.next) l.k

abbrev pub decreases-loop-next : goal.decreases-loop-next
decreases-loop-next l = left_from l.self.n (link_of l.next)
