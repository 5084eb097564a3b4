use Prim.Native.Nat.{ℕ}
use lib.ListN.{length, take}
use Rattle.octets.proofs.Filling.{Filled}
use Rattle.octets.proofs.rows.put_all.Given as goal

abbrev pub invariant-loop-i : goal.invariant-loop-i
invariant-loop-i g l = Filled (λ (k : ℕ). take k l.ws) l.initial.buf l.buf l.at (length l.ws) l.i
