-- Of the cases that ran some differ. Assumes nothing.
use Prim.Native.Nat.{◌≤◌}
use Rattle.replay.proofs.replay_list.Given as goal

abbrev pub invariant-loop-i : goal.invariant-loop-i
invariant-loop-i l = l.differ ≤ l.i
