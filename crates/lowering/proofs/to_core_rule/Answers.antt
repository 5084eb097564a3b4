-- Lowering a rule: what both walks leave is the answer, once a refusal has taken back what is logged. Assumes nothing.
use Prim.Native.Nat.{◌*◌, ◌≤◌}
use native.Mathlib.Omega.{arith}
use lib.ListN.{length}
use Rattle.octets.specs.Words.{words}
use Rattle.octets.proofs.Words.{length_words}
use Rattle.lowering.proofs.Joined.{log_lies}
use Rattle.lowering.proofs.to_core_rule.Goals.{In-Err}
use Rattle.lowering.proofs.to_core_rule.Goals as goal

pub overflow_mul-log : goal.overflow_mul-log
overflow_mul-log c = omega (arith, c.requires.scratch, c.count-log.ensures, length_words c.args.scratch.now)

-- where the log of the walk that was stopped lies
lies : (c : In-Err) → (30 * length (words c.args.rule.now) ≤ c.in-Err.stopped.log) × (c.in-Err.stopped.log ≤ length (words c.lower_both-both.new.scratch))
lies c = let g = c.requires in log_lies _ _ _ _ _ _ (c.in-Err.ensures g.sig g.rule g.signed g.written)

pub overflow_sub-stopped : goal.overflow_sub-stopped
overflow_sub-stopped c = omega (arith, lies (goal.at.overflow_sub-stopped c).In-Err, c.count-log.ensures)

pub part-requires : goal.part-requires
part-requires c = omega (arith, lies (goal.at.part-requires c).In-Err, c.count-log.ensures)
