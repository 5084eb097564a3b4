-- The sum of what differs in the answer, in the output and in the counters is the definition's. Assumes nothing.
use Prim.Native.Nat.{ℕ, ◌+◌}
use mathlib.Core.Path.{ap, ◌∙◌}
use lib.ListN.{length}
use Rattle.replay.specs.Differences.{differ}
use Rattle.replay.proofs.Alike.{alike_is}
use Rattle.replay.proofs.differences.compare.Goals as goal

pub returns : goal.returns
returns c =
    let a = c.args in
    let output = c.differ-bytes.ensures.0 ∙ ap (λ (n : ℕ). differ n (length a.output.now)) (c.alike-same.ensures ∙ alike_is a.output.now a.wanted.now) in
    let counters = c.differ-counts.ensures.0 ∙ ap (λ (n : ℕ). differ n (length a.counters.now)) (c.alike-also.ensures ∙ alike_is a.counters.now a.after.now) in
    λ i. c.answers-numbers.ensures.0 i + output i + counters i
