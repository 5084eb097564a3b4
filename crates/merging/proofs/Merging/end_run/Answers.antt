-- Words that are carried to where they stand are as they were, so nothing is to be done then; else `carry` does it. Assumes nothing.
use mathlib.Core.Path.{◌∙◌, ap, sym}
use Prim.Native.Nat.{ℕ, ◌+◌, ◌-◌}
use native.Mathlib.Omega.{arith}
use Rattle.octets.proofs.Splice.{splice_itself}
use Rattle.octets.specs.Regions.{part, splice}
use Rattle.octets.specs.Words.{words}
use Rattle.merging.proofs.Merging.end_run.Goals as goal

pub returns-then-self : goal.returns-then-self
returns-then-self c =
    let a = c.args in
    let l = words a.s.now in
    let run = a.end - a.self.start in
    let place = ap (λ (x : ℕ). splice l (a.from + x) (part l (a.from + a.self.start) run)) (sym c.if-self.true) in
    (omega arith, sym (splice_itself l (a.from + a.self.start) run (omega arith)) ∙ place)
