-- What is lent begins and ends at words' boundaries. Assumes nothing.
use mathlib.Core.Path.{◌∙◌}
use native.Mathlib.Omega.{arith}
use Rattle.std.proofs.Common.{◌+◌, ◌-◌, ◌≡◌}
use Rattle.octets.proofs.Words.{words_lent}
use Rattle.octets.proofs.part.Goals as goal

pub returns : goal.returns
returns c =
    let a = c.args in
    let long : a.from + a.n - a.from ≡ a.n = omega arith in
    words_lent a.s.now a.from (a.from + a.n) (omega arith) (omega arith) ∙ rw long
