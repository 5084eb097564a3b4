-- Between two places the run of `regions::replace` is what is asked; where the end is not behind the start, nothing is. Assumes nothing.
use Rattle.octets.specs.Words.{words}
use Rattle.canonicalize.proofs.SpansUsed.{nothing_between}
use Rattle.canonicalize.proofs.spans.replace_between.Goals as goal

pub returns-then-end-start : goal.returns-then-end-start
returns-then-end-start c =
    let a = c.args in
    nothing_between (words a.s.now) a.start a.end a.x a.y c.if-end-start.true
