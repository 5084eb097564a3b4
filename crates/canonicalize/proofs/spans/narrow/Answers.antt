-- Building as many spans as there are words: a filled table has no word in any span, and after each turn the words before p are in theirs. Assumes nothing.
use mathlib.Core.Path.{◌∙◌}
use Prim.Native.Nat.{◌+◌}
use Rattle.canonicalize.proofs.SpansBuilt.{narrow_end, narrow_next, narrow_start}
use Rattle.canonicalize.proofs.spans.narrow.Goals as goal

-- ---- and widened, word by word

pub loop-p-init : goal.loop-p-init
loop-p-init c =
    (c.fill-2.auto.s ∙ c.fill.auto.s, narrow_start c.requires (c.args.at + c.args.n) c.fill.ensures c.fill-2.ensures)

pub loop-p-preserved : goal.loop-p-preserved
loop-p-preserved c =
    let w = c.loop-p.invariant in
    (c.widen.auto.s ∙ w.0, narrow_next c.requires w.1 c.loop-p-test.true c.widen.ensures)

pub returns : goal.returns
returns c = narrow_end c.requires c.loop-p.invariant.1 c.loop-p-test.false
