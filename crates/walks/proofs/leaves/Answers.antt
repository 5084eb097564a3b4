-- Writing the literals and names in front of a row of words: what is written is what was read, each word passed is one more of them, and the loop ends
-- at the first word that is none. Assumes nothing.
use mathlib.Core.Path.{◌≡◌, refl, ◌∙◌}
use mathlib.Core.List.{List}
use Prim.Native.Nat.{ℕ, ◌<◌}
use lib.ListN.{length}
use native.Mathlib.Omega.{arith}
use Rattle.octets.specs.Words.{words}
use Rattle.octets.proofs.Splice.{take_more}
use Rattle.octets.proofs.Filling.{filled_start, filled_next, filled_end}
use Rattle.walks.proofs.LeavesUpTo.{passed_start, passed_next, passed_other, passed_end}
use Rattle.walks.proofs.leaves.Goals as goal

pub loop-k-init : goal.loop-k-init
loop-k-init c = (filled_start _ _ _ _ refl, passed_start)

pub returns-then-w-lt-LITERAL_BASE : goal.returns-then-w-lt-LITERAL_BASE
returns-then-w-lt-LITERAL_BASE c =
    let l = c.loop-k in
    (passed_other l.invariant.1 (omega arith) c.get-w.ensures.is c.then-w-lt-LITERAL_BASE.either, l.invariant.0.made)

-- ---- it is one of them

pub loop-k-preserved : goal.loop-k-preserved
loop-k-preserved c =
    let l = c.loop-k in
    let p = c.put in
    let is = c.get-w.ensures.is in
    let row : List ℕ = words c.args.row.now in
    let here : l.k < length row = omega arith in (
      filled_next l.invariant.0 c.loop-k-test.true (omega arith) p.auto.s p.ensures is (take_more row l.k here),
      passed_next l.invariant.1 here is c.if-w-lt-LITERAL_BASE.false c.if-most-w.false,
    )

pub returns : goal.returns
returns c =
    let l = c.loop-k in
    let n : c.count-n.result ≡ length (words c.args.row.now) = c.count-n.ensures in
    (n ∙ passed_end l.invariant.1 (omega arith), filled_end l.invariant.0 c.loop-k-test.false)
