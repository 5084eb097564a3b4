-- The count of leading zeros is a range of numbers: it tells a leaf from a head, and by the end of its kind whether a leaf fits. Assumes nothing.
use mathlib.Core.Path.{refl}
use Prim.Native.Nat.{◌≤◌, ◌<◌}
use native.Mathlib.Omega.{arith}
use Rattle.octets.specs.Words.{words}
use Rattle.rules.specs.Words.{head_base, literal_base}
use Rattle.words.proofs.Ranges.{kind_from, kind_below}
use Rattle.words.proofs.WordAt.{Here}
use Rattle.written.specs.Written.{with_heads}
use Rattle.written.proofs.Laws.{start_missing, start_low, start_leaf, start_no_leaf, start_head, start_no_head}
use Rattle.written.proofs.Record.start_at.Goals as goal

pub returns-then-count-at : goal.returns-then-count-at
returns-then-count-at c = let a = c.args in start_missing (with_heads a.self.now.heads) (words a.self.now.rule.now) a.at (omega arith)

pub returns-then-w-leaf_end : goal.returns-then-w-leaf_end
returns-then-w-leaf_end c =
    let at_get : Here (words c.args.self.now.rule.now) c.args.at c.get-w.result = record { inside = omega arith; is = c.get-w.ensures.is } in
    start_leaf c.args.self.now.heads at_get c.get-w.ensures.fits c.if-kind-lt3.true (omega (arith, c.leaf_end.ensures, c.if-w-leaf_end.true))

pub returns-then-kind-lt3 : goal.returns-then-kind-lt3
returns-then-kind-lt3 c =
    let at_get : Here (words c.args.self.now.rule.now) c.args.at c.get-w.result = record { inside = omega arith; is = c.get-w.ensures.is } in
    start_no_leaf c.args.self.now.heads at_get c.get-w.ensures.fits c.if-kind-lt3.true (omega (arith, c.leaf_end.ensures, c.if-w-leaf_end.false))

-- below the heads
pub returns-then-kind-gt3 : goal.returns-then-kind-gt3
returns-then-kind-gt3 c =
    let at_get : Here (words c.args.self.now.rule.now) c.args.at c.get-w.result = record { inside = omega arith; is = c.get-w.ensures.is } in
    start_low c.args.self.now.heads at_get (kind_from 4 28 c.get-w.result refl c.get-w.ensures.fits c.if-kind-gt3.true)

pub returns-then-w-self : goal.returns-then-w-self
returns-then-w-self c =
    let at_get : Here (words c.args.self.now.rule.now) c.args.at c.get-w.result = record { inside = omega arith; is = c.get-w.ensures.is } in
    let head_range : (let w = c.get-w.result in (head_base ≤ w) × (w < literal_base)) =
    let g = c.get-w in
    (kind_below 4 28 g.result refl g.ensures.fits (omega (arith, c.if-kind-gt3.false)), kind_from 3 29 g.result refl g.ensures.fits c.if-kind-lt3.false) in
    start_head c.args.self.now.heads at_get head_range.0 head_range.1 c.if-w-self.true

pub returns-else-w-self : goal.returns-else-w-self
returns-else-w-self c =
    let at_get : Here (words c.args.self.now.rule.now) c.args.at c.get-w.result = record { inside = omega arith; is = c.get-w.ensures.is } in
    let head_range : (let w = c.get-w.result in (head_base ≤ w) × (w < literal_base)) =
    let g = c.get-w in
    (kind_below 4 28 g.result refl g.ensures.fits (omega (arith, c.if-kind-gt3.false)), kind_from 3 29 g.result refl g.ensures.fits c.if-kind-lt3.false) in
    start_no_head c.args.self.now.heads at_get head_range.0 head_range.1 c.if-w-self.false
