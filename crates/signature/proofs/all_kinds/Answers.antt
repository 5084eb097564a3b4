-- The words passed are kinds, or the flag is down; one word more is one test more. Assumes nothing.
use mathlib.Core.Path.{◌≡◌, refl}
use lib.ListN.{length}
use native.Mathlib.Omega.{arith}
use native.Mathlib.Numerals.{add-one}
use Rattle.octets.specs.Words.{words}
use Rattle.signature.specs.Signature.{all_kinds, is_kind_at}
use Rattle.signature.proofs.Laws.{all_kinds_next, kind_here}
use Rattle.signature.proofs.all_kinds.Goals as goal

pub loop-i-init : goal.loop-i-init
unfolding all_kinds
loop-i-init c = refl

pub loop-i-preserved : goal.loop-i-preserved
loop-i-preserved c =
    let l = c.loop-i in
    let ws = words c.args.kinds.now in
    let i = l.i in
    let here : c.is_kind-good.result ≡ is_kind_at ws i = kind_here ws i (omega arith) c.get.ensures.is c.is_kind-good.ensures in
    rw (add-one, all_kinds_next ws i 0 i (omega arith), ← here, ← l.invariant) refl

pub returns : goal.returns
returns c =
    let l = c.loop-i in
    let all : l.i ≡ length (words c.args.kinds.now) = omega arith in rw all at l.invariant
