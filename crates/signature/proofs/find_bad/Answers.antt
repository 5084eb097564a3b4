-- The first bad index is the same from `i` on as from the front: a kind is passed, and a word that is none is the first. Assumes nothing.
use mathlib.Core.List.{List}
use mathlib.Core.Path.{◌≡◌, sym, ap, ◌∙◌}
use Prim.Native.Nat.{ℕ, ◌-◌, suc}
use native.Mathlib.Omega.{arith}
use native.Mathlib.Numerals.{add-one}
use lib.ListN.{length}
use Rattle.octets.specs.Words.{words}
use Rattle.signature.specs.Signature.{is_kind_at, first_bad}
use Rattle.signature.proofs.Laws.{first_bad_next, first_bad_here, first_bad_done, kind_here}
use Rattle.signature.proofs.find_bad.Goals as goal

pub loop-i-init : goal.loop-i-init
loop-i-init c =
    let n : ℕ = length (words c.args.kinds.now) in
    let all : n - 0 ≡ n = omega arith in
    ap (λ (k : ℕ). first_bad (words c.args.kinds.now) k 0) all

pub returns-then-not-is_kind : goal.returns-then-not-is_kind
returns-then-not-is_kind c =
    let ws : List ℕ = words c.args.kinds.now in
    let i = c.loop-i.i in
    let n : ℕ = length ws in
    let is_here : c.is_kind.result ≡ is_kind_at ws i = kind_here ws i (omega arith) c.get.ensures.is c.is_kind.ensures in
    sym (first_bad_here ws (n - i) (n - suc i) i (omega arith) (sym is_here ∙ c.if-not-is_kind.true)) ∙ c.loop-i.invariant

pub loop-i-preserved : goal.loop-i-preserved
loop-i-preserved c =
    let ws : List ℕ = words c.args.kinds.now in
    let i = c.loop-i.i in
    let n : ℕ = length ws in
    let is_here : c.is_kind.result ≡ is_kind_at ws i = kind_here ws i (omega arith) c.get.ensures.is c.is_kind.ensures in
    let next = first_bad_next ws (n - i) (n - suc i) i (omega arith) (sym is_here ∙ c.if-not-is_kind.false) in
    rw add-one (sym next ∙ c.loop-i.invariant)

-- ---- all are kinds

pub returns : goal.returns
returns c =
    let ws : List ℕ = words c.args.kinds.now in
    sym (first_bad_done ws (length ws - c.loop-i.i) c.loop-i.i (omega arith)) ∙ c.loop-i.invariant
