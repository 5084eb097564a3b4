-- Resolving a body: runs of other atoms are carried as they stand, and each equality between them becomes its words; so what is passed is resolved at every
-- turn. What is written lies beyond what is read. Assumes nothing.
use mathlib.Core.List.{List}
use mathlib.Core.Path.{◌∙◌, ◌≡◌, refl}
use Prim.Native.Nat.{◌+◌, ◌-◌, ℕ}
use native.Mathlib.Omega.{arith}
use lib.ListN.{length}
use Rattle.octets.proofs.Words.{length_words}
use Rattle.octets.specs.Regions.{beyond, part, splice}
use Rattle.rules.specs.Signature.{Sig}
use Rattle.bodies.proofs.Standing.{lent_body}
use Rattle.canonicalize.specs.Canonicalize.{ResolveAsks, others_in}
use Rattle.canonicalize.proofs.Resolving.{Ran, Resolving, bounds, others_here, resolve_one_asks, run_next}
use Rattle.canonicalize.proofs.Resolving.{resolving_end, resolving_next, resolving_run, resolving_start}
use Rattle.canonicalize.proofs.resolve.Goals as goal

-- the next run of other atoms, told by the words that are lent, is carried
run_carried : {s : Sig} {l m m₂ ws : List ℕ} {from n to i k r : ℕ} → ResolveAsks s l from n to → Resolving s l m from n to i k
    → ws ≡ part m (from + i) (n - i) → r ≡ others_in ws 0 (length ws) → m₂ ≡ splice m (to + k) (part m (from + i) r) → Ran s l m₂ from n to (i + r) (k + r)
run_carried c w lent size carried = resolving_run c w (run_next c w lent size) carried

pub loop-i-init : goal.loop-i-init
loop-i-init c = (refl, resolving_start c.requires)

pub run-r-requires : goal.run-r-requires
run-r-requires c =
    let a = c.args in
    lent_body (a.from + c.loop-i.i) (a.n - c.loop-i.i) c.part.ensures (others_here c.requires c.loop-i.invariant.1)

pub overflow_add-to : goal.overflow_add-to
overflow_add-to c =
    let b = bounds c.requires c.loop-i.invariant.1 (omega (arith, length_words, c.well_formed)) in
    omega (arith, b)

pub carry-requires : goal.carry-requires
carry-requires c =
    let run = run_next c.requires c.loop-i.invariant.1 c.part.ensures c.run-r.ensures in
    record { n_in_bounds = (run.room, run.stands.within); clear = beyond run.clear }

-- ---- behind the run

pub overflow_add-i : goal.overflow_add-i
overflow_add-i c =
    let ran = run_carried c.requires c.loop-i.invariant.1 c.part.ensures c.run-r.ensures c.carry.ensures in
    let b = bounds c.requires ran.here (omega (arith, length_words, c.well_formed)) in
    omega (arith, b)

pub overflow_add-k : goal.overflow_add-k
overflow_add-k c =
    let ran = run_carried c.requires c.loop-i.invariant.1 c.part.ensures c.run-r.ensures c.carry.ensures in
    let b = bounds c.requires ran.here (omega (arith, length_words, c.well_formed)) in
    omega (arith, b)

pub returns-then-i-n : goal.returns-then-i-n
returns-then-i-n c =
    let ran = run_carried c.requires c.loop-i.invariant.1 c.part.ensures c.run-r.ensures c.carry.ensures in
    resolving_end ran.here (omega arith)

-- ---- an equality is next

pub overflow_add-p : goal.overflow_add-p
overflow_add-p c =
    let ran = run_carried c.requires c.loop-i.invariant.1 c.part.ensures c.run-r.ensures c.carry.ensures in
    let b = bounds c.requires ran.here (omega (arith, length_words, c.well_formed)) in
    omega (arith, b)

pub overflow_add-free : goal.overflow_add-free
overflow_add-free c =
    let ran = run_carried c.requires c.loop-i.invariant.1 c.part.ensures c.run-r.ensures c.carry.ensures in
    let b = bounds c.requires ran.here (omega (arith, length_words, c.well_formed)) in
    omega (arith, b)

pub resolve_one-k-requires : goal.resolve_one-k-requires
resolve_one-k-requires c =
    let ran = run_carried c.requires c.loop-i.invariant.1 c.part.ensures c.run-r.ensures c.carry.ensures in
    resolve_one_asks c.requires ran (omega (arith, ran.here.inside, c.if-i-n.false))

pub overflow_add-k-in-loop-i : goal.overflow_add-k-in-loop-i
overflow_add-k-in-loop-i c =
    let ran = run_carried c.requires c.loop-i.invariant.1 c.part.ensures c.run-r.ensures c.carry.ensures in
    let one = c.resolve_one-k.ensures in
    let next = resolving_next c.requires ran (omega (arith, ran.here.inside, c.if-i-n.false)) c.args.q.known_equals one.0 one.1 refl in
    let b = bounds c.requires next (omega (arith, length_words, c.well_formed)) in
    omega (arith, b)

pub past_equality-requires : goal.past_equality-requires
past_equality-requires c =
    let ran = run_carried c.requires c.loop-i.invariant.1 c.part.ensures c.run-r.ensures c.carry.ensures in
    omega (arith, ran.here.inside, c.requires.atoms.within, length_words, c.well_formed)

pub loop-i-preserved : goal.loop-i-preserved
loop-i-preserved c =
    let ran = run_carried c.requires c.loop-i.invariant.1 c.part.ensures c.run-r.ensures c.carry.ensures in
    let one = c.resolve_one-k.ensures in
    let next = resolving_next c.requires ran (omega (arith, ran.here.inside, c.if-i-n.false)) c.args.q.known_equals one.0 one.1 in
    (c.resolve_one-k.auto.s ∙ c.carry.auto.buf ∙ c.loop-i.invariant.0, next (omega (arith, c.past_equality.ensures)))

pub returns : goal.returns
returns c = resolving_end c.loop-i.invariant.1 c.loop-i-test.false
