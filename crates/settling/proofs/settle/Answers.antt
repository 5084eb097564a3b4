-- Before each pass `Settling` holds: the passes made, and those that the atoms which stand still ask for, are those of the definition. The pass that gives no
-- equality is the last one, and there are no more passes than atoms. Assumes nothing.
use mathlib.Core.Path.{◌∙◌, subst, sym}
use native.Mathlib.Omega.{arith}
use Rattle.octets.proofs.Words.{length_words}
use Rattle.octets.specs.Words.{words}
use Rattle.settling.specs.Settle.{SettledAt}
use Rattle.settling.specs.declared.Settled.{Settled}
use Rattle.settling.proofs.Settling.{begun, few, first_asks, merge_asks, next_asks, settled, settled_none_lem, settling_next, settling_start}
use Rattle.settling.proofs.settle.Goals as goal

pub returns-then-n-eq0 : goal.returns-then-n-eq0
returns-then-n-eq0 c =
    let a = c.args in
    λ g ys b y. settled_none_lem g ys (words a.s.now) a.at a.n c.if-n-eq0.true y c.nothing.ensures

pub canonicalize-c-requires : goal.canonicalize-c-requires
canonicalize-c-requires c = first_asks (begun c.requires c.if-n-eq0.false (omega (arith, length_words c.args.s.now, c.well_formed)))

pub loop-q-init : goal.loop-q-init
loop-q-init c =
    let b = begun c.requires c.if-n-eq0.false (omega (arith, length_words c.args.s.now, c.well_formed)) in
    (c.canonicalize-c.auto.s, settling_start b c.canonicalize-c.ensures)

pub merge-t-requires : goal.merge-t-requires
merge-t-requires c = merge_asks c.loop-q.invariant.1

pub overflow_add-passes : goal.overflow_add-passes
overflow_add-passes c = omega (arith, few c.loop-q.invariant.1, c.requires.small)

pub kept_by-requires : goal.kept_by-requires
kept_by-requires c = omega (arith, c.loop-q.invariant.1.count)

pub returns-then-t-eq0 : goal.returns-then-t-eq0
returns-then-t-eq0 c = λ g ys b y.
    subst (λ (r : Settled). SettledAt g ys (words c.args.s.now) (words c.merge-t.new.s) c.args.at c.args.n r) (sym c.kept_by.ensures)
    (settled c.loop-q.invariant.1 c.merge-t.ensures g ys b.globals b.equals y c.if-t-eq0.true)

pub canonicalize_again-c-requires : goal.canonicalize_again-c-requires
canonicalize_again-c-requires c = next_asks c.loop-q.invariant.1 c.merge-t.ensures c.args.q

pub loop-q-smaller : goal.loop-q-smaller
loop-q-smaller c = omega (arith, few c.loop-q.invariant.1)

pub loop-q-preserved : goal.loop-q-preserved
loop-q-preserved c =
    let i = c.loop-q.invariant in (
      c.canonicalize_again-c.auto.s ∙ c.merge-t.auto.s ∙ i.0,
      settling_next i.1 c.merge-t.ensures c.if-t-eq0.false c.canonicalize_again-c.ensures,
    )
