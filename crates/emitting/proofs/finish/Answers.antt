-- An output that has fewer words than the rule is left as it is; into any other the rule is written, behind a header that counts its parts. Assumes nothing.
use native.Mathlib.Omega.{arith}
use lib.ListN.{length}
use Rattle.octets.specs.Words.{words}
use Rattle.octets.proofs.Words.{length_words}
use Rattle.emitting.proofs.Emitting.{bounded, emit_asks, no_room, in_room}
use Rattle.emitting.proofs.finish.Goals as goal

pub overflow_mul-needed : goal.overflow_mul-needed
overflow_mul-needed c =
    let at_known = bounded c.requires (omega (arith, length_words c.args.scratch.now, c.well_formed))
    (omega (arith, length_words c.args.head.words.now, c.well_formed)) in
    omega (arith, at_known)

pub overflow_add-needed-2 : goal.overflow_add-needed-2
overflow_add-needed-2 c =
    let at_known = bounded c.requires (omega (arith, length_words c.args.scratch.now, c.well_formed))
    (omega (arith, length_words c.args.head.words.now, c.well_formed)) in
    omega (arith, at_known)

pub overflow_add-needed-3 : goal.overflow_add-needed-3
overflow_add-needed-3 c =
    let at_known = bounded c.requires (omega (arith, length_words c.args.scratch.now, c.well_formed))
    (omega (arith, length_words c.args.head.words.now, c.well_formed)) in
    omega (arith, at_known)

pub returns-then-count-needed : goal.returns-then-count-needed
returns-then-count-needed c b xs p =
    rw c.count.ensures (no_room p c.args.output.now (omega (arith, c.count.ensures, c.count-2.ensures, c.if-count-needed.true)))

pub overflow_cast-counts-2 : goal.overflow_cast-counts-2
overflow_cast-counts-2 c =
    let at_known = bounded c.requires (omega (arith, length_words c.args.scratch.now, c.well_formed))
    (omega (arith, length_words c.args.head.words.now, c.well_formed)) in
    omega (arith, at_known)

pub overflow_add-counts-3 : goal.overflow_add-counts-3
overflow_add-counts-3 c =
    let at_known = bounded c.requires (omega (arith, length_words c.args.scratch.now, c.well_formed))
    (omega (arith, length_words c.args.head.words.now, c.well_formed)) in
    omega (arith, at_known)

pub emit-requires : goal.emit-requires
emit-requires c =
    emit_asks c.requires (length (words c.args.output.now)) (omega (arith, c.count.ensures, c.count-2.ensures, c.if-count-needed.false))

pub returns : goal.returns
returns c b xs p =
    rw c.count.ensures
    (in_room p c.args.output.now c.emit.new.output (omega arith) (omega (arith, c.count.ensures, c.count-2.ensures, c.if-count-needed.false)) c.emit.ensures)
