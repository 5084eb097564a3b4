-- What a write took follows what the writes before it took. Assumes nothing.
use Rattle.std.proofs.Common.{rules, ◌++◌, take, sym, ap, ◌∙◌, subst}
use Rattle.std.proofs.lemmas.List.{take_rest}
use Rattle.std.specs.Io.KnownBytes.{Appends}
use Rattle.std.proofs.KnownBytes.{Appends-trans}
use lib.Seq.{take-add}
use Rattle.streams.proofs.write_all.Goals as goal

pub loop-done-preserved : goal.loop-done-preserved
loop-done-preserved g c =
    let done = c.loop-done.done in
    let n = c.in_ok-n.n in
    let bytes = c.args.bytes.now in
    let joined = ap (λ l. take done bytes ++ take n l) (take_rest bytes done) ∙ sym (take-add done n bytes) in
    (search rules, subst (Appends _ _) joined (Appends-trans _ _ _ _ _ c.loop-done.invariant.1 c.in_ok-n.ensures.bytes))
