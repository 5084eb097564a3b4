-- A header is stored and three runs are copied, each where the one before it ends, so that they stand one behind the other. Assumes nothing.
use Prim.Native.Nat.{ℕ, ◌+◌, ◌*◌}
use mathlib.Core.Path.{◌≡◌, refl, ap, ap₂, ◌∙◌}
use mathlib.Core.List.{List, [], ◌∷◌, ◌++◌}
use native.Mathlib.Omega.{arith}
use lib.ListN.{length, length-append}
use Rattle.octets.specs.Words.{words}
use Rattle.octets.specs.Regions.{splice}
use Rattle.octets.proofs.Words.{length_words_kept}
use Rattle.octets.proofs.Splice.{length_part}
use Rattle.emitting.specs.Emit.{bound_size}
use Rattle.emitting.proofs.Emitting.{Fronted, fronted, fronted_then}
use Rattle.emitting.proofs.emit.Goals as goal

pub copy-requires : goal.copy-requires
copy-requires c =
    let output : List ℕ = words c.args.output.now in
    let at_put : Fronted output (c.args.header ∷ []) (words c.put.new.s) =
    fronted c.args.header c.put.ensures (length_words_kept _ _ c.put.auto.s) (omega (arith, c.requires.room)) in
    let f = c.requires in
    omega (arith, at_put.size, f.room, ap length c.part.ensures ∙ length_part _ _ _ f.atoms)

pub copy-requires-2 : goal.copy-requires-2
copy-requires-2 c =
    let output : List ℕ = words c.args.output.now in
    let atoms : List ℕ = words c.part.result.now in
    let at_put : Fronted output (c.args.header ∷ []) (words c.put.new.s) =
    fronted c.args.header c.put.ensures (length_words_kept _ _ c.put.auto.s) (omega (arith, c.requires.room)) in
    let at_copy : Fronted output (c.args.header ∷ atoms) (words c.copy.new.out) =
    fronted_then at_put 1 atoms c.copy.ensures refl (length_words_kept _ _ c.copy.auto.out) in
    let f = c.requires in
    omega (arith, at_copy.size, f.room, ap length c.part-2.ensures ∙ length_part _ _ _ f.binds)

pub copy-requires-3 : goal.copy-requires-3
copy-requires-3 c =
    let output : List ℕ = words c.args.output.now in
    let atoms : List ℕ = words c.part.result.now in
    let bindings : List ℕ = words c.part-2.result.now in
    let at_put : Fronted output (c.args.header ∷ []) (words c.put.new.s) =
    fronted c.args.header c.put.ensures (length_words_kept _ _ c.put.auto.s) (omega (arith, c.requires.room)) in
    let at_copy : Fronted output (c.args.header ∷ atoms) (words c.copy.new.out) =
    fronted_then at_put 1 atoms c.copy.ensures refl (length_words_kept _ _ c.copy.auto.out) in
    let atoms_size : length atoms ≡ c.args.body.words = ap length c.part.ensures ∙ length_part _ _ _ c.requires.atoms in
    let at_copy2 : Fronted output ((c.args.header ∷ atoms) ++ bindings) (words c.copy-2.new.out) =
    fronted_then at_copy (1 + c.args.body.words) bindings c.copy-2.ensures (omega (arith, atoms_size))
    (length_words_kept _ _ c.copy-2.auto.out) in
    let f = c.requires in
    omega (arith, at_copy2.size, f.room)

pub returns : goal.returns
returns c =
    let output : List ℕ = words c.args.output.now in
    let atoms : List ℕ = words c.part.result.now in
    let bindings : List ℕ = words c.part-2.result.now in
    let actions : List ℕ = words c.args.head.words.now in
    let at_put : Fronted output (c.args.header ∷ []) (words c.put.new.s) =
    fronted c.args.header c.put.ensures (length_words_kept _ _ c.put.auto.s) (omega (arith, c.requires.room)) in
    let at_copy : Fronted output (c.args.header ∷ atoms) (words c.copy.new.out) =
    fronted_then at_put 1 atoms c.copy.ensures refl (length_words_kept _ _ c.copy.auto.out) in
    let atoms_size : length atoms ≡ c.args.body.words = ap length c.part.ensures ∙ length_part _ _ _ c.requires.atoms in
    let at_copy2 : Fronted output ((c.args.header ∷ atoms) ++ bindings) (words c.copy-2.new.out) =
    fronted_then at_copy (1 + c.args.body.words) bindings c.copy-2.ensures (omega (arith, atoms_size))
    (length_words_kept _ _ c.copy-2.auto.out) in
    let bindings_size : length bindings ≡ bound_size * c.args.body.replacements = ap length c.part-2.ensures ∙ length_part _ _ _ c.requires.binds in
    let at_copy3 : Fronted output (((c.args.header ∷ atoms) ++ bindings) ++ actions) (words c.copy-3.new.out) =
    let b = c.args.body in
    fronted_then at_copy2 (1 + b.words + bound_size * b.replacements) actions c.copy-3.ensures
    (omega (arith, atoms_size, bindings_size, length-append atoms bindings)) (length_words_kept _ _ c.copy-3.auto.out) in
    at_copy3.is ∙ ap₂ (λ (a b : List ℕ). splice output 0 (((c.args.header ∷ a) ++ b) ++ actions)) c.part.ensures c.part-2.ensures
