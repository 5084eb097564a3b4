-- The equality at p is resolved by its two terms, and those are what is read. Assumes nothing.
use mathlib.Core.Path.{◌∙◌, ◌≡◌, ap}
use native.Mathlib.Omega.{arith}
use lib.ListN.{length}
use Rattle.octets.specs.Regions.{splice}
use Rattle.octets.specs.Words.{words}
use Rattle.rules.specs.Signature.{same_term}
use Rattle.bodies.specs.Terms.{sig}
use Rattle.canonicalize.specs.Canonicalize.{resolve_at, resolve_terms}
use Rattle.canonicalize.proofs.Replacing.{equality_read}
use Rattle.canonicalize.proofs.Resolving.{resolve_read}
use Rattle.canonicalize.proofs.resolve_one.Goals as goal

pub resolve_terms-requires : goal.resolve_terms-requires
resolve_terms-requires c =
    let at_atom = equality_read {l = words c.args.s.now} c.requires.equality c.good_atom_at-atom.ensures in
    let at_terms : (let a = c.args in let x = c.get-a.result in let y = c.get-b.result in resolve_terms (same_term x y) (sig a.q) x y ≡ resolve_at (sig a.q) (words a.s.now) a.p) =
    resolve_read (sig c.args.q) at_atom c.get-a.ensures.is c.get-b.ensures.is in
    omega (arith, c.requires.room, ap length at_terms)

pub returns : goal.returns
returns c =
    let at_atom = equality_read {l = words c.args.s.now} c.requires.equality c.good_atom_at-atom.ensures in
    let at_terms : (let a = c.args in let x = c.get-a.result in let y = c.get-b.result in resolve_terms (same_term x y) (sig a.q) x y ≡ resolve_at (sig a.q) (words a.s.now) a.p) =
    resolve_read (sig c.args.q) at_atom c.get-a.ensures.is c.get-b.ensures.is in
    let a = c.args in
    let k = c.resolve_terms.ensures in
    (k.0 ∙ ap length (at_terms), k.1 ∙ ap (splice (words a.s.now) a.to) at_terms)
