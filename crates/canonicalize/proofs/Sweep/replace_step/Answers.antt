-- Trying the atom at p: if it is an equality whose terms ask for a replacement, that is made and bound; in each other case nothing is asked, so nothing may
-- change. Assumes nothing.
use mathlib.Core.Path.{◌∙◌, sym}
use Rattle.octets.proofs.Words.{length_words_kept}
use Rattle.words.proofs.AtomLaws.{head_other}
use Rattle.bodies.specs.Terms.{sig}
use Rattle.canonicalize.proofs.Replacing.{asks_terms, met, step_none, step_other, step_some}
use Rattle.canonicalize.proofs.Sweep.replace_step.Goals as goal

pub returns-in_default : goal.returns-in_default
returns-in_default c =
    step_other (sig c.args.self.sign) c.requires (head_other c.requires.begins.first c.good_atom_at-atom.ensures c.in_default.is)

pub returns-in_err-asked : goal.returns-in_err-asked
returns-in_err-asked c =
    let at_equality = met c.requires c.good_atom_at-atom.ensures c.in-Eq.is in
    let asked = asks_terms (sig c.args.self.sign) at_equality c.get-a.ensures.is c.get-b.ensures.is c.replacement_of.ensures in
    rw c.from_residual.ensures (step_none (sig c.args.self.sign) c.requires (sym c.in_err-asked.was ∙ asked))

pub returns : goal.returns
returns c =
    let at_equality = met c.requires c.good_atom_at-atom.ensures c.in-Eq.is in
    let asked = asks_terms (sig c.args.self.sign) at_equality c.get-a.ensures.is c.get-b.ensures.is c.replacement_of.ensures in
    step_some (sig c.args.self.sign) c.requires (sym c.in_ok-asked.was ∙ asked) c.replace.ensures (length_words_kept _ _ c.replace.auto.s) c.put_all.ensures.1
