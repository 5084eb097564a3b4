-- A first word tells an atom's head and how many terms it has: where those of two atoms differ the atoms are not alike, and else their inputs decide.
-- Assumes nothing.
use mathlib.Core.Path.{◌∙◌, ap₂, sym}
use Rattle.rules.specs.Signature.{same_terms}
use Rattle.bodies.proofs.Alike.{heads_differ, heads_same}
use Rattle.bodies.proofs.atoms.alike.Goals as goal

-- ---- the first words differ

pub returns-then-get : goal.returns-then-get
returns-then-get c =
    let k = c.requires in
    sym (heads_differ k.tab_at k.tab_at_2 (λ e. c.if-get.true (c.get.ensures.is ∙ e ∙ sym c.get-2.ensures.is)))

-- ---- they do not

pub returns : goal.returns
returns c =
    let k = c.requires in
    let one_word = sym c.get.ensures.is ∙ c.if-get.false ∙ c.get-2.ensures.is in
    c.same_terms.ensures ∙ ap₂ same_terms c.part.ensures c.part-2.ensures
    ∙ heads_same k.tab_at k.tab_at_2 c.good_atom_at-first.ensures c.good_atom_at-later.ensures one_word
