-- The atom's first word says whether it is an equality or a head's, and how many terms follow: what fits is read as a row of terms, and the rest is
-- refused with its own number. Assumes nothing.
use native.Mathlib.Omega.{arith}
use Rattle.octets.specs.Words.{words}
use Rattle.flat.proofs.Laws.{AtomAt, atom_there, atom_other, pair_goes, odd_refused, head_refused, empty_refused, table_goes}
use mathlib.Core.Path.{◌∙◌}
use Rattle.flat.proofs.Record.atom.Goals as goal

-- no atom begins with this word
pub returns-in_default : goal.returns-in_default
returns-in_default c =
    let a = c.args in
    rw (c.at.ensures.0, c.at.ensures.1) (atom_other a.self.now.heads (words a.self.now.rule.now) a.at c.first_at.ensures c.in_default.is)

pub returns-then-self-number : goal.returns-then-self-number
returns-then-self-number c =
    let at_first : (let a = c.args in AtomAt (words a.self.now.rule.now) a.at c.in-Some.atom) = atom_there c.first_at.ensures c.in-Some.is in
    let r = c.at-then-self-number.ensures in
    rw (r.0, r.1) (head_refused c.args.self.now.heads at_first c.in-Head.is c.if-self-number.true)

pub returns-then-atom-eq0 : goal.returns-then-atom-eq0
returns-then-atom-eq0 c =
    let at_first : (let a = c.args in AtomAt (words a.self.now.rule.now) a.at c.in-Some.atom) = atom_there c.first_at.ensures c.in-Some.is in
    let r = c.at-then-atom-eq0.ensures in
    rw (r.0, r.1) (empty_refused c.args.self.now.heads at_first c.in-Head.is (omega arith) c.if-atom-eq0.true)

-- ---- its terms

pub returns-then-atom-eq2 : goal.returns-then-atom-eq2
returns-then-atom-eq2 c =
    let at_first : (let a = c.args in AtomAt (words a.self.now.rule.now) a.at c.in-Some.atom) = atom_there c.first_at.ensures c.in-Some.is in
    c.terms.ensures ∙ pair_goes c.args.self.now.heads at_first c.in-Eq.is c.if-atom-eq2.true

pub returns-else-atom-eq2 : goal.returns-else-atom-eq2
returns-else-atom-eq2 c =
    let at_first : (let a = c.args in AtomAt (words a.self.now.rule.now) a.at c.in-Some.atom) = atom_there c.first_at.ensures c.in-Some.is in
    let r = c.at-else-atom-eq2.ensures in
    rw (r.0, r.1) (odd_refused c.args.self.now.heads at_first c.in-Eq.is c.if-atom-eq2.false)

pub returns-else-atom-eq0 : goal.returns-else-atom-eq0
returns-else-atom-eq0 c =
    let at_first : (let a = c.args in AtomAt (words a.self.now.rule.now) a.at c.in-Some.atom) = atom_there c.first_at.ensures c.in-Some.is in
    c.terms-in-Head.ensures ∙ table_goes c.args.self.now.heads at_first c.in-Head.is (omega arith) c.if-atom-eq0.false
