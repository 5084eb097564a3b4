-- Each of the three tests has its way out, by what the mark and the outputs are then.
use mathlib.Core.Path.{◌∙◌, sym}
use Rattle.octets.specs.Words.{words}
use Rattle.merging.proofs.Marks.{Alike, is_alike, member_other, member_same, member_unlike}
use Rattle.merging.proofs.member.Goals as goal

pub returns-then-not-alike : goal.returns-then-not-alike
returns-then-not-alike c = member_unlike _ _ (sym c.alike.ensures ∙ c.if-not-alike.true)

pub returns-then-same_term : goal.returns-then-same_term
returns-then-same_term c =
    let at_put : (let a = c.args in Alike (words a.s.now) (words c.put.new.s) a.p a.q a.mark a.to) =
    is_alike c.requires (sym c.alike.ensures ∙ c.if-not-alike.false) c.put.ensures in
    member_same at_put c.output-a.ensures c.output-b.ensures (sym c.same_term.ensures ∙ c.if-same_term.true)

-- ---- their outputs differ, and that of the later one is written

pub returns : goal.returns
returns c =
    let at_put : (let a = c.args in Alike (words a.s.now) (words c.put.new.s) a.p a.q a.mark a.to) =
    is_alike c.requires (sym c.alike.ensures ∙ c.if-not-alike.false) c.put.ensures in
    member_other at_put c.output-a.ensures c.output-b.ensures
    (sym c.same_term.ensures ∙ c.if-same_term.false) c.put-2.ensures
