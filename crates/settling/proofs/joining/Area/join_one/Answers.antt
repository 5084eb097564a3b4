-- An equality that asks for no replacement becomes what `resolve_terms` writes of it. The replacement of any other is made in the groups behind it and in
-- the atoms, bound, and made in its left term, which the group's other equalities share. Assumes nothing.
use mathlib.Core.Option.{some}
use mathlib.Core.Path.{◌∙◌, ◌≡◌, sym}
use native.Mathlib.Omega.{arith}
use Rattle.octets.proofs.Words.{length_words_kept}
use Rattle.rules.specs.Canonicalize.{Replacement, replace_term}
use Rattle.bodies.specs.Terms.{sig}
use Rattle.canonicalize.proofs.Replacing.{asked_none, asked_some}
use Rattle.settling.specs.Joining.{join_ask}
use Rattle.settling.proofs.JoinOne.{one_read, is_join_ask, join_room, joined_asked, joined_still, not_renamed, renamed}
use Rattle.settling.proofs.joining.Area.join_one.Goals as goal
use Rattle.settling.proofs.joining.Area.join_one.Goals.{then-asked-left, else-asked-left}

pub resolve_terms-words-requires : goal.resolve_terms-words-requires
resolve_terms-words-requires c =
    let still = is_join_ask _ _ _ ∙ asked_none _ (sym c.in_default.is ∙ c.replacement_of.ensures) in
    join_room (one_read c.requires c.get-right.ensures.is) still

pub returns-in_default : goal.returns-in_default
returns-in_default c =
    let still = is_join_ask _ _ _ ∙ asked_none _ (sym c.in_default.is ∙ c.replacement_of.ensures) in
    joined_still (one_read c.requires c.get-right.ensures.is) still c.resolve_terms-words.ensures

pub replace-requires : goal.replace-requires
replace-requires c = omega (arith, c.requires, length_words_kept _ _ c.replace_met.auto.s)

pub put_all-requires : goal.put_all-requires
put_all-requires c = omega (arith, c.requires, length_words_kept _ _ (c.replace.auto.buf ∙ c.replace_met.auto.s))

pub returns : goal.returns
returns c =
    let r : Replacement = record { old = c.in-Some.asked.old; new = c.in-Some.asked.new } in
    let asks : (let a = c.args in join_ask (sig a.self.sign) a.left c.get-right.result ≡ some r) =
    is_join_ask _ _ _ ∙ asked_some _ c.in-Some.asked (sym c.in-Some.is ∙ c.replacement_of.ensures) in
    let new_left : c.if-asked-left.now ≡ replace_term r c.args.left =
    elim c.if-asked-left.branch [
      | then-asked-left w ↦ renamed _ _ _ w.if-asked-left.true w.now-is
      | else-asked-left w ↦ not_renamed _ _ _ w.if-asked-left.false w.now-is
    ] in
    joined_asked (one_read c.requires c.get-right.ensures.is) asks c.replace_met.ensures c.replace.ensures c.put_all.ensures.1 new_left
