-- The atoms are copied to the front of the scratch, settled there, and written with the actions as they stood. Assumes nothing.
use mathlib.Core.Path.{refl, ap, ◌∙◌}
use native.Mathlib.Omega.{arith}
use Rattle.octets.specs.Words.{words}
use Rattle.octets.proofs.Words.{length_words_kept}
use Rattle.rules.specs.Words.{actions_of}
use Rattle.words.specs.declared.Header.{Header}
use Rattle.settle_call.proofs.SettleGood.{some_word, some_good, header_there, few_globals, known_equals}
use Rattle.settle_call.proofs.SettleGood.{Found, found, part_asks, copy_asks, Copied, copied, Done, is_done, stand, ended}
use Rattle.settle_call.proofs.settle_good.Goals.{After-first_action-end, After-copy, After-settle-body}
use Rattle.settle_call.proofs.settle_good.Goals as goal

-- what is known behind each step
at_end : (c : After-first_action-end) → let a = c.args in Found (words a.rule.now) a.sign (words a.scratch.now) c.first_action-end.result
at_end c = found c.requires.some_flat c.requires.rule_in_bounds c.first_action-end.ensures

at_copy : (c : After-copy) → let a = c.args in Copied (words a.rule.now) a.sign c.first_action-end.result (words c.copy.new.out)
at_copy c =
    copied (at_end (goal.at.After-copy c).After-first_action-end) (length_words_kept _ _ c.copy.auto.out) c.part.ensures c.copy.ensures

at_settle : (c : After-settle-body) → let a = c.args in Done (words a.rule.now) a.sign c.first_action-end.result (words c.copy.new.out) c.settle-body.result (words c.settle-body.new.s)
at_settle c = is_done (at_copy (goal.at.After-settle-body c).After-copy) refl refl c.settle-body.ensures

pub first_action-end-requires : goal.first_action-end-requires
first_action-end-requires c = some_good c.requires.some_flat

pub overflow_sub-n : goal.overflow_sub-n
overflow_sub-n c = (at_end (goal.at.overflow_sub-n c).After-first_action-end).from

pub part-requires : goal.part-requires
part-requires c = part_asks (at_end (goal.at.part-requires c).After-first_action-end)

pub copy-requires : goal.copy-requires
copy-requires c = copy_asks (at_end (goal.at.copy-requires c).After-first_action-end) c.part.ensures

pub invariant_of-terms : goal.invariant_of-terms
invariant_of-terms c = record { few_globals = few_globals c.requires.some_flat; known_equals = known_equals c.requires.some_flat }

pub settle-body-requires : goal.settle-body-requires
settle-body-requires c = (at_copy (goal.at.settle-body-requires c).After-copy).asks

pub overflow_sub-count : goal.overflow_sub-count
overflow_sub-count c = omega (arith, (at_end (goal.at.overflow_sub-count c).After-first_action-end).inside, c.count.ensures)

pub part-requires-2 : goal.part-requires-2
part-requires-2 c = omega (arith, (at_end (goal.at.part-requires-2 c).After-first_action-end).inside, c.count.ensures)

pub get-requires : goal.get-requires
get-requires c = some_word c.requires.some_flat

pub header_word-requires : goal.header_word-requires
header_word-requires c = header_there c.requires.some_flat c.get.ensures

pub finish-words-requires : goal.finish-words-requires
finish-words-requires c =
    let k = goal.at.finish-words-requires c in
    let counted = ap (λ (h : Header). h.actions) c.header_word.ensures ∙ ap actions_of c.get.ensures.is in
    stand (at_end k.After-first_action-end) (at_settle k.After-settle-body) c.count.ensures c.part-2.ensures counted

pub returns : goal.returns
returns c =
    let k = goal.at.returns c in
    let counted = ap (λ (h : Header). h.actions) c.header_word.ensures ∙ ap actions_of c.get.ensures.is in
    ended (at_end k.After-first_action-end) (at_settle k.After-settle-body) c.count.ensures c.part-2.ensures counted c.finish-words.ensures
