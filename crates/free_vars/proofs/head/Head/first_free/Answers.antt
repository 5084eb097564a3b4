-- Each way out of the three tests is a way of `first_free`: the word is no variable, it is a target, or it is free unless it was seen. Assumes nothing.
use mathlib.Core.Bool.{not}
use mathlib.Core.Path.{sym, ap, ◌∙◌}
use Rattle.octets.specs.Regions.{elem}
use Rattle.octets.specs.Words.{words}
use Rattle.free_vars.proofs.Terms.{Variable, variable, no_variable, none_free, bound_free, var_free}
use Rattle.free_vars.proofs.head.Head.first_free.Goals as goal

-- ---- it is no variable

pub returns-in_default : goal.returns-in_default
returns-in_default c =
    let h = c.args.self.now in
    let ws = words h.rule.now in
    let none = no_variable h.globals ws h.from c.args.i c.word.ensures.is c.term_of.ensures c.in_default.not-Var in
    sym (none_free h.globals ws h.from c.args.i none)

-- ---- it is one

pub returns-then-not-is_target : goal.returns-then-not-is_target
returns-then-not-is_target c =
    let v : (let h = c.args.self.now in Variable h.globals (words h.rule.now) h.from c.args.i c.in-Var.v c.is_target.result) =
    variable c.word.ensures.is c.term_of.ensures c.in-Var.is c.is_target.ensures in
    ap not (c.among.ensures ∙ ap (elem c.in-Var.v) c.part.ensures) ∙ sym (var_free v c.if-not-is_target.true)

pub returns-else-not-is_target : goal.returns-else-not-is_target
returns-else-not-is_target c =
    let v : (let h = c.args.self.now in Variable h.globals (words h.rule.now) h.from c.args.i c.in-Var.v c.is_target.result) =
    variable c.word.ensures.is c.term_of.ensures c.in-Var.is c.is_target.ensures in
    ap not c.if-not-is_target.false ∙ sym (bound_free v c.if-not-is_target.false)
