-- The definition asks first whether the terms are one, then whether the left one is a variable, then the right one: the test and the cases of the two terms
-- tell the same. Assumes nothing.
use mathlib.Core.Path.{◌∙◌, sym}
use Rattle.canonicalize.proofs.Replacing.{Two, asks_left, asks_none, asks_right, no_var}
use Rattle.canonicalize.proofs.replacement_of.Goals as goal

-- it is a variable
pub returns-in-Var : goal.returns-in-Var
returns-in-Var c =
    let two : Two c.args.q c.args.a c.args.b c.good_term_of.result =
    record { apart = sym c.if-same_term.false ∙ c.same_term.ensures; left = c.good_term_of.ensures } in
    asks_left two c.in-Var.is

-- it is a variable, or none either
pub returns-in-Var-good_term_of : goal.returns-in-Var-good_term_of
returns-in-Var-good_term_of c =
    let two : Two c.args.q c.args.a c.args.b c.good_term_of.result =
    record { apart = sym c.if-same_term.false ∙ c.same_term.ensures; left = c.good_term_of.ensures } in
    asks_right two (no_var _ c.in_default.not-Var) c.good_term_of-2.ensures c.in-Var-good_term_of.is

pub returns : goal.returns
returns c =
    let two : Two c.args.q c.args.a c.args.b c.good_term_of.result =
    record { apart = sym c.if-same_term.false ∙ c.same_term.ensures; left = c.good_term_of.ensures } in
    asks_none two (no_var _ c.in_default.not-Var) c.good_term_of-2.ensures (no_var _ c.in_default-good_term_of.not-Var)
