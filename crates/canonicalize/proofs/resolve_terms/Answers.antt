-- What becomes of an equality that asks for nothing is written as the definition has it: no words if its terms are one, else the four of value-eq.
-- Assumes nothing.
use mathlib.Core.Bool.{Bool}
use mathlib.Core.Path.{◌∙◌, ◌≡◌, ap, sym}
use lib.ListN.{length}
use Rattle.octets.proofs.Splice.{splice_nil}
use Rattle.octets.specs.Regions.{splice}
use Rattle.octets.specs.Words.{words}
use Rattle.rules.specs.Signature.{same_term}
use Rattle.bodies.specs.Terms.{sig}
use Rattle.canonicalize.specs.Canonicalize.{resolve_terms}
use Rattle.canonicalize.proofs.resolve_terms.Goals as goal

-- ---- they are one

pub returns-then-same_term : goal.returns-then-same_term
returns-then-same_term c =
    let at_same : (x : Bool) → c.same_term.result ≡ x → let a = c.args in resolve_terms x (sig a.q) a.a a.b ≡ resolve_terms (same_term a.a a.b) (sig a.q) a.a a.b =
    λ x e. let a = c.args in ap (λ (y : Bool). resolve_terms y (sig a.q) a.a a.b) (sym e ∙ c.same_term.ensures) in
    let a = c.args in
    let f = at_same _ c.if-same_term.true in
    (ap length f, sym (splice_nil (words a.s.now) a.to) ∙ ap (splice (words a.s.now) a.to) f)
