-- The contract of `tulgarent_lower` and demand 3 joined: the contract says that answer and output are the definition's, and of these demand 3 speaks.
-- Assumes nothing beyond what demand 3 supposes.
use Prim.Native.Nat.{ℕ}
use mathlib.Core.Path.{sym, ◌∙◌, ap, subst}
use mathlib.Core.List.{List}
use Rattle.rules.specs.Calls.{lower}
use Rattle.meaning.proofs.Demand3Bytes.{demand3_bytes}
use Rattle.answers.specs.declared.Answer.{Answer}
use Rattle.tulgarent.specs.Faithful.{Carried, LoweredFaithful}

pub lowered_faithful : LoweredFaithful
lowered_faithful signature rule counters output scratch r output' counters' g z =
    let o = lower signature rule counters output scratch in
    let f = demand3_bytes signature rule counters output scratch (sym (ap (λ (a : Answer). a.number) g.answer) ∙ z) in
    let a = g.answer in
    subst (λ (l : List ℕ). Carried signature rule counters l r.words r.replacements) (sym g.writes)
    (subst (λ (n : ℕ). Carried signature rule counters o.output n r.replacements) (sym (ap (λ (x : Answer). x.words) a))
    (subst (λ (n : ℕ). Carried signature rule counters o.output o.written n) (sym (ap (λ (x : Answer). x.replacements) a)) f))
