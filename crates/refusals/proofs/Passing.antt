-- A refusal that a `?` passes on is the whole answer. Assumes nothing.
use mathlib.Core.Path.{◌≡◌}
use Rattle.std.specs.Prelude.{Result}
use Rattle.std.specs.Result.{IsErrAnd}
use Rattle.std.proofs.lemmas.Result.{err_from_is_err_and}
use Rattle.rules.specs.Refusals.{Res, refuse}
use Rattle.refusals.specs.Numbers.{number_of, said}
use Rattle.refusals.specs.declared.Refusal.{Refusal}

pub passed_on : {A : Type 0} (r : Result A Refusal) (e : Refusal) {x : Res A} → IsErrAnd r (λ (y : Refusal). y ≡ e) → refuse (number_of e.reason) e.place ≡ x → said r ≡ x
passed_on r e h is =
    let p = err_from_is_err_and r h in
    rw (p.1, p.2) is
