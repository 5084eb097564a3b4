-- All that settling asks of a signature: G and the value-eq head.
-- Assumes nothing: these are definitions.
use Rattle.std.specs.Prelude.{ℕ, false, []}
use Rattle.rules.specs.Signature.{Sig}

abbrev pub sig_of : (globals value_eq : ℕ) → Sig
sig_of g v = record { globals = g; value_eq = v; flag = false; kinds = [] }
