-- 01, "Turned back": the tests that come before any work, in their order, and the signature that they leave.
-- Assumes nothing: these are definitions.
use Rattle.std.specs.Prelude.{ℕ, ⊤, List, leb}
use Rattle.rules.specs.Words.{max_written, max_flat}
use Rattle.rules.specs.Refusals.{Res, ok, ◌>>=◌, demand, few_counters}
use Rattle.rules.specs.Signature.{Sig, heads, read_signature}
use Rattle.rules.specs.Written.{read_written}
use Rattle.rules.specs.Flat.{read_flat}
use Rattle.rules.specs.Calls.{scratch_fits, length_fits}

-- of the sizes: 3, 4
abbrev pub sizes_fit : (most : ℕ) → (rule : List ℕ) → (scratch : ℕ) → Res ⊤
sizes_fit most rule scratch = do
  n ← scratch_fits scratch
  l ← length_fits most rule
  ok tt

-- of settling: 1, 3, 4, then 5, 11 and 12. Free variables ask for no scratch: as if there were enough
abbrev pub flat_front : (signature rule : List ℕ) → (scratch : ℕ) → Res Sig
flat_front signature rule scratch = do
  s ← read_signature signature
  n ← scratch_fits scratch
  l ← length_fits max_flat rule
  f ← read_flat s rule
  ok s

-- of lowering: 1, 2, 3, 4, then 5 and 6
abbrev pub written_front : (signature rule : List ℕ) → (counters scratch : ℕ) → Res Sig
written_front signature rule counters scratch = do
  s ← read_signature signature
  c ← demand (leb (heads s) counters) few_counters 0 counters
  n ← scratch_fits scratch
  l ← length_fits max_written rule
  r ← read_written s rule
  ok s
