-- What settling as a whole asks and gives: the definition `settle`, for every flat body whose words stand in the scratch.
-- Assumes nothing: these are definitions.
use Rattle.std.specs.Prelude.{◌≡◌, List, ℕ, ◌+◌, ◌-◌, ◌*◌, ◌/◌, ◌<◌, ◌≤◌, length}
use Rattle.octets.specs.Regions.{At, Only}
use Rattle.rules.specs.Signature.{Sig}
use Rattle.rules.specs.Flat.{Atom, tab_words, words_of}
use Rattle.rules.specs.RemoveDupVars.{settle}
use Rattle.bodies.specs.Standing.{atoms_in, BodyAt}
use Rattle.canonicalize.specs.Canonicalize.{binding_size, binding_words}
use Rattle.merging.specs.declared.Merged.{Merged}
use Rattle.settling.specs.declared.Settled.{Settled}

-- the words of some body stand at `at`, here told by the atoms that are read there, and there is room behind them
pub record SettleAsks (l : List ℕ) (at n : ℕ) : Type 0 where
  pub body : BodyAt (atoms_in l at n) l at n
  pub room : at + 8 * n + 3 ≤ length l
  pub small : at + 2 * n < 0x1000_0000

-- the settled atoms and the bindings stand where the result says, its counts are the definition's, and nothing changed but the words lent
pub record SettledAt (s : Sig) (xs : List Atom) (l m : List ℕ) (at n : ℕ) (r : Settled) : Type 0 where
  pub tabs : At (words_of tab_words (settle s xs).tabs) m r.at
  pub words : r.words ≡ length (words_of tab_words (settle s xs).tabs)
  pub atoms : r.atoms ≡ length (settle s xs).tabs
  pub binds : At (binding_words (settle s xs).repls) m r.binds
  pub replacements : r.replacements ≡ length (settle s xs).repls
  pub passes : r.passes ≡ (settle s xs).passes
  pub only : Only l m at (at + 8 * n + 3)

-- what a body without atoms settles to: no atom, no replacement, and the one pass that finds nothing to merge
abbrev pub settled_none : ℕ → Settled
settled_none at = record { at = at; words = 0; atoms = 0; binds = at; replacements = 0; passes = 1 }

-- what stands behind the last pass
abbrev pub settled_by : Merged → (body binds end passes : ℕ) → Settled
settled_by t body binds end passes =
    record { at = body; words = t.kept; atoms = t.atoms; binds = binds; replacements = (end - binds) / binding_size; passes = passes }
