-- 01, "Words and records": a settled rule in parts, and its words put together. Assumes nothing: these are definitions.
use Rattle.std.specs.Prelude.{ℕ, ◌+◌, ◌*◌, ◌≤◌, ◌<◌, ◌≡◌, List, ◌∷◌, ◌++◌, length}
use Rattle.octets.specs.Regions.{part, At}
use Rattle.rules.specs.Words.{limit12}
use Rattle.rules.specs.Flat.{CoreAction, tab_words, action_words, words_of}
use Rattle.rules.specs.Canonicalize.{bindings}
use Rattle.rules.specs.RemoveDupVars as rules
use Rattle.settling.specs.declared.Settled.{Settled}

-- how many words a binding has in the output
abbrev pub bound_size : ℕ
bound_size = 3

-- two runs lie inside what they are copied from, and have room in the output with a header and the actions' words
pub record Fits (body : Settled) (rest output scratch : ℕ) : Type 0 where
  pub atoms : body.at + body.words ≤ scratch
  pub binds : body.binds + 3 * body.replacements ≤ scratch
  pub room : 1 + body.words + 3 * body.replacements + rest ≤ output

abbrev pub emitted : ℕ → List ℕ → Settled → List ℕ → List ℕ
emitted header scratch body actions =
    ((header ∷ part scratch body.at body.words) ++ part scratch body.binds (3 * body.replacements)) ++ actions

-- a settled body b, where its words stand, and a head by its words; and how many there are of each
pub record Parts (b : rules.Settled) (xs : List CoreAction) (scratch : List ℕ) (body : Settled) (many : ℕ) (head_words : List ℕ) : Type 0 where
  pub tabs : At (words_of tab_words b.tabs) scratch body.at
  pub words : body.words ≡ length (words_of tab_words b.tabs)
  pub atoms : body.atoms ≡ length b.tabs
  pub binds : At (words_of action_words (bindings b.repls)) scratch body.binds
  pub replacements : body.replacements ≡ length b.repls
  pub head : head_words ≡ words_of action_words xs
  pub actions : many ≡ length xs
  pub few : length b.tabs < limit12
  pub some : length (bindings b.repls ++ xs) < limit12

-- there are such
pub record Stand (scratch : List ℕ) (body : Settled) (actions : ℕ) (head_words : List ℕ) : Type 0 where
  pub settled : rules.Settled
  pub kept : List CoreAction
  pub parts : Parts settled kept scratch body actions head_words
