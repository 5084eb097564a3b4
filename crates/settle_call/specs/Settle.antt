-- 01, "Around it": what settling a good flat rule asks, and how it ends. Assumes nothing: these are definitions.
use Rattle.std.specs.Prelude.{ℕ, ◌≤◌, ◌<◌, ◌≡◌, List, ◌++◌, length}
use Rattle.rules.specs.Words.{limit12, max_flat}
use Rattle.rules.specs.Refusals.{ok}
use Rattle.rules.specs.Signature.{Sig, heads}
use Rattle.rules.specs.Flat.{FlatRule, encode, read_flat}
use Rattle.rules.specs.Canonicalize.{bindings}
use Rattle.rules.specs.RemoveDupVars.{settle}
use Rattle.meaning.specs.Meaning.{All}
use Rattle.meaning.specs.ReadBack.{Encodable}
use Rattle.signature.specs.declared.Signature.{Signature}
use Rattle.free_vars.specs.Head.{WroteIfRoom}
use Rattle.answers.specs.declared.Counts.{Counts}

-- the words are the flat rule f under the signature s, whose numbers are within the limits of 01 and are told by `sign`
pub record FlatUnder (ws : List ℕ) (sign : Signature) (s : Sig) (f : FlatRule) : Type 0 where
  pub same_heads : sign.heads ≡ heads s
  pub same_globals : sign.globals ≡ s.globals
  pub same_equals : sign.equals ≡ s.value_eq
  pub few_heads : heads s ≤ limit12
  pub few_globals_lem : s.globals ≤ limit12
  pub known_equals : s.value_eq < heads s
  pub read : read_flat s ws ≡ ok f
  pub fits : All Encodable f.atoms
  pub short : length ws ≤ max_flat

-- there are such
pub record SomeFlat (ws : List ℕ) (sign : Signature) : Type 0 where
  pub sig : Sig
  pub rule : FlatRule
  pub under : FlatUnder ws sign sig rule

-- the settled rule's words are written, if the output l has room for them, and it has become m. The two counts are the definition's
pub record EndedWith (s : Sig) (f : FlatRule) (r : Counts) (l m : List ℕ) : Type 0 where
  pub wrote : WroteIfRoom (encode (settle s f.atoms).tabs (bindings (settle s f.atoms).repls ++ f.actions)) r.words l m
  pub replacements : r.replacements ≡ length (settle s f.atoms).repls
  pub passes : r.passes ≡ (settle s f.atoms).passes
