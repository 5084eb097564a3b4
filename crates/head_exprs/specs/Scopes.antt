-- 01, "Lowering the head": bound at first are the variables of the flat atoms, then the names that were let. How the scratch says which.
-- Assumes nothing: these are definitions.
use Rattle.std.specs.Prelude.{◌≡◌, List, Bool, ◌||◌, cond, ℕ, ◌+◌, ◌*◌, ◌<◌, ◌≤◌, ltb, length}
use Rattle.octets.specs.Regions.{part}
use Rattle.rules.specs.Words.{limit12, name_base, fresh_base}
use Rattle.rules.specs.Signature.{Sig, elem}
use Rattle.head_exprs.specs.declared.scope.Scope.{Scope}

-- where no name is let
abbrev pub first_scope : (globals body first : ℕ) → Scope
first_scope g b f = record { globals = g; body = b; first = f; names = 0 }

unfoldable pub in_scope : List ℕ → Scope → ℕ → Bool
in_scope s c w = elem w (part s 0 c.body) || elem w (part s c.first c.names)

-- a word below the first variable, which is a literal's or a global's, may always be read; any other where it is in scope
abbrev pub may_read : List ℕ → Scope → ℕ → Bool
may_read s c w = ltb w (name_base + c.globals) || in_scope s c w

-- a word below the first variable is taken where it is let; any other where it is in scope
abbrev pub is_taken : List ℕ → Scope → ℕ → Bool
is_taken s c w = cond (ltb w (name_base + c.globals)) (elem w (part s c.first c.names)) (in_scope s c w)

-- t names more are let
abbrev pub grown : Scope → ℕ → Scope
grown c t = record { globals = c.globals; body = c.body; first = c.first; names = c.names + t }

-- its regions lie in the scratch
pub record ScopeFits (s : List ℕ) (c : Scope) : Type 0 where
  pub few : c.globals ≤ limit12
  pub body : c.body ≤ length s
  pub names : c.first + c.names ≤ length s

-- the scratch says which names are bound: of a variable by both regions, of a global by the names let
pub record Scoped (sig : Sig) (bound s : List ℕ) (c : Scope) : Type 0 where
  pub globals : c.globals ≡ sig.globals
  pub few : c.globals ≤ limit12
  pub variables : (w : ℕ) → name_base + c.globals ≤ w → w < fresh_base → elem w bound ≡ in_scope s c w
  pub global : (w : ℕ) → w < name_base + c.globals → elem w bound ≡ elem w (part s c.first c.names)

-- the regions lie where a walk from `at` on does not write
pub record ScopeRoom (n at to sp : ℕ) (c : Scope) : Type 0 where
  pub few : c.globals ≤ limit12
  pub body : c.body ≤ to
  pub names : to + 4 * n ≤ c.first + 4 * at
  pub top : c.first + c.names ≤ sp

-- there are names of which the scratch says so
pub record Names (sig : Sig) (s : List ℕ) (c : Scope) : Type 0 where
  pub bound : List ℕ
  pub scoped : Scoped sig bound s c
