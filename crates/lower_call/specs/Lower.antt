-- 01, "Turned back" and "Around it": what lowering behind the tests asks and gives, by the definition's result. Assumes nothing: these are definitions.
use Rattle.std.specs.Prelude.{ℕ, ◌*◌, ◌≤◌, ◌<◌, ◌≡◌, List, ◌++◌, length, Result}
use Rattle.std.specs.Prelude.{Ok, Err}
use Rattle.octets.specs.Words.{words}
use Rattle.rules.specs.Words.{max_written}
use Rattle.rules.specs.Refusals.{Res, ok, refuse}
use Rattle.rules.specs.Signature.{Sig, heads, read_signature}
use Rattle.rules.specs.Written.{Rule, read_written}
use Rattle.rules.specs.Flat.{encode}
use Rattle.rules.specs.ToCoreActions.{CoreRule, to_core_rule}
use Rattle.rules.specs.Canonicalize.{bindings}
use Rattle.rules.specs.RemoveDupVars.{settle}
use Rattle.refusals.specs.Numbers.{number_of}
use Rattle.refusals.specs.declared.Refusal.{Refusal}
use Rattle.signature.specs.declared.Signature.{Signature}
use Rattle.free_vars.specs.Head.{WroteIfRoom}
use Rattle.answers.specs.declared.Counts.{Counts}

-- the words are read as the signature s, which `sign` tells of, and as the rule r under it
pub record WrittenUnder (gs ws : List ℕ) (sign : Signature) (s : Sig) (r : Rule) : Type 0 where
  pub signed : read_signature gs ≡ ok s
  pub globals : sign.globals ≡ s.globals
  pub equals : sign.equals ≡ s.value_eq
  pub written : read_written s ws ≡ ok r
  pub short : length ws ≤ max_written

-- there are such, a counter for each head, and scratch: 32 words for each word of the rule
pub record LowerAsks (gs ws : List ℕ) (sign : Signature) (cs : List ℕ) (room : ℕ) : Type 0 where
  pub sig : Sig
  pub rule : Rule
  pub under : WrittenUnder gs ws sign sig rule
  pub counters : heads sig ≤ length cs
  pub scratch : 32 * length ws ≤ room

-- a refusal: its number and place; counters, words, and output, bytes, are as they were
pub record TurnedBack (number place : ℕ) (cs cs' l l' : List ℕ) (r : Refusal) : Type 0 where
  pub number' : number_of r.reason ≡ number
  pub place' : r.place ≡ place
  pub counters : cs' ≡ cs
  pub output : l' ≡ l

-- a result: it is written where there is room for it, and only then are the counters used
pub record LoweredTo (s : Sig) (c : CoreRule) (cs cs' l l' : List ℕ) (r : Counts) : Type 0 where
  pub wrote : WroteIfRoom (encode (settle s c.body).tabs (bindings (settle s c.body).repls ++ c.head)) r.words l l'
  pub replacements : r.replacements ≡ length (settle s c.body).repls
  pub passes : r.passes ≡ (settle s c.body).passes
  pub counted : r.words ≤ length (words l) → cs' ≡ c.next
  pub uncounted : length (words l) < r.words → cs' ≡ cs

abbrev pub LowersTo : Sig → Res CoreRule → (cs cs' l l' : List ℕ) → Result Counts Refusal → Type 0
LowersTo s (ok c) cs cs' l l' (Ok r) = LoweredTo s c cs cs' l l' r
LowersTo s (ok c) cs cs' l l' (Err r) = ⊥
LowersTo s (refuse m p) cs cs' l l' (Ok r) = ⊥
LowersTo s (refuse m p) cs cs' l l' (Err r) = TurnedBack m p cs cs' l l' r

-- so for whatever signature and rule the words are read as
abbrev pub LowersRead : (gs ws : List ℕ) → Signature → (cs cs' l l' : List ℕ) → Result Counts Refusal → Type 0
LowersRead gs ws sign cs cs' l l' r = (s : Sig) (rl : Rule) → WrittenUnder gs ws sign s rl → LowersTo s (to_core_rule s rl cs) cs cs' l l' r
