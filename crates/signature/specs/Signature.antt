-- 01, "Words and records": what the readers of a signature answer, by the definition of reading it.
-- Assumes nothing: these are definitions.
use Rattle.std.specs.Prelude.{ℕ, zero, suc, ◌+◌, ◌≡◌, Bool, true, ◌&&◌, cond, List, length, get_or, ltb, eqb, Option, Some, None}
use Rattle.rules.specs.Words.{limit12, signature_base, within}
use Rattle.rules.specs.Refusals.{ok}
use Rattle.rules.specs.Signature.{Sig, heads, payload_at}
use Rattle.signature.specs.declared.Kind.{Kind}
use Rattle.signature.specs.declared.Kind.TheVariants.{Function, Constructor, Primitive}
use Rattle.signature.specs.declared.Signature.{Signature}

-- the word of a kind of heads
abbrev pub kind_word : Kind → ℕ
kind_word Function = signature_base
kind_word Constructor = signature_base + 1
kind_word Primitive = signature_base + 2

-- the struct for a signature that was read. The kinds stay in the words
abbrev pub sign_of : Sig → Signature
sign_of s = record { heads = heads s; globals = s.globals; equals = s.value_eq; flag = s.flag }

-- a kind of a head stands at an index
abbrev pub is_kind_at : List ℕ → ℕ → Bool
is_kind_at ws p = ltb p (length ws) && within signature_base 3 (get_or ws p 0)

-- n kinds stand from p on
unfoldable pub all_kinds : List ℕ → ℕ → ℕ → Bool
all_kinds ws zero p = true
all_kinds ws (suc n) p = is_kind_at ws p && all_kinds ws n (suc p)

-- of n words from p on, the index of the first that is no kind of a head
unfoldable pub first_bad : List ℕ → ℕ → ℕ → Option ℕ
first_bad ws zero p = None
first_bad ws (suc n) p = cond (is_kind_at ws p) (first_bad ws n (suc p)) (Some p)

-- the first four words are good: H, G, the value-eq head and the flag
pub record Begins (ws : List ℕ) (g : Signature) : Type 0 where
  pub heads_read : payload_at ws 1 limit12 0 ≡ ok g.heads
  pub globals_read : payload_at ws 0 (suc limit12) 1 ≡ ok g.globals
  pub equals_read : payload_at ws 0 g.heads 2 ≡ ok g.equals
  pub flag_word : ℕ
  pub flag_read : payload_at ws 0 2 3 ≡ ok flag_word
  pub flag_is : g.flag ≡ eqb flag_word 1
