-- 01, "Words and records" and "Turned back": what the code answers for a written rule, refusals 5 and 6 included.
-- The readings themselves are those of `rules`.
-- Assumes nothing: these are definitions.
use Rattle.std.specs.Prelude.{ℕ, zero, suc, Option, Some, None, Result, ◌+◌, ◌<◌, min, ◌≡◌, false, cond, List, length, get_or, replicate, ltb}
use Rattle.rules.specs.Words.{limit12, limit16, name_base, literal_base, count_of}
use Rattle.rules.specs.Refusals.{Res, ok, refuse, ◌>>=◌, unfit}
use Rattle.refusals.specs.Numbers.{said}
use Rattle.refusals.specs.declared.Refusal.{Refusal}
use Rattle.rules.specs.Signature.{Sig}
use Rattle.rules.specs.Written.{Read, Shape, is_leaf, is_call, is_bad, shape_at}

-- a signature of H heads and G globals; a kind 3 word can tell 4,096 heads apart, and no signature has more. Of a signature, reading a rule asks nothing else
abbrev pub with_globals : (heads globals : ℕ) → Sig
with_globals H G = record { globals = G; value_eq = 0; flag = false; kinds = replicate (min H limit12) 0 }

-- G tells what a name is taken as; whether a rule is good does not depend on it
abbrev pub with_heads : ℕ → Sig
with_heads H = with_globals H 0

-- ---- the answers

-- where a reading ends, or its refusal
abbrev pub ending_of : {A : Type 0} → Res (Read A) → Res ℕ
ending_of (ok r) = ok r.at
ending_of (refuse n p) = refuse n p

-- a whole record ends with its words
abbrev pub whole_of : {A : Type 0} → List ℕ → Res A → Res ℕ
whole_of ws (ok r) = ok (length ws)
whole_of ws (refuse n p) = refuse n p

-- what is taken at p, seen as something else; or refusal 5 there
abbrev pub or_unfit : {A B : Type 0} → (A → B) → Option A → (p : ℕ) → Res B
or_unfit f (Some x) p = ok (f x)
or_unfit f None p = refuse unfit p

-- ---- several things, one after the other

-- f gives what a reader may answer
abbrev pub Tells : (ℕ → Result ℕ Refusal → Type 0) → (ℕ → Res ℕ) → Type 0
Tells answers f = (p : ℕ) (r : Result ℕ Refusal) → answers p r → said r ≡ f p

-- n of them from p on, each from where the one before it ends
unfoldable pub ends : (ℕ → Res ℕ) → (n p : ℕ) → Res ℕ
ends f zero p = ok p
ends f (suc n) p = ◌>>=◌ (f p) (ends f n)

-- ---- how an expression begins

-- where the leaves of a kind end: names are of kind 1, literals of kind 2
abbrev pub leaf_end : (kind : ℕ) → ℕ
leaf_end k = cond (ltb k 2) (name_base + limit12) (literal_base + limit16)

-- how many arguments a word of this shape takes
abbrev pub taken : Shape → (w p : ℕ) → Res ℕ
taken is_leaf w p = ok 0
taken is_call w p = ok (count_of w)
taken is_bad w p = refuse unfit p

-- and the word at p
abbrev pub taken_at : Sig → List ℕ → ℕ → Res ℕ
taken_at s ws p = taken (shape_at s ws p) (get_or ws p 0) p

-- an expression begins at p, with a word that takes n arguments
pub record Starts (s : Sig) (ws : List ℕ) (p n : ℕ) : Type 0 where
  pub takes : taken_at s ws p ≡ ok n
  pub inside : p < length ws
