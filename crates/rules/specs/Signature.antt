-- 01, "Words and records": the signature, and which words are variables under it.
-- Assumes nothing: these are definitions.
use Rattle.std.specs.Prelude.{ℕ, zero, suc, ◌+◌, ◌-◌, Bool, true, false, ◌||◌, ◌&&◌, List, [], ◌∷◌, length, get_or, leb, ltb, eqb}
pub use Rattle.octets.specs.Regions.{elem}
use Rattle.rules.specs.Words.{limit12, fresh_base, name_base, signature_base, within}
use Rattle.rules.specs.Refusals.{Res, ok, ◌>>=◌, demand, bad_signature}

-- G, the value-eq head, the union-to-set flag, and the kind of each head: 0 function, 1 constructor, 2 primitive. H is the number of kinds
pub record Sig : Type 0 where
  pub globals : ℕ
  pub value_eq : ℕ
  pub flag : Bool
  pub kinds : List ℕ

-- H
abbrev pub heads : Sig → ℕ
heads s = length s.kinds

abbrev pub is_constructor : Sig → ℕ → Bool
is_constructor s h = eqb (get_or s.kinds h 0) 1

-- ---- terms

abbrev pub is_fresh : ℕ → Bool
is_fresh w = leb fresh_base w

-- a word of a written expression is a name, not a literal
abbrev pub is_name : ℕ → Bool
is_name w = leb name_base w

-- a term is a variable: a fresh variable, or a name from G up. Every other term is a global or a literal
abbrev pub is_var : Sig → ℕ → Bool
is_var s w = is_fresh w || leb (name_base + s.globals) w

-- two terms are equal: the one test of it. Two literals are equal when their numbers are
abbrev pub same_term : ℕ → ℕ → Bool
same_term a b = eqb a b

abbrev pub same_terms : List ℕ → List ℕ → Bool
same_terms [] [] = true
same_terms [] (b ∷ bs) = false
same_terms (a ∷ as') [] = false
same_terms (a ∷ as') (b ∷ bs) = same_term a b && same_terms as' bs

-- ---- reading it: refusal 1 at the lowest index that is bad

-- the payload at index p, which is one of `size` numbers from `low` on
abbrev pub payload_at : List ℕ → (low size p : ℕ) → Res ℕ
payload_at ws low size p =
    demand (ltb p (length ws) && within (signature_base + low) size (get_or ws p 0)) bad_signature p (get_or ws p 0 - signature_base)

-- the kinds of n heads, from index p on
abbrev pub kinds_at : List ℕ → ℕ → ℕ → Res (List ℕ)
kinds_at ws zero p = ok []
kinds_at ws (suc n) p = do
  k ← payload_at ws 0 3 p
  ks ← kinds_at ws n (suc p)
  ok (k ∷ ks)

-- H, G, the value-eq head, the flag and the kinds; then a surplus word; and last the kind of value-eq
abbrev pub read_signature : List ℕ → Res Sig
read_signature ws = do
  h ← payload_at ws 1 limit12 0
  g ← payload_at ws 0 (suc limit12) 1
  v ← payload_at ws 0 h 2
  f ← payload_at ws 0 2 3
  ks ← kinds_at ws h 4
  n ← demand (eqb (length ws) (4 + h)) bad_signature (4 + h) h
  demand (eqb (get_or ks v 0) 2) bad_signature 2 (record { globals = g; value_eq = v; flag = eqb f 1; kinds = ks })
