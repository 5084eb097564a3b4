-- 01, "Turned back": a result or a refusal, and a name for each number.
-- A refusal has a number and a place. Places count words from index 0; 13 counts lines from 1. What is left as it was is said in `Calls`.
-- Assumes nothing: these are definitions.
use Rattle.std.specs.Prelude.{ℕ, Bool, true, false}

pub data Res (A : Type 0) : Type 0 where
  ok : A → Res A
  refuse : (number place : ℕ) → Res A

-- on with a result; a refusal stays as it is
abbrev pub ◌>>=◌ : {A B : Type 0} → Res A → (A → Res B) → Res B
◌>>=◌ (ok a) f = f a
◌>>=◌ (refuse n p) f = refuse n p

-- x, if the test holds
abbrev pub demand : {A : Type 0} → Bool → (number place : ℕ) → A → Res A
demand true n p x = ok x
demand false n p x = refuse n p

-- 1: a word of the signature, its length, or (tested last, at 2) a value-eq head that is not primitive.
-- Place: the first bad or surplus index, or the length if it is short
abbrev pub bad_signature : ℕ
bad_signature = 1

-- 2: counters fewer than H. Place 0
abbrev pub few_counters : ℕ
few_counters = 2

-- 3: less scratch than is asked for. Place 0
abbrev pub small_scratch : ℕ
small_scratch = 3

-- 4: a rule's length is beyond its limits. Place 0
abbrev pub bad_length : ℕ
bad_length = 4

-- 5: a word whose kind or payload does not fit, or a record that is short or long.
-- Place: the word, the first surplus one if it is long, or the length if it is short
abbrev pub unfit : ℕ
unfit = 5

-- 6: a word of an expression inside 32 calls. Place: that word
abbrev pub too_deep : ℕ
too_deep = 6

-- 7, the source's `Unbound`: a name that is not bound. Place: the name
abbrev pub unbound : ℕ
unbound = 7

-- 8, the source's `AlreadyDefined`: a let of a bound name. Place: the action word
abbrev pub already_defined : ℕ
already_defined = 8

-- 9: a counter is at 65,536 or more when it is used. Place: the kind 3 word
abbrev pub used_up : ℕ
used_up = 9

-- 10: the result is longer than the output. Place: the words needed
abbrev pub short_output : ℕ
short_output = 10

-- 11: a flat atom of a head, with no terms. Place: its word
abbrev pub no_terms : ℕ
no_terms = 11

-- 12: a flat equality with a count other than 2. Place: its word
abbrev pub not_two : ℕ
not_two = 12

-- 13: a line of the program's input is malformed, or it is one too many. Place: the line, from 1
abbrev pub bad_line : ℕ
bad_line = 13

-- 14: a byte slice is not whole words. Place 0
abbrev pub ragged : ℕ
ragged = 14
