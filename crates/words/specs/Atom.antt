-- 01, "Words and records", flat rules: an atom's head is a head number or the equality sign, and its terms are variables, globals and literals.
-- For each case of the enums that say so: 01's number and values.
-- Assumes nothing: these are definitions.
use Rattle.std.specs.Prelude.{ℕ, ◌+◌, ◌-◌, ◌≤◌, ◌<◌, ◌≡◌, ◌||◌, cond, List, leb, length, get_or}
use Rattle.rules.specs.Words.{name_base, literal_base, head_base, equality_base, equality_word, head_of, count_of}
use Rattle.rules.specs.Signature.{is_fresh}
use Rattle.words.specs.declared.Term.{Term}
use Rattle.words.specs.declared.Term.TheVariants.{Var, Global, Literal}
use Rattle.words.specs.declared.HeadOrEq.{HeadOrEq}
use Rattle.words.specs.declared.HeadOrEq.TheVariants.{Head, Eq}
use Rattle.words.specs.declared.Atom.{Atom}

-- ---- terms: 0 a variable, 1 a global, 2 a literal, each with its word

abbrev pub term_number : Term → ℕ
term_number (Var w) = 0
term_number (Global w) = 1
term_number (Literal w) = 2

abbrev pub term_word : Term → ℕ
term_word (Var w) = w
term_word (Global w) = w
term_word (Literal w) = w

-- of a term's word, under a signature with G globals
unfoldable pub term_number_of : (G : ℕ) → ℕ → ℕ
term_number_of G w = cond (is_fresh w || leb (name_base + G) w) 0 (cond (leb name_base w) 1 2)

-- the term that w is
pub record TermSays (r : Term) (G w : ℕ) : Type 0 where
  pub number_is : term_number r ≡ term_number_of G w
  pub word_is : term_word r ≡ w

-- ---- atoms: the kind of the first word, 3 or 4, and its head's number, which the equality sign has not

abbrev pub head_kind : HeadOrEq → ℕ
head_kind (Head h) = 3
head_kind Eq = 4

abbrev pub head_number : HeadOrEq → ℕ
head_number (Head h) = h
head_number Eq = 0

-- the head that a first word says
pub record HeadSays (r : HeadOrEq) (w : ℕ) : Type 0 where
  pub kind_is : head_kind r ≡ cond (leb head_base w) 3 4
  pub number_is : head_number r ≡ cond (leb head_base w) (head_of w) 0

-- how many terms an atom has, by its first word
abbrev pub count_in : ℕ → ℕ
count_in w = cond (leb head_base w) (count_of w) (w - equality_base)

-- how many words of an atom stand before its terms
abbrev pub lead_size : ℕ
lead_size = 1

-- where the terms of an atom at `at` begin
abbrev pub terms_from : (at : ℕ) → ℕ
terms_from at = at + lead_size

-- where the second of them stands, which is the right one of an equality
abbrev pub right_from : (at : ℕ) → ℕ
right_from at = at + (lead_size + 1)

-- how many words an atom of n terms has
abbrev pub atom_size : (n : ℕ) → ℕ
atom_size n = n + lead_size

-- how many an equality has
abbrev pub equality_size : ℕ
equality_size = atom_size 2

-- an atom of a head with so many terms, whose first word stands at `at`: the terms follow, and behind them the next atom may begin
abbrev pub laid_out : HeadOrEq → (count at : ℕ) → Atom
laid_out h n at = record { head = h; count = n; terms = at + 1; next = at + 1 + n }

-- the atom that begins at `at` with w: its terms stand behind w, the output last
pub record AtomSays (r : Atom) (w at : ℕ) : Type 0 where
  pub kind_is : head_kind r.head ≡ cond (leb head_base w) 3 4
  pub number_is : head_number r.head ≡ cond (leb head_base w) (head_of w) 0
  pub count_is : r.count ≡ count_in w
  pub terms_at : r.terms ≡ at + 1
  pub next_at : r.next ≡ at + 1 + r.count

-- a word of kind 3 or 4 stands at an index
pub record BeginsAtom (ws : List ℕ) (at : ℕ) : Type 0 where
  pub inside : at < length ws
  pub low : equality_base ≤ get_or ws at 0
  pub high : get_or ws at 0 < literal_base

-- a first word as reading lets it pass: of kind 3, or the equality of two
pub record FirstWord (w : ℕ) : Type 0 where
  pub high : w < literal_base
  pub two : w < head_base → w ≡ equality_word

-- such a word stands at an index
pub record BeginsGood (ws : List ℕ) (at : ℕ) : Type 0 where
  pub inside : at < length ws
  pub first : FirstWord (get_or ws at 0)
