-- 01, "Words and records" and "Turned back": what the code answers for a flat rule, refusals 5, 11 and 12 included.
-- The readings themselves are those of `rules`.
-- Assumes nothing: these are definitions.
use Rattle.std.specs.Prelude.{ℕ, ◌+◌, Bool, ◌&&◌, cond, List, length, get_or, ltb, leb}
use Rattle.rules.specs.Words.{equality_base, head_base, literal_base, head_of, Code}
use Rattle.rules.specs.Refusals.{Res, ok, refuse, demand, unfit}
use Rattle.rules.specs.Signature.{Sig}
use Rattle.rules.specs.Written.{Reader}
use Rattle.rules.specs.Flat.{CoreAction, is_term, read_core_code}
use Rattle.words.specs.Atom.{term_number, term_number_of, term_word, head_kind, head_number, count_in}
use Rattle.words.specs.declared.Term.{Term}
use Rattle.words.specs.declared.Atom.{Atom as Begun}

-- a term by its numbers: 0 a variable, 1 a global, 2 a literal, and its word
pub record TermNumbers : Type 0 where
  pub number_is : ℕ
  pub word_is : ℕ

abbrev pub term_numbers : Term → TermNumbers
term_numbers t = record { number_is = term_number t; word_is = term_word t }

-- a term stands at an index
abbrev pub is_term_at : Sig → List ℕ → ℕ → Bool
is_term_at s ws p = ltb p (length ws) && is_term s (get_or ws p 0)

-- what is taken there
abbrev pub term_at : Sig → List ℕ → ℕ → Res TermNumbers
term_at s ws p = demand (is_term_at s ws p) unfit p (record { number_is = term_number_of s.globals (get_or ws p 0); word_is = get_or ws p 0 })

-- an atom by its numbers: the kind of its first word, 3 or 4, its head's number, how many terms it has, where they begin, and the place behind them
pub record AtomNumbers : Type 0 where
  pub kind_is : ℕ
  pub number_is : ℕ
  pub count_is : ℕ
  pub terms_at : ℕ
  pub next_at : ℕ

abbrev pub atom_numbers : Begun → AtomNumbers
atom_numbers a = record { kind_is = head_kind a.head; number_is = head_number a.head; count_is = a.count; terms_at = a.terms; next_at = a.next }

-- the word at an index begins an atom, if it is of kind 3 or 4
abbrev pub begins_at : List ℕ → ℕ → Bool
begins_at ws p = ltb p (length ws) && (leb equality_base (get_or ws p 0) && ltb (get_or ws p 0) literal_base)

abbrev pub numbers_from : (w p : ℕ) → AtomNumbers
numbers_from w p =
    record {
      kind_is = cond (leb head_base w) 3 4;
      number_is = cond (leb head_base w) (head_of w) 0;
      count_is = count_in w;
      terms_at = p + 1;
      next_at = p + 1 + count_in w;
    }

-- how the atom there begins
unfoldable pub first_at : List ℕ → ℕ → Res AtomNumbers
first_at ws p = cond (begins_at ws p) (ok (numbers_from (get_or ws p 0) p)) (refuse unfit p)

-- what stands behind an action word with a flat code, 1 to 7. Where that word stands matters to other codes alone, which are refused there
abbrev pub read_behind : Sig → List ℕ → Code → Reader CoreAction
read_behind s ws code q = read_core_code s ws 0 code q
