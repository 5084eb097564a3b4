-- 01, "Words and records": what a word says, kind by kind, as the code's `Option` of its enum `Word`.
--
-- The kinds are ranges of numbers here, as in `rules`; that the count of leading zero bits tells the same is proved in `proofs/Ranges`.
-- Assumes nothing: these are definitions.
use Rattle.std.specs.Prelude.{ℕ, Option, Some, None, ◌-◌, ◌/◌, ◌%◌, ◌≡◌, cond, List, length, get_or, leb, ltb}
use Rattle.rules.specs.Words.{limit16, fresh_base, name_base, literal_base, head_base, equality_base, action_base}
use Rattle.rules.specs.Words.{signature_base, action_word, within, is_name_word, is_literal_word}
use Rattle.rules.specs.Words.{is_equality_word, is_header_word, head_of, count_of, facts_of, actions_of}
use Rattle.words.specs.declared.HeadWord.{HeadWord}
use Rattle.words.specs.declared.Header.{Header as HeaderWord}
use Rattle.words.specs.declared.Word.{Word}
use Rattle.words.specs.declared.Word.TheVariants.{Fresh, Name, Literal, Head, Equality, Header, Action, Signature}

-- 01's number of a word, its kind, and the numbers of its payload: the first or only one, and the second. What has no kind, or a payload that does not
-- fit, is given the kind 8
pub record Numbers : Type 0 where
  pub kind_is : ℕ
  pub first_is : ℕ
  pub second_is : ℕ

abbrev pub numbered : (kind first second : ℕ) → Numbers
numbered k a b = record { kind_is = k; first_is = a; second_is = b }

-- ---- of each case of the enum, and of none

abbrev pub numbers : Option Word → Numbers
numbers (Some (Fresh h n)) = numbered 0 h n
numbers (Some (Name n)) = numbered 1 n 0
numbers (Some (Literal n)) = numbered 2 n 0
numbers (Some (Head h n)) = numbered 3 h n
numbers (Some (Equality n)) = numbered 4 n 0
numbers (Some (Header a b)) = numbered 5 a b
numbers (Some (Action n)) = numbered 6 n 0
numbers (Some (Signature n)) = numbered 7 n 0
numbers None = numbered 8 0 0

abbrev pub kind : Option Word → ℕ
kind w = (numbers w).kind_is

-- ---- of a word of a record

-- from 80000000 up a word is a fresh variable. Of the kinds with limits, only the payloads within them fit
unfoldable pub numbers_of : ℕ → Numbers
numbers_of w =
    cond (leb fresh_base w) (numbered 0 ((w - fresh_base) / limit16) ((w - fresh_base) % limit16))
    (cond (is_name_word w) (numbered 1 (w - name_base) 0)
    (cond (is_literal_word w) (numbered 2 (w - literal_base) 0)
    (cond (within head_base head_base w) (numbered 3 (head_of w) (count_of w))
    (cond (is_equality_word w) (numbered 4 (w - equality_base) 0)
    (cond (is_header_word w) (numbered 5 (facts_of w) (actions_of w))
    (cond (within (action_word 1) 8 w) (numbered 6 (w - action_base) 0)
    (cond (within signature_base signature_base w) (numbered 7 (w - signature_base) 0)
    (numbered 8 0 0))))))))

-- and of the word at an index of a record; behind its end there is none that fits
abbrev pub numbers_at : List ℕ → ℕ → Numbers
numbers_at ws p = cond (ltb p (length ws)) (numbers_of (get_or ws p 0)) (numbers None)

pub record WordSays (r : Option Word) (ws : List ℕ) (p : ℕ) : Type 0 where
  pub numbers_are : numbers r ≡ numbers_at ws p

-- the head and the count of a word of kind 3
abbrev pub head_word_of : ℕ → HeadWord
head_word_of w = record { head = head_of w; count = count_of w }

-- the two numbers of a header
abbrev pub header_of : ℕ → HeaderWord
header_of w = record { body = facts_of w; actions = actions_of w }
