-- 01, "Words and records": the words of a record and their kinds.
--
-- 01 tells a word's kind by its leading zero bits and calls the bits after the first one bit its payload. A word of kind k therefore is 2^(31 - k)
-- and its payload, and the kinds are ranges of numbers. Each kind has its first word here, and a function that makes its words.
-- Assumes nothing: these are definitions.
use Rattle.std.specs.Prelude.{ℕ, ◌+◌, ◌-◌, ◌*◌, ◌/◌, ◌%◌, Bool, ◌&&◌, cond, ltb, leb, eqb}

-- ---- the numbers of 01, a name each

-- heads, names, and the facts and the actions of a rule are numbered below this
abbrev pub limit12 : ℕ
limit12 = 4096

-- counts and literals are numbered below this
abbrev pub limit16 : ℕ
limit16 = 65536

-- an expression holds expressions up to 32 deep, itself counted
abbrev pub max_depth : ℕ
max_depth = 32

-- the words of a written rule, and of a flat rule given as input
abbrev pub max_written : ℕ
max_written = 512

abbrev pub max_flat : ℕ
max_flat = 1024

-- the words of scratch that lowering and settling ask for; the program's output has as many
abbrev pub scratch_words : ℕ
scratch_words = 16384

-- the lines that the program reads
abbrev pub max_lines : ℕ
max_lines = 4612

-- ---- the first word of each kind

-- kind 0, a fresh variable
abbrev pub fresh_base : ℕ
fresh_base = 0x8000_0000

-- kind 1, a name
abbrev pub name_base : ℕ
name_base = 0x4000_0000

-- kind 2, a literal
abbrev pub literal_base : ℕ
literal_base = 0x2000_0000

-- kind 3, a head with what stands under it
abbrev pub head_base : ℕ
head_base = 0x1000_0000

-- kind 4, an equality
abbrev pub equality_base : ℕ
equality_base = 0x0800_0000

-- kind 5, the header of a rule
abbrev pub header_base : ℕ
header_base = 0x0400_0000

-- kind 6, an action
abbrev pub action_base : ℕ
action_base = 0x0200_0000

-- kind 7, a word of a signature
abbrev pub signature_base : ℕ
signature_base = 0x0100_0000

-- ---- words by their payload

-- the fresh variable of a head and a count: a pair, never spelt together
abbrev pub fresh_word : ℕ → ℕ → ℕ
fresh_word h c = fresh_base + h * limit16 + c

-- a head, and how many words or expressions stand under it
abbrev pub head_word : ℕ → ℕ → ℕ
head_word h n = head_base + h * limit16 + n

-- the equality of two
abbrev pub equality_word : ℕ
equality_word = equality_base + 2

-- a facts or atoms, b actions
abbrev pub header_word : ℕ → ℕ → ℕ
header_word a b = header_base + a * limit12 + b

abbrev pub action_word : ℕ → ℕ
action_word code = action_base + code

-- literal 0
abbrev pub unit : ℕ
unit = literal_base

-- ---- words told by their range

-- one of `size` words from `low` on
abbrev pub within : ℕ → ℕ → ℕ → Bool
within low size w = leb low w && ltb w (low + size)

abbrev pub is_name_word : ℕ → Bool
is_name_word w = within name_base limit12 w

abbrev pub is_literal_word : ℕ → Bool
is_literal_word w = within literal_base limit16 w

-- of a head below H
abbrev pub is_head_word : ℕ → ℕ → Bool
is_head_word H w = within head_base (H * limit16) w

abbrev pub is_fresh_word : ℕ → ℕ → Bool
is_fresh_word H w = within fresh_base (H * limit16) w

-- any word of kind 4, whatever its count
abbrev pub is_equality_word : ℕ → Bool
is_equality_word w = within equality_base equality_base w

abbrev pub is_header_word : ℕ → Bool
is_header_word w = within header_base (limit12 * limit12) w

-- ---- the payload's numbers

-- the head and the count of a kind 3 word
abbrev pub head_of : ℕ → ℕ
head_of w = (w - head_base) / limit16

abbrev pub count_of : ℕ → ℕ
count_of w = (w - head_base) % limit16

-- the two numbers of a header
abbrev pub facts_of : ℕ → ℕ
facts_of w = (w - header_base) / limit12

abbrev pub actions_of : ℕ → ℕ
actions_of w = (w - header_base) % limit12

-- ---- what an action word says

-- the codes 1 to 8 in turn; any other word is no action
pub data Code : Type 0 where
  a_let : Code
  a_set : Code
  a_delete : Code
  a_subsume : Code
  a_union : Code
  a_panic : Code
  a_call : Code
  an_expression : Code
  no_code : Code

abbrev pub code_of : ℕ → Code
code_of w =
    cond (eqb w (action_word 1)) a_let
    (cond (eqb w (action_word 2)) a_set
    (cond (eqb w (action_word 3)) a_delete
    (cond (eqb w (action_word 4)) a_subsume
    (cond (eqb w (action_word 5)) a_union
    (cond (eqb w (action_word 6)) a_panic
    (cond (eqb w (action_word 7)) a_call
    (cond (eqb w (action_word 8)) an_expression
    no_code)))))))
