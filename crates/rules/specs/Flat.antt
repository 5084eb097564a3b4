-- 01, "Words and records": flat rules, their words, and reading them from words (refusals 5, 11 and 12).
-- Terms are words: a variable, a global or a literal is the word that stands for it.
-- Assumes nothing: these are definitions.
use Rattle.std.specs.Prelude.{ℕ, suc, ◌-◌, Bool, ◌||◌, cond, List, [], ◌∷◌, ◌++◌, length, get_or, ltb, eqb}
use Rattle.rules.specs.Words.{head_word, header_word, equality_word, action_word, is_name_word, is_literal_word, is_fresh_word}
use Rattle.rules.specs.Words.{is_head_word, is_equality_word, is_header_word, head_of, count_of, facts_of, actions_of}
use Rattle.rules.specs.Words.{Code, a_let, a_set, a_delete, a_subsume, a_union, a_panic, a_call, an_expression, no_code}
use Rattle.rules.specs.Refusals.{Res, ok, refuse, ◌>>=◌, unfit, no_terms, not_two}
use Rattle.rules.specs.Signature.{Sig, heads}
use Rattle.rules.specs.Written.{Reader, read_word, read_row, code_at, all_read}

-- ---- atoms. Each carries the place it came from; the words of an atom leave it out

-- an atom of a head's table: its inputs, and its output
pub record Tab : Type 0 where
  pub place : ℕ
  pub head : ℕ
  pub ins : List ℕ
  pub out : ℕ

-- the source's `HeadOrEq`: an atom has the equality sign and two terms, or a head
pub data Atom : Type 0 where
  eqn : (place left right : ℕ) → Atom
  tab : Tab → Atom

-- ---- actions. `Let` is action 1, the source's `LetAtomTerm`; `Call` is action 7, the source's `Let`: a call whose answer is bound

pub data CoreAction : Type 0 where
  Let : (target term : ℕ) → CoreAction
  Set : (head : ℕ) → List ℕ → (value : ℕ) → CoreAction
  Delete Subsume : (head : ℕ) → List ℕ → CoreAction
  Union : ℕ → ℕ → CoreAction
  Panic : (literal : ℕ) → CoreAction
  Call : (target head : ℕ) → List ℕ → CoreAction

pub record FlatRule : Type 0 where
  pub atoms : List Atom
  pub actions : List CoreAction

-- ---- their words

-- an atom's count has its output in it, which is last
abbrev pub tab_words : Tab → List ℕ
tab_words t = head_word t.head (suc (length t.ins)) ∷ t.ins ++ t.out ∷ []

abbrev pub atom_words : Atom → List ℕ
atom_words (eqn p a b) = equality_word ∷ a ∷ b ∷ []
atom_words (tab t) = tab_words t

-- the count of an action's kind 3 word leaves out the value and the answer
abbrev pub action_words : CoreAction → List ℕ
action_words (Let x t) = action_word 1 ∷ x ∷ t ∷ []
action_words (Set h ts v) = action_word 2 ∷ head_word h (length ts) ∷ ts ++ v ∷ []
action_words (Delete h ts) = action_word 3 ∷ head_word h (length ts) ∷ ts
action_words (Subsume h ts) = action_word 4 ∷ head_word h (length ts) ∷ ts
action_words (Union a b) = action_word 5 ∷ a ∷ b ∷ []
action_words (Panic l) = action_word 6 ∷ l ∷ []
action_words (Call x h ts) = action_word 7 ∷ x ∷ head_word h (length ts) ∷ ts

-- the words of each, one after the other
abbrev pub words_of : {A : Type 0} → (A → List ℕ) → List A → List ℕ
words_of f [] = []
words_of f (x ∷ xs) = f x ++ words_of f xs

-- a settled rule has no equalities left
abbrev pub encode : List Tab → List CoreAction → List ℕ
encode ts xs = header_word (length ts) (length xs) ∷ words_of tab_words ts ++ words_of action_words xs

-- ---- reading: terms

-- a fresh variable of a head below H, or a name: what an action may bind
abbrev pub is_target : Sig → ℕ → Bool
is_target s w = is_fresh_word (heads s) w || is_name_word w

abbrev pub is_term : Sig → ℕ → Bool
is_term s w = is_target s w || is_literal_word w

abbrev pub read_term : Sig → List ℕ → Reader ℕ
read_term s ws = read_word ws (is_term s)

-- ---- reading: atoms

-- what an atom's first word is: the equality of two, an equality of another count, a head with terms, a head with none, or unfit
pub data AtomShape : Type 0 where
  is_pair : AtomShape
  is_odd : AtomShape
  is_table : AtomShape
  is_empty : AtomShape
  is_none : AtomShape

abbrev pub atom_shape : Sig → ℕ → AtomShape
atom_shape s w =
    cond (is_equality_word w) (cond (eqb w equality_word) is_pair is_odd)
    (cond (is_head_word (heads s) w) (cond (eqb (count_of w) 0) is_empty is_table) is_none)

abbrev pub atom_shape_at : Sig → List ℕ → ℕ → AtomShape
atom_shape_at s ws p = cond (ltb p (length ws)) (atom_shape s (get_or ws p 0)) is_none

-- the atom with word w at p
abbrev pub read_atom_shape : Sig → List ℕ → AtomShape → ℕ → Reader Atom
read_atom_shape s ws is_pair w p = do
  a ← read_term s ws (suc p)
  b ← read_term s ws a.at
  ok (record { value = eqn p a.value b.value; at = b.at })
read_atom_shape s ws is_table w p = do
  ts ← read_row (read_term s ws) (count_of w - 1) (suc p)
  t ← read_term s ws ts.at
  ok (record { value = tab (record { place = p; head = head_of w; ins = ts.value; out = t.value }); at = t.at })
read_atom_shape s ws is_odd w p = refuse not_two p
read_atom_shape s ws is_empty w p = refuse no_terms p
read_atom_shape s ws is_none w p = refuse unfit p

abbrev pub read_atom : Sig → List ℕ → Reader Atom
read_atom s ws p = read_atom_shape s ws (atom_shape_at s ws p) (get_or ws p 0) p

-- ---- reading: actions

-- a kind 3 word and its terms
pub record Terms : Type 0 where
  pub head : ℕ
  pub terms : List ℕ

abbrev pub read_terms : Sig → List ℕ → Reader Terms
read_terms s ws p = do
  w ← read_word ws (is_head_word (heads s)) p
  ts ← read_row (read_term s ws) (count_of w.value) w.at
  ok (record { value = record { head = head_of w.value; terms = ts.value }; at = ts.at })

-- the action with word p and this code; q is the place after the word. Action 8 is not flat
abbrev pub read_core_code : Sig → List ℕ → ℕ → Code → Reader CoreAction
read_core_code s ws p a_let q = do
  x ← read_word ws (is_target s) q
  t ← read_term s ws x.at
  ok (record { value = Let x.value t.value; at = t.at })
read_core_code s ws p a_set q = do
  c ← read_terms s ws q
  v ← read_term s ws c.at
  ok (record { value = Set c.value.head c.value.terms v.value; at = v.at })
read_core_code s ws p a_delete q = do
  c ← read_terms s ws q
  ok (record { value = Delete c.value.head c.value.terms; at = c.at })
read_core_code s ws p a_subsume q = do
  c ← read_terms s ws q
  ok (record { value = Subsume c.value.head c.value.terms; at = c.at })
read_core_code s ws p a_union q = do
  a ← read_term s ws q
  b ← read_term s ws a.at
  ok (record { value = Union a.value b.value; at = b.at })
read_core_code s ws p a_panic q = do
  l ← read_word ws is_literal_word q
  ok (record { value = Panic l.value; at = l.at })
read_core_code s ws p a_call q = do
  x ← read_word ws (is_target s) q
  c ← read_terms s ws x.at
  ok (record { value = Call x.value c.value.head c.value.terms; at = c.at })
read_core_code s ws p an_expression q = refuse unfit p
read_core_code s ws p no_code q = refuse unfit p

abbrev pub read_core_action : Sig → List ℕ → Reader CoreAction
read_core_action s ws p = read_core_code s ws p (code_at ws p) (suc p)

-- ---- reading: a rule

abbrev pub read_flat : Sig → List ℕ → Res FlatRule
read_flat s ws = do
  w ← read_word ws is_header_word 0
  as' ← read_row (read_atom s ws) (facts_of w.value) w.at
  xs ← read_row (read_core_action s ws) (actions_of w.value) as'.at
  all_read ws (record { value = record { atoms = as'.value; actions = xs.value }; at = xs.at })
