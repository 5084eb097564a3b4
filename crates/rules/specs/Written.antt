-- 01, "Words and records": written rules, as trees, and reading them from words (refusals 5 and 6).
-- Each call, name and equality carries its place, the index of its word, as the Rust carries spans. Reading goes by an index into the whole record.
-- Assumes nothing: these are definitions.
use Rattle.std.specs.Prelude.{ℕ, zero, suc, Bool, true, false, ◌||◌, ◌&&◌, cond, List, [], ◌∷◌, length, get_or, ltb, leb, eqb}
use Rattle.rules.specs.Words.{max_depth, equality_word, is_name_word, is_literal_word, is_head_word, is_header_word, head_of, count_of, facts_of, actions_of}
use Rattle.rules.specs.Words.{Code, a_let, a_set, a_delete, a_subsume, a_union, a_panic, a_call, an_expression, no_code, code_of}
use Rattle.rules.specs.Refusals.{Res, ok, refuse, ◌>>=◌, demand, unfit, too_deep}
use Rattle.rules.specs.Signature.{Sig, heads}

-- ---- trees

-- an expression is a name or a literal, or a head with its arguments
mutual
  pub data Expr : Type 0 where
    leaf : (place word : ℕ) → Expr
    call : (place head : ℕ) → Exprs → Expr

  pub data Exprs : Type 0 where
    end : Exprs
    ◌then◌ : Expr → Exprs → Exprs

infixr 60 ◌then◌
-- a fact is an expression, or the equality of two
pub data Fact : Type 0 where
  holds : Expr → Fact
  equal : (place : ℕ) → Expr → Expr → Fact

-- the place of a let is its action word, that of the others their kind 3 word
pub data Action : Type 0 where
  let' : (place name : ℕ) → Expr → Action
  set' : (place head : ℕ) → Exprs → Expr → Action
  delete' subsume' : (place head : ℕ) → Exprs → Action
  union' : Expr → Expr → Action
  panic' : (literal : ℕ) → Action
  expr' : Expr → Action

pub record Rule : Type 0 where
  pub facts : List Fact
  pub actions : List Action

-- ---- readers: from an index, what stands there and the index after it

pub record Read (A : Type 0) : Type 0 where
  pub value : A
  pub at : ℕ

abbrev pub Reader : Type 0 → Type 0
Reader A = ℕ → Res (Read A)

-- a word that passes a test; any other, and the record's end, is a 5
abbrev pub read_word : List ℕ → (ℕ → Bool) → Reader ℕ
read_word ws fits p =
    demand (ltb p (length ws) && fits (get_or ws p 0)) unfit p (record { value = get_or ws p 0; at = suc p })

-- n things, one after the other
abbrev pub read_row : {A : Type 0} → Reader A → ℕ → Reader (List A)
read_row one zero p = ok (record { value = []; at = p })
read_row one (suc n) p = do
  x ← one p
  xs ← read_row one n x.at
  ok (record { value = x.value ∷ xs.value; at = xs.at })

-- a record ends where its last action does: a word behind it is a 5
abbrev pub all_read : {A : Type 0} → List ℕ → Read A → Res A
all_read ws r = demand (leb (length ws) r.at) unfit r.at r.value

-- ---- expressions

-- n expressions
abbrev pub read_many : Reader Expr → ℕ → Reader Exprs
read_many one zero p = ok (record { value = end; at = p })
read_many one (suc n) p = do
  e ← one p
  es ← read_many one n e.at
  ok (record { value = e.value then es.value; at = es.at })

-- what a word of an expression is: a name or a literal, a call, or unfit, as is the record's end
pub data Shape : Type 0 where
  is_leaf : Shape
  is_call : Shape
  is_bad : Shape

abbrev pub shape : Sig → ℕ → Shape
shape s w = cond (is_name_word w || is_literal_word w) is_leaf (cond (is_head_word (heads s) w) is_call is_bad)

abbrev pub shape_at : Sig → List ℕ → ℕ → Shape
shape_at s ws p = cond (ltb p (length ws)) (shape s (get_or ws p 0)) is_bad

-- the expression whose first word is w, inside 32 calls or not. 5 comes first at one place
abbrev pub read_shape : Shape → (inside : Bool) → (ℕ → Reader Exprs) → ℕ → ℕ → Res (Read Expr)
read_shape is_bad inside args w p = refuse unfit p
read_shape is_leaf true args w p = refuse too_deep p
read_shape is_call true args w p = refuse too_deep p
read_shape is_leaf false args w p = ok (record { value = leaf p w; at = suc p })
read_shape is_call false args w p = do
  es ← args (count_of w) (suc p)
  ok (record { value = call p (head_of w) es.value; at = es.at })

-- an expression that may hold expressions d deep
abbrev pub read_expr : Sig → List ℕ → ℕ → Reader Expr
read_expr s ws zero p = read_shape (shape_at s ws p) true (λ n q. refuse too_deep q) (get_or ws p 0) p
read_expr s ws (suc d) p = read_shape (shape_at s ws p) false (λ n q. read_many (λ r. read_expr s ws d r) n q) (get_or ws p 0) p

-- a kind 3 word and its arguments, as set, delete and subsume have it. It is no call: each argument may be 32 deep
pub record Target : Type 0 where
  pub place : ℕ
  pub head : ℕ
  pub args : Exprs

abbrev pub read_target : Sig → List ℕ → Reader Target
read_target s ws p = do
  w ← read_word ws (is_head_word (heads s)) p
  es ← read_many (read_expr s ws max_depth) (count_of w.value) w.at
  ok (record { value = record { place = p; head = head_of w.value; args = es.value }; at = es.at })

-- ---- facts

abbrev pub read_equal : Sig → List ℕ → Reader Fact
read_equal s ws p = do
  a ← read_expr s ws max_depth (suc p)
  b ← read_expr s ws max_depth a.at
  ok (record { value = equal p a.value b.value; at = b.at })

abbrev pub read_holds : Sig → List ℕ → Reader Fact
read_holds s ws p = do
  e ← read_expr s ws max_depth p
  ok (record { value = holds e.value; at = e.at })

abbrev pub read_fact : Sig → List ℕ → Reader Fact
read_fact s ws p = cond (ltb p (length ws) && eqb (get_or ws p 0) equality_word) (read_equal s ws p) (read_holds s ws p)

-- ---- actions

-- the action with word p and this code; q is the place after the word. Action 7 is not written
abbrev pub read_code : Sig → List ℕ → ℕ → Code → Reader Action
read_code s ws p a_let q = do
  x ← read_word ws is_name_word q
  e ← read_expr s ws max_depth x.at
  ok (record { value = let' p x.value e.value; at = e.at })
read_code s ws p a_set q = do
  t ← read_target s ws q
  e ← read_expr s ws max_depth t.at
  ok (record { value = set' t.value.place t.value.head t.value.args e.value; at = e.at })
read_code s ws p a_delete q = do
  t ← read_target s ws q
  ok (record { value = delete' t.value.place t.value.head t.value.args; at = t.at })
read_code s ws p a_subsume q = do
  t ← read_target s ws q
  ok (record { value = subsume' t.value.place t.value.head t.value.args; at = t.at })
read_code s ws p a_union q = do
  a ← read_expr s ws max_depth q
  b ← read_expr s ws max_depth a.at
  ok (record { value = union' a.value b.value; at = b.at })
read_code s ws p a_panic q = do
  l ← read_word ws is_literal_word q
  ok (record { value = panic' l.value; at = l.at })
read_code s ws p an_expression q = do
  e ← read_expr s ws max_depth q
  ok (record { value = expr' e.value; at = e.at })
read_code s ws p a_call q = refuse unfit p
read_code s ws p no_code q = refuse unfit p

-- the code at an index; behind the record's end there is none
abbrev pub code_at : List ℕ → ℕ → Code
code_at ws p = cond (ltb p (length ws)) (code_of (get_or ws p 0)) no_code

abbrev pub read_action : Sig → List ℕ → Reader Action
read_action s ws p = read_code s ws p (code_at ws p) (suc p)

-- ---- a rule: the header, facts, actions, and nothing behind them

abbrev pub read_written : Sig → List ℕ → Res Rule
read_written s ws = do
  w ← read_word ws is_header_word 0
  fs ← read_row (read_fact s ws) (facts_of w.value) w.at
  xs ← read_row (read_action s ws) (actions_of w.value) fs.at
  all_read ws (record { value = record { facts = fs.value; actions = xs.value }; at = xs.at })
