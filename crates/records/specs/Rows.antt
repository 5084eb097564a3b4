-- 01, "Words and records": what a rule holds rows of, by the code's enum `Item`, and where a rule ends whose rows are read by readers that are lent.
-- The readings themselves are those of `rules`.
-- Assumes nothing: these are definitions.
use Rattle.std.specs.Prelude.{ℕ, List, length, leb}
use Rattle.rules.specs.Signature.{Sig}
use Rattle.rules.specs.Words.{is_header_word, facts_of, actions_of}
use Rattle.rules.specs.Refusals.{Res, ok, ◌>>=◌, demand, unfit}
use Rattle.rules.specs.Written.{Reader, read_word, read_row, all_read, read_fact, read_action}
use Rattle.rules.specs.Written as Written
use Rattle.rules.specs.Flat.{read_atom, read_core_action}
use Rattle.rules.specs.Flat as Flat
use Rattle.written.specs.Written.{ends}
use Rattle.records.specs.declared.rows.Item.{Item}
use Rattle.records.specs.declared.rows.Item.TheVariants.{Fact, Action, Atom, CoreAction}

-- what one of a row is
abbrev pub Of : Item → Type 0
Of Fact = Written.Fact
Of Action = Written.Action
Of Atom = Flat.Atom
Of CoreAction = Flat.CoreAction

-- and how it is read
abbrev pub read_item : (i : Item) → Sig → List ℕ → Reader (Of i)
read_item Fact s ws = read_fact s ws
read_item Action s ws = read_action s ws
read_item Atom s ws = read_atom s ws
read_item CoreAction s ws = read_core_action s ws

-- ---- rules of two rows

-- one that begins at an index, whatever stands behind it: the header tells how many each row has
abbrev pub read_headed : (body head : Item) → Sig → List ℕ → Reader (List (Of body) × List (Of head))
read_headed body head s ws p = do
  w ← read_word ws is_header_word p
  xs ← read_row (read_item body s ws) (facts_of w.value) w.at
  ys ← read_row (read_item head s ws) (actions_of w.value) xs.at
  ok (record { value = (xs.value, ys.value); at = ys.at })

-- a whole one, with nothing behind it
abbrev pub read_whole : (body head : Item) → Sig → List ℕ → Res (List (Of body) × List (Of head))
read_whole body head s ws = do
  w ← read_word ws is_header_word 0
  xs ← read_row (read_item body s ws) (facts_of w.value) w.at
  ys ← read_row (read_item head s ws) (actions_of w.value) xs.at
  all_read ws (record { value = (xs.value, ys.value); at = ys.at })

-- ---- rules of two rows whose readers are lent, by where each thing ends

-- the header tells how many f and how many g read, and nothing may stand behind them
abbrev pub whole_ends : (f g : ℕ → Res ℕ) → List ℕ → Res ℕ
whole_ends f g ws = do
  w ← read_word ws is_header_word 0
  p ← ends f (facts_of w.value) w.at
  q ← ends g (actions_of w.value) p
  demand (leb (length ws) q) unfit q (length ws)
