-- 01, "Around it": what the free variables of a flat head are asked of, and what becomes of the output.
-- Assumes nothing: these are definitions.
use Rattle.std.specs.Prelude.{ℕ, ◌≤◌, ◌<◌, List, ◌≡◌, length}
use Rattle.octets.specs.Regions.{splice}
use Rattle.octets.specs.Words.{words}
use Rattle.rules.specs.Flat.{CoreAction, FlatRule, read_flat, read_core_action}
use Rattle.rules.specs.Refusals.{ok}
use Rattle.rules.specs.Signature.{Sig, heads}
use Rattle.rules.specs.Words.{limit12}
use Rattle.rules.specs.Written.{read_row}

-- the words of a flat rule are known to be good: under the signature s they read as the rule f. A signature that was read has no more heads than 01 allows
pub record Good (s : Sig) (ws : List ℕ) (f : FlatRule) : Type 0 where
  pub few : heads s ≤ limit12
  pub read : read_flat s ws ≡ ok f

-- under some signature, as some rule
pub record SomeGood (ws : List ℕ) : Type 0 where
  pub sig : Sig
  pub rule : FlatRule
  pub good : Good sig ws rule

-- and that signature has G globals
pub record GoodUnder (ws : List ℕ) (G : ℕ) : Type 0 where
  pub some : SomeGood ws
  pub globals : G ≡ some.sig.globals

-- under the signature s, what is read from the words of a flat rule from `from` on, behind its header and its atoms, are the actions xs, and no word
-- is left behind them
pub record Actions (s : Sig) (ws : List ℕ) (from : ℕ) (xs : List CoreAction) : Type 0 where
  pub few : heads s ≤ limit12
  pub behind : 0 < from
  pub within : from ≤ length ws
  pub some : ℕ
  pub end : ℕ
  pub read : read_row (read_core_action s ws) some from ≡ ok (record { value = xs; at = end })
  pub all : length ws ≤ end

-- n is how many words xs has. They are written to the front of the output, if it has room for all; if not, no byte changes.
-- The output's bytes l have become m
pub record WroteIfRoom (xs : List ℕ) (n : ℕ) (l m : List ℕ) : Type 0 where
  pub needed : n ≡ length xs
  pub fits : length xs ≤ length (words l) → words m ≡ splice (words l) 0 xs
  pub short : length (words l) < length xs → m ≡ l
