-- 01, "Around it": what the printers of the program write. Assumes nothing: these are definitions.
use Rattle.std.specs.Prelude.{◌≡◌, List, [], ℕ, ◌+◌, length}
use Rattle.octets.specs.Regions.{splice}
use Rattle.rules.specs.Refusals.{Res, ok}
use Rattle.rules.specs.Calls.{Result}

-- xs written at a place of the bytes l leave m, and r is the place behind them
pub record Wrote (l : List ℕ) (at : ℕ) (xs m : List ℕ) (r : ℕ) : Type 0 where
  pub end : r ≡ at + length xs
  pub bytes : m ≡ splice l at xs

-- a result by what is printed of it: its counters are not
abbrev pub accepted : List ℕ → ℕ → ℕ → Res Result
accepted ws replacements passes = ok (record { words = ws; replacements = replacements; passes = passes; counters = [] })
