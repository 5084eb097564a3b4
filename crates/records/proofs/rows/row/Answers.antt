-- Each arm reads a row of what its case is. Assumes nothing.
use mathlib.Core.List.{List}
use mathlib.Core.Path.{◌≡◌, sym, ap, ◌∙◌}
use Prim.Native.Nat.{ℕ}
use Rattle.std.proofs.Common.{rules}
use Rattle.octets.specs.Words.{words}
use Rattle.rules.specs.Refusals.{Res}
use Rattle.rules.specs.Written.{read_row}
use Rattle.written.specs.Written.{with_heads, ending_of, ends}
use Rattle.records.specs.Rows.{read_item}
use Rattle.records.specs.declared.rows.Item.{Item}
use Rattle.records.specs.declared.rows.Item.TheVariants.{Fact, Action, Atom, CoreAction}
use Rattle.written.proofs.Rows.{ends_row}
use Rattle.records.proofs.rows.row.Goals as goal

module _ (heads : ℕ) (ws : List ℕ) where
  -- where one of an item's things ends, and a row of them
  abbrev one_ends : Item → ℕ → Res ℕ
  one_ends i p = ending_of (read_item i (with_heads heads) ws p)

  abbrev walked : (count at : ℕ) → Item → Res ℕ
  walked count at i = ending_of (read_row (read_item i (with_heads heads) ws) count at)

  -- what the walk over a row of a case's things answers is the answer, where that is the case
  by_case : (count at : ℕ) {i k : Item} {w : Res ℕ} → k ≡ i → w ≡ ends (one_ends i) count at → w ≡ walked count at k
  by_case count at {i} is e = e ∙ ends_row (read_item i (with_heads heads) ws) count at ∙ ap (walked count at) (sym is)

pub returns-in-Fact : goal.returns-in-Fact
returns-in-Fact c =
    let a = c.args in
    let ws : List ℕ = words a.rule.now in
    by_case a.heads ws a.count a.at c.in-Fact.is (c.row.ensures (one_ends a.heads ws Fact) (λ p r h. search rules))

pub returns-in-Action : goal.returns-in-Action
returns-in-Action c =
    let a = c.args in
    let ws : List ℕ = words a.rule.now in
    by_case a.heads ws a.count a.at c.in-Action.is (c.row-in-Action.ensures (one_ends a.heads ws Action) (λ p r h. search rules))

pub returns-in-Atom : goal.returns-in-Atom
returns-in-Atom c =
    let a = c.args in
    let ws : List ℕ = words a.rule.now in
    by_case a.heads ws a.count a.at c.in-Atom.is (c.row-in-Atom.ensures (one_ends a.heads ws Atom) (λ p r h. search rules))

pub returns-in-CoreAction : goal.returns-in-CoreAction
returns-in-CoreAction c =
    let a = c.args in
    let ws : List ℕ = words a.rule.now in
    by_case a.heads ws a.count a.at c.in-CoreAction.is (c.row-in-CoreAction.ensures (one_ends a.heads ws CoreAction) (λ p r h. search rules))
