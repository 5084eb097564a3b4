-- A written rule is a row of facts and one of actions, and ends where they do, whatever is made of them. Assumes nothing.
use mathlib.Core.Path.{◌∙◌}
use mathlib.Core.List.{List}
use Prim.Native.Nat.{ℕ}
use Rattle.octets.specs.Words.{words}
use Rattle.rules.specs.Written.{read_fact, read_action}
use Rattle.written.specs.Written.{with_heads}
use Rattle.records.proofs.Items.{pair, rule, whole_alike}
use Rattle.records.proofs.written.Goals as goal

pub returns : goal.returns
returns c =
    let s = with_heads c.args.heads in
    let ws : List ℕ = words c.args.rule.now in
    c.whole_rule.ensures ∙ whole_alike ws (read_fact s ws) (read_action s ws) pair rule
