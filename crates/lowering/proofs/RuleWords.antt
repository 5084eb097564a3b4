-- What the words of a rule that was read say: its facts stand behind the header, and its actions behind them. Assumes nothing.
use mathlib.Core.Path.{◌≡◌, ap, ◌∙◌}
use mathlib.Core.List.{List}
use Prim.Native.Nat.{ℕ, ◌+◌, ◌*◌, ◌≤◌, ◌<◌}
use native.Mathlib.Omega.{arith}
use lib.Dec.{leb}
use lib.ListN.{length, get_or}
use Rattle.rules.specs.Words.{limit12, header_base, is_header_word, facts_of, actions_of}
use Rattle.rules.specs.Refusals.{ok, unfit}
use Rattle.rules.specs.Signature.{Sig}
use Rattle.rules.specs.Written.{Fact, Action, Rule, Read, read_word, read_row, read_fact, read_action, read_written}
use Rattle.meaning.proofs.Results.{bind_ok, demand_ok}
use Rattle.meaning.proofs.Reading.{within_low}
use Rattle.walks.proofs.Read.{row_at, row_on, row_inside}
use Rattle.query.specs.Flattened.{FactsAt}
use Rattle.query.proofs.Facts.{fact_on, fact_ends}
use Rattle.core_actions.specs.Rows.{ActionsAt}
use Rattle.core_actions.proofs.ReadActions.{action_on, action_ends, WordRead, word_read}

-- by the header word w
pub record RuleWords (sig : Sig) (ws : List ℕ) (r : Rule) (w : ℕ) : Type 0 where
  pub some : 0 < length ws
  pub header : header_base ≤ w
  pub facts : FactsAt sig ws (facts_of w) 1
  pub actions : ActionsAt sig ws (actions_of w) (1 + facts.size)
  pub facts_are : facts.value ≡ r.facts
  pub actions_are : actions.value ≡ r.actions

pub rule_words : (sig : Sig) (ws : List ℕ) (r : Rule) → read_written sig ws ≡ ok r → RuleWords sig ws r (get_or ws 0 0)
rule_words sig ws r e =
    let w = bind_ok (read_word ws is_header_word 0) _ r e in
    let f = bind_ok (read_row (read_fact sig ws) (facts_of w.0.value) w.0.at) _ r w.2 in
    let x = bind_ok (read_row (read_action sig ws) (actions_of w.0.value) f.0.at) _ r f.2 in
    let d = demand_ok (leb (length ws) x.0.at) unfit x.0.at _ r x.2 in
    made w.0 (word_read ws is_header_word 0 w.0 w.1) f.0 f.1 x.0 x.1 d.1
  where
    made : (w : Read ℕ) → WordRead ws is_header_word 0 w → (f : Read (List Fact)) → read_row (read_fact sig ws) (facts_of w.value) w.at ≡ ok f
        → (x : Read (List Action)) → read_row (read_action sig ws) (actions_of w.value) f.at ≡ ok x → record { facts = f.value; actions = x.value } ≡ r → RuleWords sig ws r (get_or ws 0 0)
    made w i f ef x ex is =
        let v = get_or ws 0 0 in
        let one : 1 ≡ w.at = i.next in
        let inside = i.inside in
        let rf : read_row (read_fact sig ws) (facts_of v) 1 ≡ ok f = (λ j. read_row (read_fact sig ws) (facts_of (i.value j)) (one j)) ∙ ef in
        let fin = row_inside (read_fact sig ws) (length ws) (fact_ends sig ws) (facts_of v) 1 f (omega arith) rf in
        let on = row_on (read_fact sig ws) ws (fact_on sig ws) (facts_of v) 1 f rf in
        let fs = row_at (read_fact sig ws) ws (fact_on sig ws) (facts_of v) 1 f rf fin in
        let there : 1 + fs.size ≡ f.at = omega arith in
        let rx : read_row (read_action sig ws) (actions_of v) (1 + fs.size) ≡ ok x = (λ j. read_row (read_action sig ws) (actions_of (i.value j)) (there j)) ∙ ex in
        let xin = row_inside (read_action sig ws) (length ws) (action_ends sig ws) (actions_of v) (1 + fs.size) x (omega arith) rx in
        record {
          some = inside;
          header = within_low header_base (limit12 * limit12) v i.passed;
          facts = fs;
          actions = row_at (read_action sig ws) ws (action_on sig ws) (actions_of v) (1 + fs.size) x rx xin;
          facts_are = ap (λ (y : Rule). y.facts) is;
          actions_are = ap (λ (y : Rule). y.actions) is;
        }
