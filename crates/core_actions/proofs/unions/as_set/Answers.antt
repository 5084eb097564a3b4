-- Whether a union becomes a set: the flag and the first words of its sides say it, and each way out is one case of the definition. Assumes nothing.
use mathlib.Core.Path.{sym, ◌∙◌}
use Prim.Native.Nat.{◌≤◌, ◌<◌}
use native.Mathlib.Omega.{arith}
use Rattle.octets.specs.Words.{words}
use Rattle.octets.proofs.Words.{length_words}
use Rattle.rules.specs.Words.{literal_base}
use Rattle.walks.proofs.Words.{leaf_high, call_low}
use Rattle.core_actions.proofs.SetSides.{begun, Flagged, passed_inside, left_other, left_nameless, left_becomes}
use Rattle.core_actions.proofs.SetSides.{left_literal, right_inside, right_leaf, right_other}
use Rattle.core_actions.proofs.unions.as_set.Goals.{After-get-left}
use Rattle.core_actions.proofs.unions.as_set.Goals.{else-left-ge-NAME_BASE-via-then-left-ge-NAME_BASE+then-not-is_leaf+else-constructs}
use Rattle.core_actions.proofs.unions.as_set.Goals.{else-left-ge-NAME_BASE-via-then-left-ge-NAME_BASE+else-not-is_leaf, else-left-ge-NAME_BASE-via-else-left-ge-NAME_BASE}
use Rattle.core_actions.proofs.unions.as_set.Goals.{else-constructs-2-via-then-constructs-2+else-get-ge-NAME_BASE, else-constructs-2-via-else-constructs-2}
use Rattle.core_actions.proofs.unions.as_set.Goals as goal

pub overflow_add-at : goal.overflow_add-at
overflow_add-at c = omega (arith, begun c.requires (omega (arith, length_words c.args.rule.now)))

-- ---- the flag is on, and the left side's first word is read

flagged : (c : After-get-left) → let a = c.args in Flagged (words a.signature.now) (words a.rule.now) a.at c.get-left.result
flagged c =
    record {
      begun = begun c.requires (omega (arith, length_words c.args.rule.now));
      on = sym c.get.ensures.is ∙ c.if-get-ne-FLAG_ON.false;
      is = c.get-left.ensures.is;
    }

-- ---- a leaf

pub overflow_add-at-then-is_leaf : goal.overflow_add-at-then-is_leaf
overflow_add-at-then-is_leaf c =
    let f = flagged (goal.at.overflow_add-at-then-is_leaf c).After-get-left in
    omega (arith, right_inside f (leaf_high c.is_leaf.ensures c.if-is_leaf.true), f.begun)

pub returns-then-is_leaf : goal.returns-then-is_leaf
returns-then-is_leaf c =
    let f = flagged (goal.at.returns-then-is_leaf c).After-get-left in
    let high : literal_base ≤ c.get-left.result = leaf_high c.is_leaf.ensures c.if-is_leaf.true in
    let is = c.get-right.ensures.is in
    elim c.else-left-ge-NAME_BASE.branch [
      | else-left-ge-NAME_BASE-via-then-left-ge-NAME_BASE+then-not-is_leaf+else-constructs w ↦
          right_other f high is (call_low w.is_leaf-then-left-ge-NAME_BASE.ensures w.if-not-is_leaf.true) w.constructs.ensures w.if-constructs.false
      | else-left-ge-NAME_BASE-via-then-left-ge-NAME_BASE+else-not-is_leaf w ↦
          right_leaf f high is (leaf_high w.is_leaf-then-left-ge-NAME_BASE.ensures w.if-not-is_leaf.false)
      | else-left-ge-NAME_BASE-via-else-left-ge-NAME_BASE w ↦ left_literal f high w.if-left-ge-NAME_BASE.false
    ]

-- ---- a call

pub overflow_add-at-then-constructs-2 : goal.overflow_add-at-then-constructs-2
overflow_add-at-then-constructs-2 c = omega (arith, (flagged (goal.at.overflow_add-at-then-constructs-2 c).After-get-left).begun)

pub get-requires-then-constructs-2 : goal.get-requires-then-constructs-2
get-requires-then-constructs-2 c =
    passed_inside (flagged (goal.at.get-requires-then-constructs-2 c).After-get-left) (call_low c.is_leaf.ensures c.if-is_leaf.false) c.skip.ensures

pub returns-then-get-ge-NAME_BASE : goal.returns-then-get-ge-NAME_BASE
returns-then-get-ge-NAME_BASE c =
    left_becomes (flagged (goal.at.returns-then-get-ge-NAME_BASE c).After-get-left) (call_low c.is_leaf.ensures c.if-is_leaf.false)
    c.skip.ensures c.get-then-constructs-2.ensures.is c.constructs-2.ensures c.if-constructs-2.true c.if-get-ge-NAME_BASE.true

pub returns : goal.returns
returns c =
    let f = flagged (goal.at.returns c).After-get-left in
    let low : c.get-left.result < literal_base = call_low c.is_leaf.ensures c.if-is_leaf.false in
    elim c.else-constructs-2.branch [
      | else-constructs-2-via-then-constructs-2+else-get-ge-NAME_BASE w ↦
          left_nameless f low w.skip.ensures w.get-then-constructs-2.ensures.is w.if-get-ge-NAME_BASE.false
      | else-constructs-2-via-else-constructs-2 w ↦ left_other f low c.constructs-2.ensures w.if-constructs-2.false
    ]
