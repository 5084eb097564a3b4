-- Behind the record's end there is no word, and else the word there is told. Assumes nothing.
use mathlib.Core.Path.{◌∙◌}
use Prim.Native.Nat.{◌≤◌, ◌<◌}
use native.Mathlib.Omega.{arith}
use lib.ListN.{length}
use borrow.Author.Tests.{lt-ltb, le-ltb}
use Rattle.octets.specs.Words.{words}
use Rattle.words.proofs.word_at.Goals as goal

pub returns-then-at-count : goal.returns-then-at-count
returns-then-at-count c =
    let a = c.args in
    let h : a.at < length (words a.rule.now) = omega arith in
    record { numbers_are = c.word_of.ensures ∙ simp (lt-ltb _ _ h, c.get.ensures.is) }

pub returns-else-at-count : goal.returns-else-at-count
returns-else-at-count c =
    let a = c.args in
    let h : length (words a.rule.now) ≤ a.at = omega arith in
    record { numbers_are = simp (le-ltb _ _ h) }
