-- The iterator went through all lengths, or stopped at one that is not of whole words. Assumes nothing.
use borrow.Author.Tests.{tests}
use Rattle.std.proofs.Common.{rules, true, false}
use Rattle.std.proofs.lemmas.Iterator.{cases_from_all, YieldsList-from_slice}
use Rattle.answers.proofs.Whole.{IsWhole, whole_so}
use Rattle.answers.proofs.whole_words.Goals as goal

pub returns : goal.returns
returns c =
    let ns = c.args.lengths.now in
    whole_so ns _ (cases_from_all _ _ _ (IsWhole true) (IsWhole false) c.all.ensures.ran (YieldsList-from_slice ns cc)
    (λ x q k. search (rules, tests)) (λ x q k. search (rules, tests)))
