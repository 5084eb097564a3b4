-- The words that pass are those that are free and met for the first time. Assumes nothing.
use Prim.Native.Nat.{ℕ}
use native.Mathlib.Omega.{arith}
use mathlib.Core.Path.{ap, ◌∙◌}
use lib.ListN.{length}
use Rattle.std.proofs.Common.{rules, tests}
use Rattle.std.proofs.lemmas.Iterator.{YieldsList-from_range}
use Rattle.std.proofs.lemmas.Iterator.Consumers.{count_from_yields_List, YieldsList-from_filter}
use Rattle.octets.specs.Words.{words}
use Rattle.free_vars.specs.First.{first_free_at, free_among}
use Rattle.free_vars.proofs.Found.{length_firsts}
use Rattle.free_vars.proofs.head.Head.count_free.Goals as goal

pub returns : goal.returns
returns c =
    let h = c.args.self.now in
    let ws = words h.rule.now in
    let n = c.len.result in
    count_from_yields_List c.filter.result c.count.result c.count.ensures.ran
    (YieldsList-from_filter _ (first_free_at h.globals ws h.from) (YieldsList-from_range 0 n n (cc) (omega arith)) c.filter.ensures.closure
    (λ x r q k. search (rules, tests)))
    ∙ length_firsts h.globals ws h.from h.behind n (omega (arith, h.within)) ∙ ap (λ (k : ℕ). length (free_among h.globals ws h.from k)) c.len.ensures
