-- Canonicalizing a body: the equalities in front are done with one by one, the replacements of the rest are made, and what is left is resolved behind what the
-- front wrote. Each step leaves what the next one asks, and the table of spans lies between, where no atom is. Assumes nothing.
use mathlib.Core.Bool.{true}
use mathlib.Core.List.{List}
use mathlib.Core.Path.{◌≡◌}
use Prim.Native.Nat.{◌+◌, ◌^◌, ◌<◌, ℕ}
use native.Mathlib.Omega.{arith}
use lib.ListN.{length}
use Rattle.octets.proofs.Words.{length_words, length_words_kept}
use Rattle.octets.specs.Regions.{part}
use Rattle.bodies.proofs.Standing.{lent_body}
use Rattle.canonicalize.specs.Canonicalize.{CanonicalizeAsks, Leads}
use Rattle.canonicalize.specs.Spans.{Built}
use Rattle.canonicalize.proofs.Walking.{lent_runs}
use Rattle.canonicalize.proofs.Canonicalizing.{Led, canonical, leads_asks, led, replace_asks, resolve_asks, tabled, untabled}
use Rattle.canonicalize.proofs.canonicalize.Goals as goal

-- how far the equalities in front go is told by the words that are lent
told : {l m ws : List ℕ} {at n to d table buckets e : ℕ} → CanonicalizeAsks l at n to d → table ≡ at + n → Built l m at n table buckets
    → ws ≡ part m at n → Leads ws 0 (length ws) e → length m ≡ length l → length l < 2 ^ 64 → Led m at n to d table buckets e
told {l} {m} {ws} {at} {n} {to} {d} {table} {buckets} {e} c place b lent leads =
    led c place b (lent_runs m at n lent (tabled c place b).atoms.within true e leads)

pub run-e-requires : goal.run-e-requires
run-e-requires c =
    let b = c.build-spans in
    lent_body c.args.at c.args.n c.part.ensures (tabled c.requires b.ensures.place b.ensures.built).atoms

pub canonicalize_front-t-requires : goal.canonicalize_front-t-requires
canonicalize_front-t-requires c =
    let b = c.build-spans in
    let at_leading = told c.requires b.ensures.place b.ensures.built c.part.ensures c.run-e.ensures (length_words_kept _ _ b.auto.s)
    (omega (arith, length_words c.args.s.now, c.well_formed)) in
    leads_asks at_leading

pub replace_all-binds-requires : goal.replace_all-binds-requires
replace_all-binds-requires c =
    let b = c.build-spans in
    let at_leading = told c.requires b.ensures.place b.ensures.built c.part.ensures c.run-e.ensures (length_words_kept _ _ b.auto.s)
    (omega (arith, length_words c.args.s.now, c.well_formed)) in
    replace_asks at_leading c.canonicalize_front-t.ensures

pub resolve-requires : goal.resolve-requires
resolve-requires c =
    let b = c.build-spans in
    let at_leading = told c.requires b.ensures.place b.ensures.built c.part.ensures c.run-e.ensures (length_words_kept _ _ b.auto.s)
    (omega (arith, length_words c.args.s.now, c.well_formed)) in
    resolve_asks at_leading c.canonicalize_front-t.ensures c.replace_all-binds.ensures

pub returns : goal.returns
returns c =
    let b = c.build-spans in
    let at_leading = told c.requires b.ensures.place b.ensures.built c.part.ensures c.run-e.ensures (length_words_kept _ _ b.auto.s)
    (omega (arith, length_words c.args.s.now, c.well_formed)) in
    untabled c.requires b.ensures.place b.ensures.built
    (canonical at_leading c.canonicalize_front-t.ensures c.replace_all-binds.ensures c.resolve.ensures)
