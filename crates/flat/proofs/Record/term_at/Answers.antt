-- The count of leading zeros is a range of numbers: a fresh variable, a name or a literal is there, whose payload fits or not, or no term. Which term it is,
-- the kind tells, and of a name `term_of`. Assumes nothing.
use mathlib.Core.Path.{refl}
use native.Mathlib.Omega.{arith}
use Rattle.octets.specs.Words.{words}
use Rattle.rules.specs.Words.{limit12, limit16, name_base, literal_base}
use Rattle.words.proofs.Ranges.{kind_range, kind_from, false_below, false_above}
use Rattle.written.specs.Written.{with_globals}
use Rattle.words.proofs.AtomLaws.{term_fresh, term_literal}
use Rattle.flat.proofs.Laws.{no_word, term_fits, term_none, fresh_fits, fresh_unfit, name_fits, literal_fits, none_fits}
use Rattle.flat.proofs.Record.term_at.Goals as goal

pub returns-then-count-at : goal.returns-then-count-at
returns-then-count-at c = let a = c.args in no_word (with_globals a.self.now.heads a.self.now.globals) (words a.self.now.rule.now) a.at (omega arith)

-- ---- a fresh variable

pub overflow_sub-head : goal.overflow_sub-head
overflow_sub-head c = (kind_range 0 31 c.get-w.result refl c.get-w.ensures.fits c.in-0.is).0

pub returns-then-head-min : goal.returns-then-head-min
returns-then-head-min c =
    let s = c.args.self.now in
    let w = c.get-w in
    let r = kind_range 0 31 w.result refl w.ensures.fits c.in-0.is in
    term_fits s.heads s.globals (words s.rule.now) c.args.at w.ensures.is (omega arith)
    (fresh_fits s.heads w.result r.0 (omega (arith, c.min.ensures))) (term_fresh s.globals w.result r.0)

pub returns-else-head-min : goal.returns-else-head-min
returns-else-head-min c =
    let s = c.args.self.now in
    let w = c.get-w in
    let r = kind_range 0 31 w.result refl w.ensures.fits c.in-0.is in
    term_none s.heads s.globals (words s.rule.now) c.args.at w.ensures.is (omega arith)
    (fresh_unfit s.heads w.result r.0 (omega (arith, c.min.ensures)))

-- ---- a name

pub overflow_sub-w : goal.overflow_sub-w
overflow_sub-w c = (kind_range 1 30 c.get-w.result refl c.get-w.ensures.fits c.in-1.is).0

pub returns-then-w-lt-LIMIT_12 : goal.returns-then-w-lt-LIMIT_12
returns-then-w-lt-LIMIT_12 c =
    let s = c.args.self.now in
    let w = c.get-w in
    let r = kind_range 1 30 w.result refl w.ensures.fits c.in-1.is in
    term_fits s.heads s.globals (words s.rule.now) c.args.at w.ensures.is (omega arith)
    (name_fits s.heads w.result r.0 (omega arith)) c.term_of.ensures

pub returns-else-w-lt-LIMIT_12 : goal.returns-else-w-lt-LIMIT_12
returns-else-w-lt-LIMIT_12 c =
    let s = c.args.self.now in
    let w = c.get-w in
    let r = kind_range 1 30 w.result refl w.ensures.fits c.in-1.is in
    term_none s.heads s.globals (words s.rule.now) c.args.at w.ensures.is (omega arith)
    (none_fits s.heads w.result r.1 (false_above name_base limit12 w.result (omega arith)) (false_above literal_base limit16 w.result (omega arith)))

-- ---- a literal

pub overflow_sub-w-in-2 : goal.overflow_sub-w-in-2
overflow_sub-w-in-2 c = (kind_range 2 29 c.get-w.result refl c.get-w.ensures.fits c.in-2.is).0

pub returns-then-w-lt-LIMIT_16 : goal.returns-then-w-lt-LIMIT_16
returns-then-w-lt-LIMIT_16 c =
    let s = c.args.self.now in
    let w = c.get-w in
    let r = kind_range 2 29 w.result refl w.ensures.fits c.in-2.is in
    term_fits s.heads s.globals (words s.rule.now) c.args.at w.ensures.is (omega arith)
    (literal_fits s.heads w.result r.0 (omega arith)) (term_literal s.globals w.result r.1)

pub returns-else-w-lt-LIMIT_16 : goal.returns-else-w-lt-LIMIT_16
returns-else-w-lt-LIMIT_16 c =
    let s = c.args.self.now in
    let w = c.get-w in
    let r = kind_range 2 29 w.result refl w.ensures.fits c.in-2.is in
    term_none s.heads s.globals (words s.rule.now) c.args.at w.ensures.is (omega arith)
    (none_fits s.heads w.result (omega arith) (false_below name_base limit12 w.result r.1) (false_above literal_base limit16 w.result (omega arith)))

-- ---- another kind

pub returns-in_default : goal.returns-in_default
returns-in_default c =
    let s = c.args.self.now in
    let w = c.get-w in
    let low = kind_from 3 29 w.result refl w.ensures.fits (omega arith) in
    term_none s.heads s.globals (words s.rule.now) c.args.at w.ensures.is (omega arith)
    (none_fits s.heads w.result (omega arith) (false_below name_base limit12 w.result (omega arith)) (false_below literal_base limit16 w.result low))
