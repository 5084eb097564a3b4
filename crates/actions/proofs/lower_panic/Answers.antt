-- A panic: its two words are written as they stand, and nothing is walked or bound. Assumes nothing.
use native.Mathlib.Omega.{arith}
use Rattle.octets.proofs.Words.{length_words}
use Rattle.head_exprs.proofs.Sites.{site}
use Rattle.actions.proofs.Acting.{Panics, panic_done}
use Rattle.actions.proofs.lower_panic.Goals.{After-get-l}
use Rattle.actions.proofs.lower_panic.Goals as goal

pub overflow_add-at : goal.overflow_add-at
overflow_add-at c = omega (arith, c.requires.at_in_bounds, length_words c.args.reading.now.rule.now)

-- its literal is read
panics : (c : After-get-l) → let a = c.args in Panics (site a.reading.now a.scratch.now a.counters.now a.at a.tops) c.get-l.result
panics c =
    let q = c.requires in
    record {
      is = c.get-l.ensures.is;
      inside = q.at_in_bounds;
      room = q.room.0;
      scope_room = q.room.1;
      rule_fits = omega (arith, length_words c.args.reading.now.rule.now);
    }

pub overflow_add-result : goal.overflow_add-result
overflow_add-result c = omega (arith, panics (goal.at.overflow_add-result c).After-get-l)

pub returns : goal.returns
returns c = panic_done (panics (goal.at.returns c).After-get-l) c.put_all-end.ensures
