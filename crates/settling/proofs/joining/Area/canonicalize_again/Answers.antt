-- Once the groups are joined, what is written of them and the atoms are the answer: where nothing is written the atoms stand as they should, else they are
-- carried behind it and all of it back. The bindings lie beyond both. Assumes nothing.
use native.Mathlib.Omega.{arith}
use Rattle.octets.proofs.Words.{length_words}
use Rattle.octets.specs.Words.{words}
use Rattle.bodies.specs.Terms.{sig}
use Rattle.settling.proofs.JoinAgain.{AllJoined, again_bare, again_moved, all_joined}
use Rattle.settling.proofs.joining.Area.canonicalize_again.Goals as goal

pub returns-then-v-eq0 : goal.returns-then-v-eq0
returns-then-v-eq0 c =
    let at_joined : (let a = c.args in AllJoined (sig a.self.sign) (words a.s.now) (words c.join_all-t.new.s) a.at a.e a.self c.join_all-t.result) =
    all_joined c.requires (omega (arith, length_words c.args.s.now, c.well_formed)) c.join_all-t.ensures in
    again_bare at_joined c.if-v-eq0.true

pub returns : goal.returns
returns c =
    let at_joined : (let a = c.args in AllJoined (sig a.self.sign) (words a.s.now) (words c.join_all-t.new.s) a.at a.e a.self c.join_all-t.result) =
    all_joined c.requires (omega (arith, length_words c.args.s.now, c.well_formed)) c.join_all-t.ensures in
    again_moved at_joined c.carry.ensures c.carry-2.ensures
