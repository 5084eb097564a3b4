-- Each store lies behind the one before it, so none undoes another, and together they are what the contract says. Assumes nothing.
use native.Mathlib.Omega.{arith}
use Rattle.octets.specs.Words.{words}
use Rattle.merging.proofs.Linking.{Told, told, linked_one}
use Rattle.merging.proofs.Pass.link_one.Goals as goal

-- ---- the last one leads to it

pub put-requires : goal.put-requires
put-requires c =
    let at_get : (let a = c.args in Told (words a.s.now) a.self.from a.i a.self.links a.self.table a.count c.bucket.result c.get-last.result) =
    told c.requires c.size-z.ensures c.part.ensures c.key-key.ensures c.bucket.ensures.0 c.get-last.ensures.is in
    omega (arith, at_get)

pub returns : goal.returns
returns c =
    let at_get : (let a = c.args in Told (words a.s.now) a.self.from a.i a.self.links a.self.table a.count c.bucket.result c.get-last.result) =
    told c.requires c.size-z.ensures c.part.ensures c.key-key.ensures c.bucket.ensures.0 c.get-last.ensures.is in
    (c.size-z.ensures, linked_one at_get c.put.ensures c.put_all.ensures.1 c.put-2.ensures)
