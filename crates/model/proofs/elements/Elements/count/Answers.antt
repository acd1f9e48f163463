-- `model::elements::Elements::count`: as many labels as are counted, and as many seeds.
use Rattle.std.proofs.Common.{arith}
use Rattle.model.proofs.Worded.{ready-of, long, seeds-length}
use Rattle.model.proofs.elements.Elements.count.Goals as goal

pub returns : goal.returns
returns c =
    let e = c.args.self.now in
    let r = ready-of e.ready in
    let k = long e.joint (omega arith) in
    (omega arith, omega (arith, e.joint.small, r.front, r.few), omega (arith, k, seeds-length r k))
