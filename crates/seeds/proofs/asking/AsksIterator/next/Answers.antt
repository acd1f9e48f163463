-- The next seed asked for: what is left to look at are lines.
use Rattle.plan.proofs.Walking.{each-next}
use Rattle.seeds.proofs.Handing.{lines-next}
use Rattle.seeds.proofs.asking.AsksIterator.next.Goals as goal

pub invariant_of-self : goal.invariant_of-self
invariant_of-self c = record { lines = lines-next c.next.result c.next.ensures.steps c.loop-i.self.lines }

pub asked_at-requires : goal.asked_at-requires
asked_at-requires c = each-next c.in-Some.ensures.steps c.loop-i.self.lines
