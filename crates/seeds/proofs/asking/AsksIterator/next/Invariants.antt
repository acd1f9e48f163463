-- The next seed asked for: as long as no line has asked for one, all that was left is left.
use Rattle.std.specs.Prelude.{◌≡◌, length}
use Rattle.alc.specs.Bits.{members}
use Rattle.seeds.specs.Left.{asks_left}
use Rattle.seeds.proofs.asking.AsksIterator.next.Given as goal

abbrev pub invariant-loop-i : goal.invariant-loop-i
invariant-loop-i l = asks_left l.self ≡ asks_left l.initial.self

abbrev pub decreases-loop-i : goal.decreases-loop-i
decreases-loop-i l = length (members 32 l.self.left.left)
