-- Testing a mark: the machine's shift and remainder are `bit`, at the line that the mark names.
use Rattle.std.specs.Prelude.{refl}
use Rattle.alc.specs.Bits.{bit}
use Rattle.alc.proofs.Label.has.Goals as goal

pub returns-in-Holds : goal.returns-in-Holds
unfolding bit
returns-in-Holds c = (refl, rw c.in-Holds.is)

pub returns-in-Fails : goal.returns-in-Fails
unfolding bit
returns-in-Fails c = (refl, rw c.in-Fails.is)
