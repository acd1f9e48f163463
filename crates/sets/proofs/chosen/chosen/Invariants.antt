-- `chosen::chosen`: of the rules below i those in the set stand in front.
use Rattle.sets.proofs.Kept.{KeptTo}
use Rattle.sets.proofs.chosen.chosen.Given as goal

abbrev pub invariant-loop-i : goal.invariant-loop-i
invariant-loop-i l = KeptTo l.rules l.set l.i l.kept l.chosen
