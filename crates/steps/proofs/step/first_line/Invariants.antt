-- The first line whose demand is not met: what is left to look at offers the choice that all lines offer.
use Rattle.alc.specs.Bits.{members}
use Rattle.plan.specs.Plan.{plan_sheet}
use Rattle.steps.proofs.Chosen.{Looking}
use Rattle.steps.proofs.step.first_line.Given as goal

abbrev pub invariant-loop-i : goal.invariant-loop-i
invariant-loop-i l = Looking (plan_sheet l.plan) l.l (members 32 l.i-iterator.left)
