-- The first step of the individuals that are left is that of all, as long as none was found.
use Rattle.std.proofs.Common.{length}
use Rattle.alc.specs.Lists.{up_to}
use Rattle.alc.specs.Settle.{moves_of, adds}
use Rattle.plan.specs.Plan.{plan_sheet}
use Rattle.tableau.proofs.Jointly.{Passed}
use Rattle.tableau.proofs.joint.lowest_step.Given as goal

abbrev pub invariant-loop-a : goal.invariant-loop-a
invariant-loop-a l = Passed (adds (plan_sheet l.plan) l.l-items) (moves_of (plan_sheet l.plan)) (up_to (length l.l-items)) l.a
