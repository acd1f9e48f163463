-- The first step of the role assertions that are left is that of all, as long as none was found.
use Rattle.std.proofs.Common.{[], ◌∷◌}
use Rattle.alc.specs.Settle.{push, adds}
use Rattle.plan.specs.Plan.{plan_sheet}
use Rattle.tableau.specs.Joints.{joint_of}
use Rattle.tableau.proofs.Jointly.{Passed}
use Rattle.tableau.proofs.joint.push_step.Given as goal

abbrev pub invariant-loop-e : goal.invariant-loop-e
invariant-loop-e l = Passed (adds (plan_sheet l.plan) (joint_of l.j)) (λ e. push e ∷ []) (plan_sheet l.plan).roles l.e
