-- `judge::start_joint`: the class assertions from i on are to be entered.
use Rattle.plan.specs.Plan.{plan_sheet}
use Rattle.engine.proofs.Strikes.{Entering}
use Rattle.engine.proofs.judge.start_joint.Given as goal

abbrev pub invariant-loop-i : goal.invariant-loop-i
invariant-loop-i l = Entering (plan_sheet l.plan) l.joint l.i
