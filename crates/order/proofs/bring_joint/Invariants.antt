-- `order::bring_joint`: what is left to bring is the whole.
use Rattle.std.proofs.Common.{[]}
use Rattle.alc.specs.Lists.{each}
use Rattle.alc.specs.Seeds.{include_all, seeds}
use Rattle.plan.specs.Plan.{plan_sheet}
use Rattle.order.proofs.Orders.{Bringing, joint_onward}
use Rattle.order.proofs.bring_joint.Given as goal

abbrev pub invariant-loop-l : goal.invariant-loop-l
invariant-loop-l l =
    Bringing l.used l.initial.records l.initial.marks (include_all [] (each (seeds (plan_sheet l.plan)) l.l-items)) (joint_onward (plan_sheet l.plan) l.l-items l.l-index) l.front l.records l.marks
