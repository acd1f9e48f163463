-- `judge::include_joint`: what is left to include is the whole.
use Rattle.alc.specs.Lists.{each}
use Rattle.alc.specs.Seeds.{include_all, seeds}
use Rattle.plan.specs.Plan.{plan_sheet}
use Rattle.tableau.specs.Records.{recorded}
use Rattle.tableau.specs.Joints.{joint_of}
use Rattle.engine.proofs.Strikes.{Gathering}
use Rattle.engine.proofs.judge.include_joint.Given as goal

abbrev pub invariant-loop-l : goal.invariant-loop-l
invariant-loop-l l =
    Gathering (plan_sheet l.plan) l.l-items (include_all (recorded l.start l.initial.records) (each (seeds (plan_sheet l.plan)) (joint_of l.fn.j))) l.initial.records l.l-index l.used l.records
