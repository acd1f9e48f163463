-- `close::close`: what is left to reach is the whole.
use Prim.Native.Nat.{◌-◌}
use lib.ListN.{length}
use Rattle.alc.specs.Seeds.{bound, reach, successors}
use Rattle.plan.specs.Plan.{plan_sheet}
use Rattle.tableau.specs.Records.{recorded}
use Rattle.engine.proofs.Strikes.{Closing}
use Rattle.engine.proofs.close.close.Given as goal

abbrev pub invariant-loop-i : goal.invariant-loop-i
invariant-loop-i l =
    Closing (plan_sheet l.plan) (reach (successors (plan_sheet l.plan)) (bound (plan_sheet l.plan)) l.start (recorded l.count l.initial.records)) l.initial.records l.i l.used l.records

abbrev pub decreases-loop-i : goal.decreases-loop-i
decreases-loop-i l = length l.initial.records - l.i
