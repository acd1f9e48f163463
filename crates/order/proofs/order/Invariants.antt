-- `order::order`: what is left to reach is the whole.
use Prim.Native.Nat.{◌-◌}
use Rattle.plan.specs.Plan.{plan_sheet}
use Rattle.tableau.specs.Records.{recorded}
use Rattle.order.proofs.Orders.{Bringing, walk_onward}
use Rattle.order.proofs.order.Given as goal

abbrev pub invariant-loop-i : goal.invariant-loop-i
invariant-loop-i l =
    Bringing l.used l.initial.records l.initial.marks (walk_onward (plan_sheet l.plan) 0 (recorded l.initial.front l.initial.records)) (walk_onward (plan_sheet l.plan) l.i) l.front l.records l.marks

abbrev pub decreases-loop-i : goal.decreases-loop-i
decreases-loop-i l = l.used - l.i
