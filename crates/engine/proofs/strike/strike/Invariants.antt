-- `strike::strike`: pass after pass; each but the last leaves fewer records that stand.
use Prim.Native.Nat.{◌+◌}
use mathlib.Core.Bool.{false, cond}
use mathlib.Core.Path.{◌≡◌}
use lib.ListN.{length}
use Rattle.plan.specs.Plan.{plan_sheet}
use Rattle.tableau.specs.Walks.{standing}
use Rattle.engine.specs.Ledger.{Struck, Stable}
use Rattle.engine.proofs.strike.strike.Given as goal

abbrev pub invariant-loop-changed : goal.invariant-loop-changed
invariant-loop-changed l =
    Struck (plan_sheet l.plan) l.used l.start l.records l.initial.marks l.marks × (l.changed ≡ false → Stable (plan_sheet l.plan) l.used l.start l.records l.marks)

abbrev pub decreases-loop-changed : goal.decreases-loop-changed
decreases-loop-changed l = length (standing l.used l.records l.marks) + cond l.changed 1 0
