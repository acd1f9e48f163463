-- `strike::strike_pass`: those from i on are looked at.
use Rattle.plan.specs.Plan.{plan_sheet}
use Rattle.engine.proofs.Strikes.{Striking}
use Rattle.engine.proofs.strike.strike_pass.Given as goal

abbrev pub invariant-loop-i : goal.invariant-loop-i
invariant-loop-i l = Striking (plan_sheet l.plan) l.used l.start l.records l.initial.marks l.marks l.changed l.i
