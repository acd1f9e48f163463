-- `model::names_of`: the mask has the names of the lines passed.
use Rattle.plan.specs.Plan.{plan_sheet}
use Rattle.model.proofs.Worded.{Naming}
use Rattle.model.proofs.names_of.Given as goal

abbrev pub invariant-loop-i : goal.invariant-loop-i
invariant-loop-i l = Naming (plan_sheet l.plan) l.l l.i l.mask
