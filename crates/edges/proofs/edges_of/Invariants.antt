-- `edges::edges_of`: what is left to put in is the whole, and the keys are the edges.
use Rattle.plan.specs.Plan.{plan_sheet}
use Rattle.edges.proofs.Keyed.{Along}
use Rattle.edges.proofs.edges_of.Given as goal

abbrev pub invariant-loop-e : goal.invariant-loop-e
invariant-loop-e l = Along (plan_sheet l.plan) l.x l.initial.edges l.edges l.e
