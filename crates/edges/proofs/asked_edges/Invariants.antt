-- `edges::asked_edges`: what is left to put in is the whole.
use Rattle.alc.specs.Seeds.{asks}
use Rattle.plan.specs.Plan.{plan_sheet}
use Rattle.seeds.specs.Left.{asks_left}
use Rattle.edges.specs.Keys.{ask_key}
use Rattle.edges.proofs.Keyed.{Asking}
use Rattle.edges.proofs.asked_edges.Given as goal

abbrev pub invariant-loop-ask : goal.invariant-loop-ask
invariant-loop-ask l = Asking (ask_key l.seeds) (asks (plan_sheet l.plan) l.fn.l) (asks_left l.ask-iterator) l.edges
