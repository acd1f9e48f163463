-- `order::bring_seeds`: what is left to bring is the whole.
use Rattle.alc.specs.Seeds.{include_all, seeds}
use Rattle.plan.specs.Plan.{plan_sheet}
use Rattle.seeds.specs.Left.{asks_left}
use Rattle.tableau.specs.Records.{recorded}
use Rattle.order.proofs.Orders.{BringingSeeds}
use Rattle.order.proofs.bring_seeds.Given as goal

abbrev pub invariant-loop-ask : goal.invariant-loop-ask
invariant-loop-ask l =
    BringingSeeds l.used l.initial.records l.initial.marks (include_all (recorded l.fn.start l.initial.records) (seeds (plan_sheet l.plan) l.fn.l)) (asks_left l.ask-iterator) l.front l.records l.marks
