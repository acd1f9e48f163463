-- What is left to include is the whole.
use Rattle.std.specs.Prelude.{map}
use Rattle.alc.specs.declared.Ask.{Ask}
use Rattle.seeds.specs.Left.{asks_left}
use Rattle.tableau.proofs.Buffers.{Including}
use Rattle.plan.specs.Plan.{plan_sheet}
use Rattle.alc.specs.Seeds.{seeds}
use Rattle.tableau.proofs.walks.include_seeds.Given as goal

abbrev pub invariant-loop-ask : goal.invariant-loop-ask
invariant-loop-ask l =
    Including (seeds (plan_sheet l.plan) l.fn.l) l.start l.initial.records (map (λ (q : Ask). q.seed) (asks_left l.ask-iterator)) l.used l.records
