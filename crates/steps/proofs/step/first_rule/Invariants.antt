-- The first rule whose demand is not met: the rules from r on offer the choice that all rules offer.
use Rattle.std.specs.Prelude.{◌≡◌, map, drop}
use Rattle.alc.specs.Lists.{first}
use Rattle.plan.specs.Plan.{plan_sheet}
use Rattle.steps.specs.Choice.{unmet, rule_demand, rule_demands}
use Rattle.steps.proofs.step.first_rule.Given as goal

abbrev pub invariant-loop-r : goal.invariant-loop-r
invariant-loop-r l =
    first (unmet l.l) (map rule_demand (drop l.r (plan_sheet l.plan).rules)) ≡ first (unmet l.l) (rule_demands (plan_sheet l.plan))
