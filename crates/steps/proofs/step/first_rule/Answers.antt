-- The first rule whose demand is not met: both of its sides are lines, of which there are 32 at most.
use Rattle.std.proofs.Common.{arith}
use Rattle.plan.specs.Plan.{plan_sheet}
use Rattle.plan.proofs.Lines.{lines_fit, rule-inside}
use Rattle.steps.proofs.step.first_rule.Goals as goal

pub either-requires : goal.either-requires
either-requires c =
    let p = c.args.plan.now in
    let h = rule-inside (plan_sheet p) p.prepared.well c.loop-r.r (omega (arith, c.rule_count-r-end.ensures)) in
    rw c.rule-rule.ensures (omega (arith, lines_fit p))
