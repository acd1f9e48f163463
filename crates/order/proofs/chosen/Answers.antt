-- `order::chosen`: what is picked by the marks is what is chosen.
use Rattle.std.proofs.Common.{ap₂, ◌∙◌}
use Rattle.std.specs.Option.{unwrap_or}
use Rattle.plan.specs.Plan.{plan_sheet}
use Rattle.order.proofs.Orders.{picked-chosen}
use Rattle.order.proofs.chosen.Goals as goal

pub returns : goal.returns
returns c =
    c.unwrap_or.ensures ∙ ap₂ unwrap_or c.pick.ensures c.blank.ensures
    ∙ picked-chosen (plan_sheet c.args.plan.now) c.args.used c.args.records.now c.args.marks.now c.requires.sound c.args.seed c.requires.seed
