-- `chosen::with_rules`: the form with the chosen rules is prepared as the plan's.
use Rattle.std.proofs.Common.{arith}
use Rattle.plan.proofs.Lines.{rule-count, rules-fit}
use Rattle.sets.proofs.Kept.{sheet-kept, prepared-kept}
use Rattle.sets.proofs.chosen.with_rules.Goals as goal

pub chosen-sheet-requires : goal.chosen-sheet-requires
chosen-sheet-requires c = omega (arith, rule-count c.args.plan.now.sheet, rules-fit c.args.plan.now)

pub invariant_of-result : goal.invariant_of-result
invariant_of-result c = record { prepared = prepared-kept c.args.plan.now.sheet c.args.set c.chosen-sheet.result c.chosen-sheet.ensures c.args.plan.now.prepared }

pub returns : goal.returns
returns c = sheet-kept c.args.plan.now.sheet c.args.set c.chosen-sheet.result c.chosen-sheet.ensures
