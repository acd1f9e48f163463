-- The count of the form.
use Rattle.std.proofs.Common.{sym, arith}
use Rattle.plan.proofs.Lines.{rule-count, rules-fit}
use Rattle.plan.proofs.Plan.rule_count.Goals as goal

pub returns : goal.returns
returns c = (sym (rule-count c.args.self.now.sheet), omega (arith, rule-count c.args.self.now.sheet, rules-fit c.args.self.now))
