-- An entry of the form, which is one of 32.
use Rattle.std.proofs.Common.{sym, ◌∙◌, arith}
use Rattle.plan.proofs.Lines.{rule-is, rules-fit}
use Rattle.plan.proofs.Plan.rule.Goals as goal

pub offset_bounds-self-r : goal.offset_bounds-self-r
offset_bounds-self-r c = omega (arith, c.requires, rules-fit c.args.self.now)

pub bounds-self-r : goal.bounds-self-r
bounds-self-r c = omega (arith, c.requires, rules-fit c.args.self.now)

pub returns : goal.returns
returns c = c.from.ensures ∙ sym (rule-is c.args.self.now.sheet c.args.r c.requires)
