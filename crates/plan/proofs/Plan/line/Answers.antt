-- An entry of the form, which is one of 32.
use Rattle.std.proofs.Common.{sym, ◌∙◌, arith}
use Rattle.plan.proofs.Lines.{line-is, lines_fit}
use Rattle.plan.proofs.Plan.line.Goals as goal

pub line_of-requires : goal.line_of-requires
line_of-requires c = omega (arith, c.requires, lines_fit c.args.self.now)

pub returns : goal.returns
returns c = c.line_of.ensures ∙ sym (line-is c.args.self.now.sheet c.args.i c.requires)
