-- The count of the form.
use Rattle.std.proofs.Common.{sym, arith}
use Rattle.plan.proofs.Lines.{line-count, lines_fit}
use Rattle.plan.proofs.Plan.line_count.Goals as goal

pub returns : goal.returns
returns c = (sym (line-count c.args.self.now.sheet), omega (arith, line-count c.args.self.now.sheet, lines_fit c.args.self.now))
