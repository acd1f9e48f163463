-- The count of the form.
use Rattle.std.proofs.Common.{sym, arith}
use Rattle.plan.proofs.Lines.{class-count, classes-fit}
use Rattle.plan.proofs.Plan.class_count.Goals as goal

pub returns : goal.returns
returns c = (sym (class-count c.args.self.now.sheet), omega (arith, class-count c.args.self.now.sheet, classes-fit c.args.self.now))
