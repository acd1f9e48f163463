-- The count of the form.
use Rattle.std.proofs.Common.{sym, arith}
use Rattle.plan.proofs.Lines.{individual-count, individuals-fit}
use Rattle.plan.proofs.Plan.individual_count.Goals as goal

pub returns : goal.returns
returns c = (sym (individual-count c.args.self.now.sheet), omega (arith, individual-count c.args.self.now.sheet, individuals-fit c.args.self.now))
