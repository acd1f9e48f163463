-- The count of the form.
use Rattle.std.proofs.Common.{sym, arith}
use Rattle.plan.proofs.Lines.{role-count, roles-fit}
use Rattle.plan.proofs.Plan.role_count.Goals as goal

pub returns : goal.returns
returns c = (sym (role-count c.args.self.now.sheet), omega (arith, role-count c.args.self.now.sheet, roles-fit c.args.self.now))
