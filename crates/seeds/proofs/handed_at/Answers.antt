-- What one line hands along a role: the line is one of 32.
use Rattle.std.proofs.Common.{arith}
use Rattle.plan.proofs.Lines.{lines_fit}
use Rattle.seeds.proofs.handed_at.Goals as goal

pub has-requires : goal.has-requires
has-requires c = omega (arith, c.requires, lines_fit c.args.plan.now)

pub has-requires-then-r-role-2 : goal.has-requires-then-r-role-2
has-requires-then-r-role-2 c = omega (arith, c.requires, lines_fit c.args.plan.now)
