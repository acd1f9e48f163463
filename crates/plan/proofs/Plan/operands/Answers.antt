-- What is prepared of a line, which is one of 32.
use Rattle.std.proofs.Common.{arith}
use Rattle.plan.proofs.Lines.{lines_fit}
use Rattle.plan.proofs.Plan.operands.Goals as goal

pub offset_bounds-self-i : goal.offset_bounds-self-i
offset_bounds-self-i c = omega (arith, c.requires, lines_fit c.args.self.now)

pub bounds-self-i : goal.bounds-self-i
bounds-self-i c = omega (arith, c.requires, lines_fit c.args.self.now)
