-- The code's test, that joining adds nothing, is whether the demand is met.
use Rattle.std.proofs.Common.{arith}
use Rattle.std.proofs.lemmas.Grind.{common_steps}
use Rattle.steps.proofs.Demands.{met-by-join}
use Rattle.steps.proofs.step.all.Goals as goal

pub returns-then-eq : goal.returns-then-eq
returns-then-eq c = λ ms e. let m = met-by-join c.args.l ms in grind (arith, common_steps)

pub returns : goal.returns
returns c = λ ms e. let m = met-by-join c.args.l ms in grind (arith, common_steps)
