-- The choice of the next step: lines first, then rules.
use Rattle.std.proofs.Common.{arith}
use Rattle.std.proofs.lemmas.Grind.{common_steps}
use Rattle.steps.specs.Choice.{choice}
use Rattle.steps.proofs.Chosen.{first-append}
use Rattle.steps.proofs.step.next_choice.Goals as goal

pub returns : goal.returns
unfolding choice
returns c = grind (arith, common_steps, first-append)
