-- The first line whose demand is not met: what is left to look at offers the choice that all lines offer.
use Rattle.std.proofs.Common.{◌∙◌, ap, arith}
use Rattle.std.proofs.lemmas.Grind.{common_steps}
use Rattle.alc.specs.Bits.{members}
use Rattle.alc.specs.declared.walk.Members.{Members}
use Rattle.plan.proofs.Walking.{each-next, each-rest}
use Rattle.steps.proofs.Chosen.{looking}
use Rattle.steps.proofs.step.first_line.Goals as goal

pub loop-i-init : goal.loop-i-init
loop-i-init c =
    looking (ap (λ (m : Members). members 32 m.left) c.into_iter-i-iterator.ensures.into_iter_gives ∙ c.working-i-items.ensures)

pub line_choice-requires-clause-i_bound : goal.line_choice-requires-clause-i_bound
line_choice-requires-clause-i_bound c = each-next c.in-Some.ensures.steps c.loop-i.invariant.lines

pub loop-i-preserved : goal.loop-i-preserved
loop-i-preserved c = record { lines = each-rest c.in-Some.ensures.steps c.loop-i.invariant.lines; rest = grind (arith, common_steps) }
