-- A clash comes first, then the individuals' own steps, then what is pushed.
use Rattle.std.proofs.Common.{sym, ◌∙◌}
use Rattle.tableau.proofs.Jointly.{next-clashed, next-own, next-pushed}
use Rattle.tableau.proofs.joint.next_step.Goals as goal

pub returns-then-joint_clashes : goal.returns-then-joint_clashes
returns-then-joint_clashes c = next-clashed _ _ (sym c.joint_clashes.ensures ∙ c.if-joint_clashes.true)

pub returns-in-Settled : goal.returns-in-Settled
returns-in-Settled c =
    c.push_step.ensures ∙ next-pushed _ _ (sym c.joint_clashes.ensures ∙ c.if-joint_clashes.false) (sym c.lowest_step-next.ensures ∙ c.in-Settled.is)

pub returns-in_default : goal.returns-in_default
returns-in_default c =
    c.lowest_step-next.ensures ∙ next-own _ _ (sym c.joint_clashes.ensures ∙ c.if-joint_clashes.false) (λ e. c.in_default.not-Settled (c.lowest_step-next.ensures ∙ e))
