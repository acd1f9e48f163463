-- `judge::weigh`: the new marks are cleared, the records struck out, and the seeds looked up.
use mathlib.Core.Path.{sym, ◌∙◌}
use mathlib.Core.Bool.{true, false}
use Rattle.engine.proofs.Judging.{weighed}
use Rattle.engine.proofs.judge.weigh.Goals as goal

pub returns-then-joint_stands : goal.returns-then-joint_stands
returns-then-joint_stands c =
    weighed c.requires.start_le_used c.requires.lent (c.clear.ensures 0 (λ x z. z)) _ _ _
    c.strike.ensures true (sym c.if-joint_stands.true ∙ c.joint_stands.ensures)

pub returns-else-joint_stands : goal.returns-else-joint_stands
returns-else-joint_stands c =
    weighed c.requires.start_le_used c.requires.lent (c.clear.ensures 0 (λ x z. z)) _ _ _
    c.strike.ensures false (sym c.if-joint_stands.false ∙ c.joint_stands.ensures)
