-- `strike::strike_at`: one is picked exactly if a settled expansion has all its seeds standing.
use mathlib.Core.Path.{◌∙◌}
use Rattle.plan.specs.Plan.{plan_sheet}
use Rattle.engine.proofs.Strikes.{picked, strikes, spares}
use Rattle.engine.proofs.strike.strike_at.Goals as goal
use Rattle.engine.proofs.strike.strike_at.Goals.{then-marks-i-ne0-via-then-marks-i-ne0, then-marks-i-ne0-via-else-marks-i-ne0+then-is_some}

pub returns-then-marks-i-ne0 : goal.returns-then-marks-i-ne0
returns-then-marks-i-ne0 c =
    spares (plan_sheet c.args.plan.now) c.args.used c.args.records.now c.args.marks.now c.args.i (λ z. elim c.then-marks-i-ne0.branch [
      | then-marks-i-ne0-via-then-marks-i-ne0 w ↦ absurd (w.if-marks-i-ne0.true z)
      | then-marks-i-ne0-via-else-marks-i-ne0+then-is_some w ↦ picked _ _ _ _ _ w.label_of.ensures w.pick.ensures w.is_some.ensures ∙ w.if-is_some.true
    ])

pub returns : goal.returns
returns c =
    strikes (plan_sheet c.args.plan.now) c.args.used c.args.records.now c.args.marks.now c.args.i c.if-marks-i-ne0.false
    (picked _ _ _ _ _ c.label_of.ensures c.pick.ensures c.is_some.ensures ∙ c.if-is_some.false)
