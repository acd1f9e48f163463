-- The marked lines of the set that is prepared.
use Rattle.std.proofs.Common.{refl, ◌∙◌, ap}
use Rattle.alc.specs.Bits.{members}
use Rattle.plan.specs.Prepared.{is_working}
use Rattle.plan.specs.Plan.{plan_sheet}
use Rattle.plan.proofs.Lines.{lines_fit}
use Rattle.plan.proofs.Walking.{marked-word}
use Rattle.plan.proofs.Plan.working.Goals as goal

pub returns : goal.returns
returns c =
    let p = c.args.self.now in
    ap (members 32) c.of.ensures ∙ marked-word is_working (plan_sheet p) c.args.l p.working_set (lines_fit p) refl p.prepared.working
