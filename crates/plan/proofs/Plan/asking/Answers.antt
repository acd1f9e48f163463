-- The marked lines of the set that is prepared.
use Rattle.std.proofs.Common.{refl, ◌∙◌, ap}
use Rattle.alc.specs.Bits.{members}
use Rattle.alc.specs.Seeds.{is_quantified}
use Rattle.plan.specs.Plan.{plan_sheet}
use Rattle.plan.proofs.Lines.{lines_fit}
use Rattle.plan.proofs.Walking.{marked-word}
use Rattle.plan.proofs.Plan.asking.Goals as goal

pub returns : goal.returns
returns c =
    let p = c.args.self.now in
    ap (members 32) c.of.ensures ∙ marked-word is_quantified (plan_sheet p) c.args.l p.asking_set (lines_fit p) refl p.prepared.asking
