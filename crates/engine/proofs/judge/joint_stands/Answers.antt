-- `judge::joint_stands`: std's test of all is the theory's.
use mathlib.Core.Path.{◌∙◌}
use Rattle.std.proofs.Common.{rules}
use Rattle.std.proofs.lemmas.Iterator.{YieldsList-from_slice}
use Rattle.std.proofs.lemmas.Iterator.Search.{all_from_yields_List}
use Rattle.alc.specs.Seeds.{served}
use Rattle.plan.specs.Plan.{plan_sheet}
use Rattle.tableau.specs.Joints.{joint_of}
use Rattle.tableau.specs.Walks.{standing}
use Rattle.engine.proofs.Strikes.{all-is}
use Rattle.engine.proofs.judge.joint_stands.Goals as goal

pub returns : goal.returns
returns c =
    let p = served (plan_sheet c.args.plan.now) (standing c.args.used c.args.records.now c.args.marks.now) in
    all_from_yields_List p _ _ _ c.all.ensures.ran (YieldsList-from_slice (joint_of c.args.j) (search rules)) (λ x b q k. search rules) ∙ all-is p (joint_of c.args.j)
