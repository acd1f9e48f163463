-- `joint::joint_clashes`: std's test of any label is the definition's.
use Rattle.std.proofs.Common.{◌∙◌, rules, tests}
use Rattle.std.proofs.lemmas.Iterator.{YieldsList-from_slice}
use Rattle.std.proofs.lemmas.Iterator.Search.{any_from_yields_List}
use Rattle.alc.specs.Label.{clashes}
use Rattle.plan.specs.Plan.{plan_sheet}
use Rattle.tableau.specs.Joints.{joint_of}
use Rattle.tableau.proofs.Jointly.{any-is}
use Rattle.tableau.proofs.joint.joint_clashes.Goals as goal

pub returns : goal.returns
returns c =
    let test = clashes (plan_sheet c.args.plan.now) in
    let J = joint_of c.args.j.now in
    any_from_yields_List test _ _ _ c.any.ensures.ran (YieldsList-from_slice J cc) (λ x b q k. search (rules, tests)) ∙ any-is test J
