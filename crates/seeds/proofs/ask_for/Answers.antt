-- The seed asked for by a mark: the mark, with all that goes along the role.
use Rattle.std.proofs.Common.{arith}
use Rattle.std.proofs.lemmas.Grind.{common_steps}
use Rattle.alc.specs.Label.{blank, add, pushed}
use Rattle.alc.specs.Seeds.{seed_of}
use Rattle.plan.specs.Plan.{plan_sheet}
use Rattle.seeds.proofs.Handing.{add_all-join}
use Rattle.seeds.proofs.ask_for.Goals as goal

pub returns : goal.returns
unfolding seed_of
returns c =
    let join-all = add_all-join (add blank c.args.m) (pushed (plan_sheet c.args.plan.now) c.args.role c.args.l) in
    grind (arith, common_steps)
