-- `judge::judge_settled`: its seeds are put behind the records, then all they reach, and these are weighed.
use Rattle.std.proofs.lemmas.Result.{err_from_is_err_and}
use Rattle.alc.proofs.Theorems.Sheet.{well-formed}
use Rattle.plan.specs.Plan.{plan_sheet}
use Rattle.engine.proofs.Ledgers.{begun-full, begun-ready, closing-full, closing-ready, judged-weighed}
use Rattle.engine.proofs.judge.judge_settled.Goals as goal

-- there is no room for its seeds
pub returns-in_err-asked : goal.returns-in_err-asked
returns-in_err-asked c =
    let p = err_from_is_err_and c.from_residual.result c.from_residual.ensures.1 in
    rw (p.1, p.2) (begun-full (plan_sheet c.args.plan.now) c.args.j c.requires.fit c.requires.clear _ _ _ c.requires.known c.requires.lent.0 c.requires.lent.1 _ _
    c.in_err-asked.ensures)

pub close-requires-clause-known : goal.close-requires-clause-known
close-requires-clause-known c =
    (begun-ready (plan_sheet c.args.plan.now) c.args.j c.requires.fit c.requires.clear _ _ _ c.requires.known c.requires.lent.0 c.requires.lent.1 _ _ c.in_ok-asked.ensures).2

-- there is no room for all that they reach
pub returns-in_err-reached : goal.returns-in_err-reached
returns-in_err-reached c =
    let p = err_from_is_err_and c.from_residual-in_err-reached.result c.from_residual-in_err-reached.ensures.1 in
    rw (p.1, p.2) (closing-full (plan_sheet c.args.plan.now) c.args.j c.requires.fit c.requires.clear _ _ _ c.requires.known c.requires.lent.0 c.requires.lent.1 _ _
    c.in_ok-asked.ensures _ _ c.in_err-reached.ensures)

pub weigh-requires : goal.weigh-requires
weigh-requires c =
    let (more, lent) =
    closing-ready (plan_sheet c.args.plan.now) c.args.j c.requires.fit c.requires.clear _ _ _ c.requires.known c.requires.lent.0 c.requires.lent.1 _ _
    c.in_ok-asked.ensures _ _ c.in_ok-reached.ensures in
    record { start_le_used = more; lent = lent }

pub returns : goal.returns
returns c =
    judged-weighed (plan_sheet c.args.plan.now) c.args.j c.requires.fit c.requires.clear _ _ _ c.requires.known c.requires.lent.0 c.requires.lent.1 _ _
    c.in_ok-asked.ensures _ _ c.in_ok-reached.ensures
    (well-formed (plan_sheet c.args.plan.now) c.args.plan.now.prepared.well) _ _ c.weigh.ensures
