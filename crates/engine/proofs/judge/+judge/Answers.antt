-- `judge::judge`: the settled joint labels are those of what the next step leads to, first branch first.
use Prim.Native.Nat.{ℕ}
use Rattle.std.proofs.lemmas.Result.{err_from_is_err_and}
use Rattle.plan.specs.Plan.{plan_sheet}
use Rattle.tableau.specs.declared.joint.JointStep.TheVariants.{Onward, Split}
use Rattle.tableau.specs.Joints.{joint_of}
use Rattle.tableau.proofs.Jointly.{settled-calm}
use Rattle.engine.proofs.Judging.{Stepped, going-ready, judged-both, judged-fine, judged-full, judged-none, onward, split-first, split-second, stepped}
use Rattle.engine.proofs.judge.+judge.Goals as goal
use Rattle.engine.proofs.judge.+judge.Goals.{In-Onward, In-Split}

-- where marks are added
adds : (t : ℕ) (c : In-Onward t) → Stepped (plan_sheet c.args.plan.now) c.args.j (Onward c.in-Onward.a c.in-Onward.more)
adds t c = stepped c.args.plan.now c.args.j c.well_formed.1.0.1.1.0.1.0.1 c.requires.fit c.in-Onward.ensures

-- where it is one of two
splits : (t : ℕ) (c : In-Split t) → Stepped (plan_sheet c.args.plan.now) c.args.j (Split c.in-Split.a c.in-Split.m c.in-Split.n)
splits t c = stepped c.args.plan.now c.args.j c.well_formed.1.0.1.1.0.1.0.1 c.requires.fit c.in-Split.ensures

pub judge_settled-requires-clause-clear : goal.judge_settled-requires-clause-clear
judge_settled-requires-clause-clear t c = settled-calm (plan_sheet c.args.plan.now) (joint_of c.args.j) c.in-Settled.ensures

pub label-requires : goal.label-requires
label-requires t c = (adds t (goal.at.label-requires t c).In-Onward).fresh.0

pub with-requires : goal.with-requires
with-requires t c = (adds t (goal.at.with-requires t c).In-Onward).fresh.0

pub judge-requires : goal.judge-requires
judge-requires t c =
    let g = adds t (goal.at.judge-requires t c).In-Onward in
    let b = onward g c.decreases c.with.result c.label.ensures c.join-l.ensures c.with.ensures in
    (b.less, (b.fits, (c.requires.lent, c.requires.known)))

pub label-l-requires : goal.label-l-requires
label-l-requires t c = (splits t (goal.at.label-l-requires t c).In-Split).fresh.0

pub add-requires : goal.add-requires
add-requires t c = (splits t (goal.at.add-requires t c).In-Split).fresh.1.0

pub with-requires-in-Split : goal.with-requires-in-Split
with-requires-in-Split t c = (splits t (goal.at.with-requires-in-Split t c).In-Split).fresh.0

pub judge-requires-in-Split : goal.judge-requires-in-Split
judge-requires-in-Split t c =
    let g = splits t (goal.at.judge-requires-in-Split t c).In-Split in
    let a = split-first g c.decreases c.with-in-Split.result c.label-l.ensures c.add.ensures c.with-in-Split.ensures in
    (a.less, (a.fits, (c.requires.lent, c.requires.known)))

pub add-requires-in-Going : goal.add-requires-in-Going
add-requires-in-Going t c = (splits t (goal.at.add-requires-in-Going t c).In-Split).fresh.2.0

pub with-requires-in-Going : goal.with-requires-in-Going
with-requires-in-Going t c = (splits t (goal.at.with-requires-in-Going t c).In-Split).fresh.0

pub judge-requires-in-Going : goal.judge-requires-in-Going
judge-requires-in-Going t c =
    let g = splits t (goal.at.judge-requires-in-Going t c).In-Split in
    let b = split-second g c.decreases c.with-in-Going.result c.label-l.ensures c.add-in-Going.ensures c.with-in-Going.ensures in
    (b.less, (b.fits, going-ready (rw c.in-Going.is at c.in_ok-first-in-Split.ensures) c.requires.lent.1))

pub returns-in-Clashed : goal.returns-in-Clashed
returns-in-Clashed t c =
    rw (stepped c.args.plan.now c.args.j c.well_formed.1.0.1.1.0.1.0.1 c.requires.fit c.in-Clashed.ensures).settles (judged-none _ _ _ _ c.requires.lent.0 c.requires.known)

pub returns-in-Settled : goal.returns-in-Settled
returns-in-Settled t c = rw (stepped c.args.plan.now c.args.j c.well_formed.1.0.1.1.0.1.0.1 c.requires.fit c.in-Settled.ensures).settles c.judge_settled.ensures

pub returns-in-Onward : goal.returns-in-Onward
returns-in-Onward t c =
    let g = adds t (goal.at.returns-in-Onward t c).In-Onward in
    let b = onward g c.decreases c.with.result c.label.ensures c.join-l.ensures c.with.ensures in
    rw g.settles (rw b.is at c.judge.ensures)

-- there is no room for the first branch
pub returns-in_err-first-in-Split : goal.returns-in_err-first-in-Split
returns-in_err-first-in-Split t c =
    let g = splits t (goal.at.returns-in_err-first-in-Split t c).In-Split in
    let a = split-first g c.decreases c.with-in-Split.result c.label-l.ensures c.add.ensures c.with-in-Split.ensures in
    let p = err_from_is_err_and c.from_residual.result c.from_residual.ensures.1 in
    rw (g.settles, p.1, p.2) (judged-full _ _ _ _ _ _ (rw a.is at c.in_err-first-in-Split.ensures))

-- none of it is fine
pub returns-in-Going : goal.returns-in-Going
returns-in-Going t c =
    let g = splits t (goal.at.returns-in-Going t c).In-Split in
    let a = split-first g c.decreases c.with-in-Split.result c.label-l.ensures c.add.ensures c.with-in-Split.ensures in
    let b = split-second g c.decreases c.with-in-Going.result c.label-l.ensures c.add-in-Going.ensures c.with-in-Going.ensures in
    rw g.settles (judged-both _ _ _ _ _ _ (rw (a.is, c.in-Going.is) at c.in_ok-first-in-Split.ensures) (rw b.is at c.judge-in-Going.ensures))

-- one of it is
pub returns-in-Fine : goal.returns-in-Fine
returns-in-Fine t c =
    let g = splits t (goal.at.returns-in-Fine t c).In-Split in
    let a = split-first g c.decreases c.with-in-Split.result c.label-l.ensures c.add.ensures c.with-in-Split.ensures in
    rw (g.settles, c.in-Fine.is) (judged-fine _ _ _ _ _ _ (rw (a.is, c.in-Fine.is) at c.in_ok-first-in-Split.ensures))
