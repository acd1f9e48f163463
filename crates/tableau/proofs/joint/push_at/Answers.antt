-- What a role assertion pushes: nothing where joining changes nothing.
use Rattle.std.proofs.Common.{◌≡◌, sym, ap, ap₂, ◌∙◌}
use Rattle.alc.specs.declared.Label.{Label}
use Rattle.alc.specs.declared.RoleAssertion.{RoleAssertion}
use Rattle.alc.specs.Label.{blank, add_all, join, pushed}
use Rattle.alc.specs.Settle.{label}
use Rattle.alc.specs.Seeds.{same}
use Rattle.alc.proofs.Theorems.Lists.{clashing}
use Rattle.alc.proofs.Theorems.Seeds.{same_true, same_refl}
use Rattle.plan.specs.Plan.{plan_sheet}
use Rattle.tableau.specs.Joints.{joint_of}
use Rattle.tableau.proofs.Jointly.{ahead, pushes, push-inside, pushed_none, pushed-some}
use Rattle.tableau.proofs.joint.push_at.Goals as goal
use Rattle.tableau.proofs.joint.push_at.Goals.{After-eq}

pub label-requires : goal.label-requires
label-requires c = rw c.role_assertion-along.ensures (push-inside c.args.plan.now c.args.j.now c.args.e c.requires.fit c.requires.e_in_bounds).source

pub label-l-requires : goal.label-l-requires
label-l-requires c = rw c.role_assertion-along.ensures (push-inside c.args.plan.now c.args.j.now c.args.e c.requires.fit c.requires.e_in_bounds).target

-- what the code reads and joins
marked : (c : After-eq) → c.pushed_along-marks.result ≡ add_all blank (pushes (plan_sheet c.args.plan.now) (joint_of c.args.j.now) c.args.e)
marked c =
    let J = joint_of c.args.j.now in
    c.pushed_along-marks.ensures
    ∙ ap₂ (λ (r : RoleAssertion) (l : Label). add_all blank (pushed (plan_sheet c.args.plan.now) r.role l)) c.role_assertion-along.ensures
    (c.label.ensures ∙ ap (λ (r : RoleAssertion). label J r.source) c.role_assertion-along.ensures)

there : (c : After-eq) → c.label-l.result ≡ ahead (plan_sheet c.args.plan.now) (joint_of c.args.j.now) c.args.e
there c = c.label-l.ensures ∙ ap (λ (r : RoleAssertion). label (joint_of c.args.j.now) r.target) c.role_assertion-along.ensures

joined : (c : After-eq) → c.join.result ≡ join (ahead (plan_sheet c.args.plan.now) (joint_of c.args.j.now) c.args.e) c.pushed_along-marks.result
joined c = c.join.ensures ∙ ap (λ (l : Label). join l c.pushed_along-marks.result) (there c)

pub returns-then-eq : goal.returns-then-eq
returns-then-eq c =
    let a = (goal.at.returns-then-eq c).After-eq in
    pushed_none _ _ _ (marked a) (joined a) (same_true c.join.result c.label-l.result (sym c.eq.ensures ∙ c.if-eq.true) ∙ there a)

pub returns : goal.returns
returns c =
    let a = (goal.at.returns c).After-eq in
    rw c.role_assertion-along.ensures
    (pushed-some _ _ _ (marked a) (joined a) (λ e. clashing _ (ap (λ (l : Label). same l c.label-l.result) (e ∙ sym (there a)) ∙ same_refl c.label-l.result) (sym c.eq.ensures ∙ c.if-eq.false)))
