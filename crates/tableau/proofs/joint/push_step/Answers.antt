-- The first step of the role assertions that are left is that of all, as long as none was found.
use Rattle.std.proofs.Common.{sym, ap, ◌∙◌, arith, refl}
use Rattle.plan.specs.Plan.{plan_sheet}
use Rattle.tableau.specs.Joints.{step_of}
use Rattle.tableau.proofs.Jointly.{step-none, role-at, push-each, pass-end, pass-on, pass-found}
use Rattle.tableau.proofs.joint.push_step.Goals as goal

pub loop-e-init : goal.loop-e-init
loop-e-init c = record { rest = refl }

pub returns-in_default : goal.returns-in_default
returns-in_default c =
    let at = role-at (plan_sheet c.args.plan.now) c.loop-e.e (omega (arith, c.role_count-e-end.ensures.0)) in
    rw push-each (c.push_at-next.ensures ∙ ap (step_of _ _) (pass-found c.loop-e.invariant at (λ e. c.in_default.not-Settled (c.push_at-next.ensures ∙ ap (step_of _ _) e))))

pub loop-e-preserved : goal.loop-e-preserved
loop-e-preserved c =
    let at = role-at (plan_sheet c.args.plan.now) c.loop-e.e (omega (arith, c.role_count-e-end.ensures.0)) in
    pass-on c.loop-e.invariant at (step-none _ _ _ (sym c.push_at-next.ensures ∙ c.in-Settled.is))

pub returns : goal.returns
returns c = rw push-each (ap (step_of _ _) (pass-end c.loop-e.invariant (omega (arith, c.role_count-e-end.ensures.0))))
