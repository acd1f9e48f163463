-- All that goes along a role: what is handed on so far, with what the lines that are left hand on.
use Rattle.std.proofs.Common.{◌∙◌, ap, arith}
use Rattle.std.proofs.lemmas.Grind.{common_steps}
use Rattle.alc.specs.Bits.{members}
use Rattle.alc.specs.declared.walk.Members.{Members}
use Rattle.plan.specs.Plan.{plan_sheet}
use Rattle.plan.proofs.Walking.{each-next, each-rest}
use Rattle.seeds.proofs.Handing.{handing, handed-fits}
use Rattle.seeds.proofs.pushed_along.Goals as goal

pub loop-i-init : goal.loop-i-init
loop-i-init c =
    rw c.blank-marks.ensures
    (handing (plan_sheet c.args.plan.now) c.args.role c.args.l
    (ap (λ (m : Members). members 32 m.left) c.into_iter-i-iterator.ensures.into_iter_gives ∙ c.asking-i-items.ensures))

pub handed_at-requires : goal.handed_at-requires
handed_at-requires c = each-next c.in-Some.ensures.steps c.loop-i.invariant.lines

pub add-marks-requires : goal.add-marks-requires
add-marks-requires c =
    handed-fits c.args.plan.now c.args.role c.args.l c.in-Some.i (each-next c.in-Some.ensures.steps c.loop-i.invariant.lines) c.in-Some-handed_at.ensures

pub loop-i-preserved-in-Some-handed_at : goal.loop-i-preserved-in-Some-handed_at
loop-i-preserved-in-Some-handed_at c = record { lines = each-rest c.in-Some.ensures.steps c.loop-i.invariant.lines; rest = grind (arith, common_steps) }

pub loop-i-preserved : goal.loop-i-preserved
loop-i-preserved c = record { lines = each-rest c.in-Some.ensures.steps c.loop-i.invariant.lines; rest = grind (arith, common_steps) }
