-- `judge::start_joint`: the class assertions from i on are to be entered.
use Prim.Native.Nat.{◌<◌}
use lib.ListN.{length}
use native.Mathlib.Omega.{arith}
use Rattle.plan.specs.Plan.{plan_sheet}
use Rattle.plan.proofs.Lines.{class-inside, lines_fit}
use Rattle.engine.proofs.Strikes.{entering, enter-at}
use Rattle.engine.proofs.judge.start_joint.Goals as goal
use Rattle.engine.proofs.judge.start_joint.Goals.{In-loop-i}

inside : (c : In-loop-i) → c.loop-i.i < length (plan_sheet c.args.plan.now).classes
inside c = omega (arith, c.loop-i-test.true, c.class_count-i-end.ensures)

pub loop-i-init : goal.loop-i-init
loop-i-init c = entering (rw c.individual_count.ensures.0 at c.blank_joint-joint.ensures)

pub label-l-requires : goal.label-l-requires
label-l-requires c = rw c.class_assertion-c.ensures (enter-at c.loop-i.invariant c.args.plan.now.prepared.well (inside (goal.at.label-l-requires c).In-loop-i))

pub add-requires : goal.add-requires
add-requires c =
    rw c.class_assertion-c.ensures
    (omega (arith, (class-inside (plan_sheet c.args.plan.now) c.args.plan.now.prepared.well c.loop-i.i (inside (goal.at.add-requires c).In-loop-i)).1, lines_fit c.args.plan.now))

pub with-joint-requires : goal.with-joint-requires
with-joint-requires c = rw c.class_assertion-c.ensures (enter-at c.loop-i.invariant c.args.plan.now.prepared.well (inside (goal.at.with-joint-requires c).In-loop-i))
