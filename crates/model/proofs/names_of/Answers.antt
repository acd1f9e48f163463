-- `model::names_of`: the mask has the names of the lines passed.
use Rattle.std.proofs.Common.{◌<◌, sym, ◌∙◌, arith}
use Rattle.alc.specs.Sheet.{count}
use Rattle.plan.specs.Plan.{plan_sheet}
use Rattle.model.proofs.Worded.{naming, all_named, skip-unset, skip-other, name-put, name-inside}
use Rattle.model.proofs.names_of.Goals as goal
use Rattle.model.proofs.names_of.Goals.{In-loop-i, in-Name+then-has, in-Name+else-has, in_default}

on-sheet : (c : In-loop-i) → c.loop-i.i < count (plan_sheet c.args.plan.now)
on-sheet c = omega arith

pub loop-i-init : goal.loop-i-init
loop-i-init c = naming (plan_sheet c.args.plan.now) c.args.l

pub overflow_shl-mask : goal.overflow_shl-mask
overflow_shl-mask c =
    name-inside (plan_sheet c.args.plan.now) c.args.plan.now.prepared.limited c.loop-i.i (on-sheet (goal.at.overflow_shl-mask c).In-loop-i) c.in-Name.a (sym c.in-Name.ensures)

pub loop-i-preserved : goal.loop-i-preserved
loop-i-preserved c =
    let s = plan_sheet c.args.plan.now in
    let g = c.loop-i.invariant in
    elim c.match-line.branch [
      | in-Name+then-has w ↦
          let is = sym c.line.ensures ∙ w.in-Name.is in
          rw w.mask-is (name-put g w.in-Name.a is (name-inside s c.args.plan.now.prepared.limited c.loop-i.i (on-sheet (goal.at.loop-i-preserved c).In-loop-i) w.in-Name.a is) (sym w.has.ensures.1 ∙ w.if-has.true))
      | in-Name+else-has w ↦ rw w.mask-is (skip-unset g (sym w.has.ensures.1 ∙ w.if-has.false))
      | in_default w ↦ rw w.mask-is (skip-other g (λ n e. w.in_default.not-Name n (c.line.ensures ∙ e)))
    ]

pub returns : goal.returns
returns c = all_named c.loop-i.invariant (omega arith)
