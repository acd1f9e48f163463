-- `chosen::chosen`: a rule of the set goes behind those that stand in front, any other is passed over.
use Rattle.std.specs.Prelude.{ℕ, ◌+◌}
use Rattle.std.proofs.Common.{sym, subst₂}
use Rattle.sheet.specs.declared.Section.{Section}
use Rattle.plan.proofs.Lines.{bit-set, bit-clear}
use Rattle.sets.proofs.Kept.{KeptTo, begin, passed, taken, finished}
use Rattle.sets.proofs.chosen.chosen.Goals as goal
use Rattle.sets.proofs.chosen.chosen.Goals.{then-set-i-eq1, else-set-i-eq1}

pub loop-i-init : goal.loop-i-init
loop-i-init c = begin c.args.rules.now c.args.set

pub loop-i-preserved : goal.loop-i-preserved
loop-i-preserved c =
    let Next : ℕ → Section → Type 0 = KeptTo c.args.rules.now c.args.set (c.loop-i.i + 1) in
    elim c.if-set-i-eq1.branch [
      | then-set-i-eq1 w ↦ subst₂ Next (sym w.kept-is) (sym w.chosen-is) (taken c.loop-i.invariant c.loop-i-test.true c.loop-i.chosen.count (bit-set c.args.set c.loop-i.i w.if-set-i-eq1.true))
      | else-set-i-eq1 w ↦ subst₂ Next (sym w.kept-is) (sym w.chosen-is) (passed c.loop-i.invariant c.loop-i-test.true (bit-clear c.args.set c.loop-i.i w.if-set-i-eq1.false))
    ]

pub returns : goal.returns
returns c = finished c.loop-i.invariant c.loop-i-test.false
