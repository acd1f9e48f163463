-- The lines that pass: at each turn the next is told, and the others stay as they were.
use Rattle.std.proofs.Common.{arith}
use Rattle.plan.proofs.Told.{told-none, told-in, told-out}
use Rattle.plan.proofs.lines_where.Given.{F-post}
use Rattle.plan.proofs.lines_where.Goals.{then-passes, else-passes}
use Rattle.plan.proofs.lines_where.Goals as goal

pub loop-i-init : goal.loop-i-init
loop-i-init g c = told-none (λ i b. F-post g c.args.passes i b)

pub loop-i-preserved : goal.loop-i-preserved
loop-i-preserved g c = elim c.if-passes.branch [
  | then-passes w ↦ rw w.set-is (told-in (λ i b. F-post g c.args.passes i b) _ _ (omega (arith, c.requires.0, c.loop-i-test.true)) w.if-passes.ensures c.loop-i.invariant)
  | else-passes w ↦ rw w.set-is (told-out (λ i b. F-post g c.args.passes i b) _ _ w.if-passes.ensures c.loop-i.invariant)
]
