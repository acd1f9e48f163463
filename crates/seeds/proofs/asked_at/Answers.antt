-- What one line asks for: it is one of 32 lines, and so is the line that it names.
use Rattle.std.proofs.Common.{sym, arith}
use Rattle.plan.specs.Plan.{plan_sheet}
use Rattle.plan.proofs.Lines.{lines_fit, some-inside, only-inside}
use Rattle.seeds.proofs.asked_at.Goals as goal

pub has-requires : goal.has-requires
has-requires c = omega (arith, c.requires, lines_fit c.args.plan.now)

pub ask_for-requires : goal.ask_for-requires
ask_for-requires c =
    let p = c.args.plan.now in
    omega (arith, c.requires, lines_fit p, some-inside (plan_sheet p) p.prepared.well c.args.i c.requires (sym c.in-Some.ensures))

pub has-requires-in-Only-1 : goal.has-requires-in-Only-1
has-requires-in-Only-1 c = omega (arith, c.requires, lines_fit c.args.plan.now)

pub ask_for-requires-in-Only : goal.ask_for-requires-in-Only
ask_for-requires-in-Only c =
    let p = c.args.plan.now in
    omega (arith, c.requires, lines_fit p, only-inside (plan_sheet p) p.prepared.well c.args.i c.requires (sym c.in-Only.ensures))
