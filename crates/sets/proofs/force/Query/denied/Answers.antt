-- `force::Query::denied`: the class fails at the port, entered behind the class assertions.
use Rattle.std.proofs.Common.{arith}
use Rattle.plan.specs.Plan.{plan_sheet}
use Rattle.plan.proofs.Lines.{lines_fit}
use Rattle.sets.proofs.Forcing.{denied-begins}
use Rattle.sets.proofs.force.Query.denied.Goals as goal

pub add-requires : goal.add-requires
add-requires c = omega (arith, c.args.self.now.on_sheet.1, lines_fit c.args.self.now.plan.now)

pub returns : goal.returns
returns c =
    denied-begins (plan_sheet c.args.self.now.plan.now) c.args.self.now.port c.args.self.now.class _ c.with.result c.start_joint-begin.ensures _
    (rw (← c.label-l.ensures) c.add.ensures) c.with.ensures
