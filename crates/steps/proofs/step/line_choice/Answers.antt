-- What the mark of a line demands: a label that does not clash has one at most.
use Rattle.std.proofs.Common.{◌∙◌, sym, rules}
use Rattle.plan.specs.Plan.{plan_sheet}
use Rattle.steps.proofs.Demands.{line-fits, held-only}
use Rattle.steps.proofs.step.line_choice.Goals as goal

pub has-requires : goal.has-requires
has-requires c = line-fits c.args.plan.now c.args.i c.requires.i_bound

pub returns-then-has : goal.returns-then-has
returns-then-has c =
    let f = held-only (plan_sheet c.args.plan.now) c.args.l c.args.i c.requires.l_value c.requires.i_bound (sym c.has.ensures.1 ∙ c.if-has.true) in
    search rules

pub has-requires-2 : goal.has-requires-2
has-requires-2 c = line-fits c.args.plan.now c.args.i c.requires.i_bound
