-- An entry of the form, which is one of 32.
use Rattle.std.proofs.Common.{sym, ◌∙◌, arith}
use Rattle.plan.proofs.Lines.{class-is, classes-fit}
use Rattle.plan.proofs.Plan.class_assertion.Goals as goal

pub offset_bounds-self-c : goal.offset_bounds-self-c
offset_bounds-self-c c = omega (arith, c.requires, classes-fit c.args.self.now)

pub bounds-self-c : goal.bounds-self-c
bounds-self-c c = omega (arith, c.requires, classes-fit c.args.self.now)

pub returns : goal.returns
returns c = c.from.ensures ∙ sym (class-is c.args.self.now.sheet c.args.c c.requires)
