-- An entry of the form, which is one of 32.
use Rattle.std.proofs.Common.{sym, ◌∙◌, arith}
use Rattle.plan.proofs.Lines.{role-is, roles-fit}
use Rattle.plan.proofs.Plan.role_assertion.Goals as goal

pub offset_bounds-self-e : goal.offset_bounds-self-e
offset_bounds-self-e c = omega (arith, c.requires, roles-fit c.args.self.now)

pub bounds-self-e : goal.bounds-self-e
bounds-self-e c = omega (arith, c.requires, roles-fit c.args.self.now)

pub returns : goal.returns
returns c = c.from.ensures ∙ sym (role-is c.args.self.now.sheet c.args.e c.requires)
