-- The next member is the lowest, and what is left is the rest.
use Rattle.std.specs.Prelude.{refl}
use Rattle.std.proofs.Common.{arith, rules}
use Rattle.alc.proofs.Theorems.Members.{low-le, rest-members, members-none}
use Rattle.alc.proofs.walk.MembersIterator.next.Goals as goal

pub returns-then-self-eq0-clause-steps : goal.returns-then-self-eq0-clause-steps
returns-then-self-eq0-clause-steps c = rw (c.if-self-eq0.true, members-none 32) (refl, refl)

pub overflow_sub-self : goal.overflow_sub-self
overflow_sub-self c = low-le {left = c.args.self.now.left} (search rules) (omega arith)

pub returns-clause-steps : goal.returns-clause-steps
returns-clause-steps c = rest-members {left = c.args.self.now.left} (search rules) (omega arith)

pub returns-clause-goes : goal.returns-clause-goes
returns-clause-goes c = let turn = rest-members {left = c.args.self.now.left} (search rules) (omega arith) in search rules
