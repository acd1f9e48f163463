-- The bound e·2^(e-1), which fits 64 bits for e up to 32.
use native.Mathlib.Omega.{arith}
use borrow.Author.Rules.{rules}
use Rattle.balance.proofs.Counting.{worst-le, as_code}
use Rattle.balance.proofs.worst_of.Goals as goal

pub returns-then-e-eq0 : goal.returns-then-e-eq0
returns-then-e-eq0 c = rw c.if-e-eq0.true (search rules)

pub overflow_mul-result : goal.overflow_mul-result
overflow_mul-result c = record { fits = omega (arith, as_code c.args.e c.requires, worst-le c.args.e c.requires) }

pub returns : goal.returns
returns c =
    let code = as_code c.args.e c.requires in
    (code, omega (arith, worst-le c.args.e c.requires))
