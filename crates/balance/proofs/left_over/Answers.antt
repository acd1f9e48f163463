-- A difference of two numbers below 2^63 is exact in 64 bits.
use native.Mathlib.Omega.{arith}
use Rattle.balance.proofs.Exact.{sub-fits, sub-exact}
use Rattle.balance.proofs.left_over.Goals as goal

pub overflow_sub-result : goal.overflow_sub-result
overflow_sub-result c = sub-fits c.args.room c.args.bound (omega arith) (omega arith)

pub returns : goal.returns
returns c = sub-exact c.args.room c.args.bound (omega arith) (omega arith)
