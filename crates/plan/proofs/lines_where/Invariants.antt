-- The lines that pass: those below i are told, and no other is in.
use Rattle.plan.proofs.Told.{Told}
use Rattle.plan.proofs.lines_where.Given as goal

abbrev pub invariant-loop-i : goal.invariant-loop-i
invariant-loop-i g l = Told (λ i b. goal.F-post g l.passes i b) l.i l.set
