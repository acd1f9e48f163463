-- All that goes along a role: what is handed on so far, with what the lines that are left hand on.
use Rattle.alc.specs.Bits.{members}
use Rattle.plan.specs.Plan.{plan_sheet}
use Rattle.seeds.proofs.Handing.{Handing}
use Rattle.seeds.proofs.pushed_along.Given as goal

abbrev pub invariant-loop-i : goal.invariant-loop-i
invariant-loop-i l = Handing (plan_sheet l.plan) l.role l.l l.marks (members 32 l.i-iterator.left)
