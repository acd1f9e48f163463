-- The group of each line below i stands.
use Rattle.std.specs.Prelude.{◌≡◌, length}
use Rattle.plan.specs.Prepared.{IsGroup}
use Rattle.plan.proofs.Told.{Filled}
use Rattle.plan.proofs.groups.Given as goal

abbrev pub invariant-loop-i : goal.invariant-loop-i
invariant-loop-i l = (length l.groups ≡ 32) × Filled (IsGroup l.lines) l.i l.groups
