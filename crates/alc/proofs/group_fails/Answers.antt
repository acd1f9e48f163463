-- The groups of the lines that hold: each member is a line, so that it has a group.
use Rattle.std.proofs.Common.{arith}
use Rattle.alc.proofs.Theorems.Members.{member-below}
use Rattle.alc.proofs.group_fails.Goals as goal

pub offset_bounds-groups-i : goal.offset_bounds-groups-i
offset_bounds-groups-i c = omega (arith, member-below _ c.in-Some.ensures.steps)

pub bounds-groups-i : goal.bounds-groups-i
bounds-groups-i c = member-below _ c.in-Some.ensures.steps
