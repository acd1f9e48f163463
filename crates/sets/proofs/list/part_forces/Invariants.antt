-- `list::part_forces`: the members that are left have one without which the set forces exactly if all have, and each is a member.
use Rattle.std.specs.Prelude.{◌≡◌, ◌-◌, ◌^◌, true, false, get_or}
use Rattle.alc.specs.Bits.{bit, members}
use Rattle.alc.specs.Lists.{any}
use Rattle.plan.proofs.Walking.{Each}
use Rattle.sets.proofs.list.part_forces.Given as goal

abbrev pub invariant-loop-i : goal.invariant-loop-i
invariant-loop-i l =
    (any (λ i. get_or l.flags (l.set - 2 ^ i) false) (members 32 l.i-iterator.left) ≡ any (λ i. get_or l.flags (l.set - 2 ^ i) false) (members 32 l.set))
    × Each (λ i. bit l.set i ≡ true) (members 32 l.i-iterator.left)
