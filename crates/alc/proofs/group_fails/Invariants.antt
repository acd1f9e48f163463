-- The groups of the lines that hold: the members that are left have one failing exactly if all have, as long as none was found.
use Rattle.std.specs.Prelude.{◌≡◌, get_or}
use Rattle.alc.specs.Bits.{meets, members}
use Rattle.alc.specs.Lists.{any}
use Rattle.alc.proofs.group_fails.Given as goal

abbrev pub invariant-loop-i : goal.invariant-loop-i
invariant-loop-i l =
    any (λ i. meets l.failing (get_or l.groups i 0)) (members 32 l.i-iterator.left) ≡ any (λ i. meets l.failing (get_or l.groups i 0)) (members 32 l.sharing)
