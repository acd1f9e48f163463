-- The numbers in front of n are laid.
use Rattle.std.proofs.Common.{◌≡◌, ◌+◌, ◌*◌, ◌≤◌, ◌++◌, take}
use Rattle.alc.specs.Writing.{bytes_for}
use Rattle.writer.proofs.laid.Laid.extend.Given as goal

abbrev pub invariant-loop-n : goal.invariant-loop-n
invariant-loop-n l =
    (take l.at l.self-inside.bytes ≡ take l.initial.at l.initial.self-inside.bytes ++ bytes_for (take l.n-index l.numbers)) × (l.at ≤ l.initial.at + 3 * l.n-index)
