-- The invariant: from here on the line has as many of these bytes as the whole of it from the start has left.
use Rattle.std.proofs.Common.{◌≡◌, ◌+◌, ◌≤◌, length, drop}
use Rattle.lines.specs.Words.{run}
use Rattle.lines.proofs.words.end_of.Given as goal

abbrev pub invariant-loop-i : goal.invariant-loop-i
invariant-loop-i l = (l.i ≤ length l.line) × (l.i + run l.blanks (drop l.i l.line) ≡ l.from + run l.blanks (drop l.from l.line))
