-- The line's bytes so far fit its buffer.
use Rattle.std.proofs.Common.{◌≤◌, length}
use Rattle.lines.proofs.input.Lines.next_line.Given as goal

abbrev pub invariant-loop : goal.invariant-loop
invariant-loop g l = l.n ≤ length l.line
