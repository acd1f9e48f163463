-- The invariant: this is where word k starts.
use Rattle.std.proofs.Common.{◌≡◌, ◌≤◌, length}
use Rattle.lines.specs.Words.{start_of}
use Rattle.lines.proofs.words.start_of.Given as goal

abbrev pub invariant-loop-k : goal.invariant-loop-k
invariant-loop-k l = (l.at ≡ start_of l.line l._k) × (l.at ≤ length l.line)
