-- The invariant: the digits from here on, behind the number so far, say what the whole word says.
use Rattle.std.proofs.Common.{◌≡◌, Some, drop}
use Rattle.lines.specs.Words.{and_digits}
use Rattle.lines.proofs.words.value.Given as goal

abbrev pub invariant-loop-b : goal.invariant-loop-b
invariant-loop-b l = and_digits (drop l.b-index l.word) (Some l.n) ≡ and_digits l.word (Some 0)
