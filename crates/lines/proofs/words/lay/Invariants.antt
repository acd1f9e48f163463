-- The invariant: what was said of the digits so far stands in the buffer (`Laying`).
use Rattle.lines.proofs.Spelled.{Laying}
use Rattle.lines.proofs.words.lay.Given as goal

abbrev pub invariant-loop-k : goal.invariant-loop-k
invariant-loop-k l = Laying l.word l.initial.to l.k l.to
