-- Adding a mark: the machine's `|` with a shifted one is `put`, at the line that the mark names.
use borrow.Author.Rules.{rules}
use mathlib.Core.Path.{ap}
use native.Mathlib.Omega.{arith}
use Rattle.alc.specs.Label.{line_of}
use Rattle.alc.proofs.Theorems.Bits.{put_word}
use Rattle.alc.proofs.Label.add.Goals as goal

pub overflow_cast-result : goal.overflow_cast-result
overflow_cast-result c = let l = ap line_of c.in-Holds.is in search rules

pub overflow_shl-result : goal.overflow_shl-result
overflow_shl-result c = omega (arith, ap line_of c.in-Holds.is)

pub overflow_cast-result-in-Fails : goal.overflow_cast-result-in-Fails
overflow_cast-result-in-Fails c = let l = ap line_of c.in-Fails.is in search rules

pub overflow_shl-result-in-Fails : goal.overflow_shl-result-in-Fails
overflow_shl-result-in-Fails c = omega (arith, ap line_of c.in-Fails.is)

pub returns-in-Holds : goal.returns-in-Holds
returns-in-Holds c = rw (c.in-Holds.is, put_word 32 c.in-Holds.i c.args.self.holding (overflow_shl-result c))

pub returns-in-Fails : goal.returns-in-Fails
returns-in-Fails c = rw (c.in-Fails.is, put_word 32 c.in-Fails.i c.args.self.failing (overflow_shl-result-in-Fails c))
