-- The entries of a section, by the loop's laws.
use Rattle.std.proofs.Common.{refl, arith, rules, tests}
use Rattle.reader.proofs.Loop.{begin, ended, fault, turn}
use Rattle.reader.proofs.sections.read_entries.Goals as goal

pub loop-own-init : goal.loop-own-init
loop-own-init g c = (refl, λ one by. begin _ _ _ c.requires.empty)

pub returns-in_err-read : goal.returns-in_err-read
returns-in_err-read g c =
    λ one by. let h = fault _ _ _ (c.loop-own.invariant.1 one by) c.loop-own-test.true (by _ _ _ c.in_err-read.ensures) in search (rules, tests)

pub loop-own-preserved : goal.loop-own-preserved
loop-own-preserved g c = (
  c.loop-own.invariant.0,
  λ one by. rw c.from.ensures (turn _ _ _ (c.loop-own.invariant.1 one by) c.loop-own-test.true _ c.requires.few (by _ _ _ c.in_ok-read.ensures)),
)

pub returns : goal.returns
returns g c = λ one by. ended _ _ _ (c.loop-own.invariant.1 one by) c.loop-own.invariant.0 (omega arith)
