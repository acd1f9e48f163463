-- `close::close`: what is left to reach is the whole.
use Rattle.std.proofs.lemmas.Result.{err_from_is_err_and}
use Rattle.engine.proofs.Strikes.{closed, close-on, close-full}
use Rattle.engine.proofs.close.close.Goals as goal

pub returns-in_err-used : goal.returns-in_err-used
returns-in_err-used c =
    let p = err_from_is_err_and c.from_residual.result c.from_residual.ensures.1 in
    rw (p.1, p.2) (close-full c.loop-i.invariant c.loop-i-test.true (rw c.label_of.ensures at c.in_err-used.ensures))

pub loop-i-preserved : goal.loop-i-preserved
loop-i-preserved c = close-on c.loop-i.invariant c.loop-i-test.true (rw c.label_of.ensures at c.in_ok-used.ensures)

pub returns : goal.returns
returns c = closed c.loop-i.invariant c.loop-i-test.false
