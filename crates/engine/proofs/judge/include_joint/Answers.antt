-- `judge::include_joint`: what is left to include is the whole.
use Rattle.std.proofs.lemmas.Result.{err_from_is_err_and}
use Rattle.engine.proofs.Strikes.{gather-on, gather-full}
use Rattle.engine.proofs.judge.include_joint.Goals as goal

pub returns-in_err-used : goal.returns-in_err-used
returns-in_err-used c =
    let p = err_from_is_err_and c.from_residual.result c.from_residual.ensures.1 in rw (p.1, p.2) (gather-full c.loop-l.invariant c.loop-l-test.true c.in_err-used.ensures)

pub loop-l-preserved : goal.loop-l-preserved
loop-l-preserved c = gather-on c.loop-l.invariant c.loop-l-test.true c.in_ok-used.ensures
