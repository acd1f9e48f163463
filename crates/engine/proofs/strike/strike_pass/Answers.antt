-- `strike::strike_pass`: those from i on are looked at.
use Rattle.engine.proofs.Strikes.{striking, strike-on}
use Rattle.engine.proofs.strike.strike_pass.Goals as goal

pub loop-i-init : goal.loop-i-init
loop-i-init c = striking

pub loop-i-preserved : goal.loop-i-preserved
loop-i-preserved c = strike-on c.loop-i.invariant c.loop-i-test.true c.loop-i.auto.i c.requires.marked _ _ c.strike_at-changed.ensures
