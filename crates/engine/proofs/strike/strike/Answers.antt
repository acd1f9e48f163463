-- `strike::strike`: pass after pass; each but the last leaves fewer records that stand.
use mathlib.Core.Bool.{true}
use mathlib.Core.Path.{refl}
use Rattle.alc.proofs.Theorems.Lists.{clashing}
use Rattle.engine.specs.Ledger.{none}
use Rattle.engine.proofs.Strikes.{struck-on, pass-stable}
use Rattle.engine.proofs.strike.strike.Goals as goal

pub loop-changed-init : goal.loop-changed-init
loop-changed-init c = (none, λ e. clashing true refl e)

pub loop-changed-preserved : goal.loop-changed-preserved
loop-changed-preserved c =
    (struck-on c.loop-changed.invariant.0 c.strike_pass-changed.ensures.struck, pass-stable c.strike_pass-changed.ensures)
