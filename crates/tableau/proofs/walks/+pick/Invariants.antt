-- The marks still unset fall at every call.
use Rattle.alc.proofs.Theorems.Steps.{unset_in}
use Rattle.tableau.proofs.walks.+pick.Given as goal

abbrev pub decreases-pick : goal.decreases-pick
decreases-pick l = unset_in 32 l.l
