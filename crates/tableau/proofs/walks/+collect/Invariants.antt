-- The marks still unset fall at every call.
use Rattle.alc.proofs.Theorems.Steps.{unset_in}
use Rattle.tableau.proofs.walks.+collect.Given as goal

abbrev pub decreases-collect : goal.decreases-collect
decreases-collect l = unset_in 32 l.l
