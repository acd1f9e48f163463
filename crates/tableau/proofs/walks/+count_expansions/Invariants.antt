-- The marks still unset fall at every call.
use Rattle.alc.proofs.Theorems.Steps.{unset_in}
use Rattle.tableau.proofs.walks.+count_expansions.Given as goal

abbrev pub decreases-count_expansions : goal.decreases-count_expansions
decreases-count_expansions l = unset_in 32 l.l
