-- The marks still unset fall at every call.
use Rattle.alc.proofs.Theorems.Steps.{unset_all}
use Rattle.tableau.specs.Joints.{joint_of}
use Rattle.engine.proofs.judge.+judge.Given as goal

abbrev pub decreases-judge : goal.decreases-judge
decreases-judge l = unset_all 32 (joint_of l.j)
