-- A joint label as the code has it, and its next step. Definitions only.
use Rattle.std.specs.Prelude.{◌≡◌, ℕ, max, true, false, List, [], ◌∷◌, ◌++◌, length, take, slice_set}
use Rattle.std.specs.Prelude.{Option as Maybe, None as nothing, Some as just}
use Rattle.alc.specs.Lists.{first}
use Rattle.alc.specs.Sheet.{Sheet}
use Rattle.alc.specs.Label.{blank, add, add_all, join, Demand, every, either}
use Rattle.alc.specs.Settle as theory
use Rattle.alc.specs.Settle.{Move, who, wanted, adds, moves, closes, label, settle}
use Rattle.steps.specs.declared.step.Choice.{Choice}
use Rattle.steps.specs.declared.step.Choice.TheVariants.{Every, Either}
use Rattle.tableau.specs.declared.labels.Labels.{Labels}
use Rattle.tableau.specs.declared.joint.JointStep.{JointStep}
use Rattle.tableau.specs.declared.joint.JointStep.TheVariants.{Clashed, Settled, Onward, Split}

abbrev pub joint_of : Labels → theory.Joint
joint_of j = take j.count j.labels

-- a label for each individual, or for the unnamed element
pub record Fit (s : Sheet) (j : Labels) : Type 0 where
  pub each-one : j.count ≡ max 1 s.individuals

-- what individual a chooses, as a step
abbrev pub own_step : ℕ → Choice → JointStep
own_step a (Every marks) = Onward a marks
own_step a (Either m n) = Split a m n

abbrev pub met_by : ℕ → Demand → JointStep
met_by a (every ms) = Onward a (add_all blank ms)
met_by a (either m n) = Split a m n

abbrev pub step_of : Sheet → theory.Joint → Maybe Move → JointStep
step_of s J nothing = Settled
step_of s J (just m) = met_by (who m) (wanted s J m)

unfoldable pub next_of : Sheet → theory.Joint → JointStep
next_of s J = elim (closes s J) [ true ↦ Clashed | false ↦ step_of s J (first (adds s J) (moves s s.roles (length J))) ]

-- the settled joint labels by the next step
abbrev pub settle_by : Sheet → theory.Joint → JointStep → List theory.Joint
settle_by s J Clashed = []
settle_by s J Settled = J ∷ []
settle_by s J (Onward a marks) = settle s s.roles (slice_set J a (join (label J a) marks))
settle_by s J (Split a m n) = settle s s.roles (slice_set J a (add (label J a) m)) ++ settle s s.roles (slice_set J a (add (label J a) n))
