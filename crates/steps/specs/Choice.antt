-- What one label demands, in document 01's order, and the choice that the code makes of it. Definitions only.
use Rattle.std.specs.Prelude.{ℕ, Bool, true, false, not as flip, List, [], ◌∷◌, ◌++◌, map}
use Rattle.std.specs.Prelude.{Option as Maybe, None as nothing, Some as just}
use Rattle.alc.specs.Lists.{first, each, up_to}
use Rattle.alc.specs.declared.Rule.{Rule}
use Rattle.alc.specs.Sheet.{Sheet, count}
use Rattle.alc.specs.declared.Label.{Label}
use Rattle.alc.specs.declared.Mark.{Mark}
use Rattle.alc.specs.declared.Mark.TheVariants.{Holds as holds, Fails as fails}
use Rattle.alc.specs.Label.{blank, has, add_all, Demand, every, either, demand, met}
use Rattle.steps.specs.declared.step.Choice.{Choice}
use Rattle.steps.specs.declared.step.Choice.TheVariants.{Every, Either}

-- a mark that is there wants what its line demands, and one that is not there wants nothing
abbrev pub wanted_by : Sheet → Label → Mark → Demand
wanted_by s l m = elim (has l m) [ true ↦ demand s m | false ↦ every [] ]

-- of line i, holds before fails
abbrev pub demands_at : Sheet → Label → ℕ → List Demand
demands_at s l i = wanted_by s l (holds i) ∷ wanted_by s l (fails i) ∷ []

-- lines ascending
abbrev pub line_demands : Sheet → Label → List Demand
line_demands s l = each (demands_at s l) (up_to (count s))

-- then rules in order
abbrev pub rule_demand : Rule → Demand
rule_demand r = either (fails r.sub) (holds r.sup)

abbrev pub rule_demands : Sheet → List Demand
rule_demands s = map rule_demand s.rules

abbrev pub unmet : Label → Demand → Bool
unmet l d = flip (met l d)

-- a demand as the code has it: the marks of a list as a label; nothing is left to choose where there is none
abbrev pub choice_of : Maybe Demand → Maybe Choice
choice_of nothing = nothing
choice_of (just (every ms)) = just (Every (add_all blank ms))
choice_of (just (either m n)) = just (Either m n)

-- the first demand that is not met
unfoldable pub choice : Sheet → Label → Maybe Choice
choice s l = choice_of (first (unmet l) (line_demands s l ++ rule_demands s))
