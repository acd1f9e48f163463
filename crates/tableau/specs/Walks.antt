-- What the walks over settled expansions find, as the code has it. Definitions only.
use Rattle.std.specs.Prelude.{ℕ, ◌≤◌, List, [], ◌∷◌, ◌++◌, map, length, nat_eq, slice_index}
use Rattle.std.specs.Prelude.{Option as Maybe, None as nothing, Some as just}
use Rattle.alc.specs.Lists.{Distinct, filter, up_to}
use Rattle.alc.specs.Sheet.{Sheet}
use Rattle.alc.specs.declared.Label.{Label}
use Rattle.alc.specs.Label.{add, join}
use Rattle.alc.specs.Seeds.{expansions}
use Rattle.steps.specs.declared.step.Choice.{Choice}
use Rattle.steps.specs.declared.step.Choice.TheVariants.{Every, Either}
use Rattle.tableau.specs.Records.{label_of, recorded}

-- the settled expansions by the choice: none is left to make, one label follows, or two do, the first branch first
abbrev pub expand_by : Sheet → Label → Maybe Choice → List Label
expand_by s l nothing = l ∷ []
expand_by s l (just (Every marks)) = expansions s (join l marks)
expand_by s l (just (Either m n)) = expansions s (add l m) ++ expansions s (add l n)

-- so many records are used, each once, and there is a mark for each
pub record Lent (used : ℕ) (recs marks : List ℕ) : Type 0 where
  pub enough : used ≤ length recs
  pub marked : used ≤ length marks
  pub distinct : Distinct (recorded used recs)

-- of the first `used` records, those whose mark is 0: they are not struck out
unfoldable pub standing : ℕ → List ℕ → List ℕ → List Label
standing used recs marks = map (λ i. label_of (slice_index recs i)) (filter (λ i. nat_eq (slice_index marks i) 0) (up_to used))
