-- Records and marks that are right, by themselves: what the model's writer starts from. Definitions only.
use Rattle.std.specs.Prelude.{ℕ, ◌<◌, true, ◌≡◌, ◌↔◌, List, length, get_or}
use Rattle.alc.specs.Lists.{◌∈◌}
use Rattle.alc.specs.Sheet.{Sheet}
use Rattle.alc.specs.declared.Label.{Label}
use Rattle.alc.specs.Settle.{Joint}
use Rattle.alc.specs.declared.Ask.{Ask}
use Rattle.alc.specs.Seeds.{asks, expansions, seed_survives}
use Rattle.alc.specs.Model.{chosen}
use Rattle.tableau.specs.Records.{label_of, recorded}
use Rattle.tableau.specs.Walks.{Lent, standing}
use Rattle.engine.specs.Ledger.{Known}
use Rattle.edges.specs.Keys.{SeedsIn}

-- the records are closed, each once, and those that stand are the satisfiable ones
pub record Sound (s : Sheet) (used : ℕ) (recs marks : List ℕ) : Type 0 where
  pub lent : Lent used recs marks
  pub known : Known s (recorded used recs)
  pub closed : (l : Label) → l ∈ recorded used recs → (k : Label) → k ∈ expansions s l → (q : Ask) → q ∈ asks s k → q.seed ∈ recorded used recs
  pub right : (i : ℕ) → i < used → (get_or marks i 0 ≡ 0) ↔ (seed_survives s (label_of (get_or recs i 0)) ≡ true)

-- all seeds of a joint label are recorded
abbrev pub AllSeedsIn : Sheet → Joint → List Label → Type 0
AllSeedsIn s J C = (k : Label) → k ∈ J → SeedsIn s k C

-- the same records with the same marks, in another order
pub record Shuffled (used : ℕ) (recs marks recs' marks' : List ℕ) : Type 0 where
  pub size : length recs' ≡ length recs
  pub marked : length marks' ≡ length marks
  pub lent : Lent used recs' marks'
  pub recorded-same : (l : Label) → (l ∈ recorded used recs') ↔ (l ∈ recorded used recs)
  pub standing-same : (l : Label) → (l ∈ standing used recs' marks') ↔ (l ∈ standing used recs marks)

-- the seeds B hold all that the elements of the model ask for
pub record Complete (s : Sheet) (J : Joint) (B : List Label) : Type 0 where
  pub asked : AllSeedsIn s J B
  pub onward : (l : Label) → l ∈ B → SeedsIn s (chosen s l) B
