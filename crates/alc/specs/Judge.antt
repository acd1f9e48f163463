-- The verdict on a sheet: where the work on the individuals begins, the first settled joint label whose seeds are all satisfiable, the records needed.
-- Document 01, "Labels and the order of the rules", to its end. Definitions only.
use Rattle.std.specs.Prelude.{ℕ, max, true, ◌≡◌, List, [], ◌∷◌, ◌++◌, map, replicate}
use Rattle.alc.specs.Lists.{◌∈◌, all, each, first, up_to_first, Maybe}
use Rattle.alc.specs.Sheet.{ClassAssertion, Sheet}
use Rattle.alc.specs.Meaning.{Interpretation, meets}
use Rattle.alc.specs.Label.{Mark, holds, Label, blank, mark_true}
use Rattle.alc.specs.Settle.{Joint, mark_at, settle}
use Rattle.alc.specs.Seeds.{Ask, asks, seeds, expansions, SeedSatisfiable, include_all, reach, successors, bound, fine}

-- ---- where the work begins
-- a mark at an individual
pub record Entry : Type 0 where
  pub individual : ℕ
  pub mark : Mark

abbrev pub enter : List Entry → Joint → Joint
enter [] J = J
enter (x ∷ xs) J = enter xs (mark_at J x.individual (x.mark ∷ []))

-- the class assertions, and what is asked besides "first after the sheet's class assertions"
abbrev pub entries : Sheet → List Entry → List Entry
entries s xs = map (λ (c : ClassAssertion). record { individual = c.individual; mark = holds c.class }) s.classes ++ xs

-- "With no individuals, one unnamed element with an empty label stands in"
unfoldable pub start : Sheet → List Entry → Joint
start s xs = enter (entries s xs) (replicate (max 1 s.individuals) blank)

-- the settled joint labels, in order
unfoldable pub settled_joints : Sheet → List Entry → List Joint
settled_joints s xs = settle s s.roles (start s xs)

-- "the first whose seeds are all satisfiable"
unfoldable pub first_fine : Sheet → List Entry → Maybe Joint
first_fine s xs = first (all (fine s)) (settled_joints s xs)

-- ---- the records needed
-- the settled joint labels "up to and including the first whose seeds are all satisfiable (all of them if there is none)"
abbrev pub considered : Sheet → List Entry → List Joint
considered s xs = up_to_first (all (fine s)) (settled_joints s xs)

-- "Records needed: the distinct seeds reached from" these, "and onward from every settled expansion of every seed reached"
unfoldable pub records_needed : Sheet → List Entry → List Label
records_needed s xs = reach (successors s) (bound s) 0 (include_all [] (each (each (seeds s)) (considered s xs)))

-- ---- the same in words that do not compute, for the theorems
-- all seeds of a joint label are satisfiable
abbrev pub AllSatisfiable : Sheet → Joint → Type 0
AllSatisfiable s J = (k : Label) → k ∈ J → (q : Ask) → q ∈ asks s k → SeedSatisfiable s q.seed

-- a seed is reached from the joint labels Js, or onward from a settled expansion of a seed that is reached
pub data Reached (s : Sheet) (Js : List Joint) : Label → Type 0 where
  at_once : {l : Label} (J : Joint) → J ∈ Js → (k : Label) → k ∈ J → (q : Ask) → q ∈ asks s k → l ≡ q.seed → Reached s Js l
  later : {l : Label} (m : Label) → Reached s Js m → (k : Label) → k ∈ expansions s m → (q : Ask) → q ∈ asks s k → l ≡ q.seed → Reached s Js l

-- some finite interpretation meets the sheet, and the entries xs are true at their individuals
abbrev pub EntriesTrue : Sheet → Interpretation → List Entry → Type 0
EntriesTrue s I xs = (x : Entry) → x ∈ xs → mark_true s I x.mark (I.denotes x.individual) ≡ true

abbrev pub SatisfiableWith : Sheet → List Entry → Type 0
SatisfiableWith s xs = (I : Interpretation) × (meets s I ≡ true) × EntriesTrue s I xs
