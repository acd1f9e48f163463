-- What records and marks say of a sheet: which seeds are recorded, which are struck out, and that both are right. Definitions only.
use Rattle.std.specs.Prelude.{ℕ, ◌≤◌, ◌<◌, Bool, true, false, ◌≡◌, ◌↔◌, List, length, get_or, set, eqb}
use Rattle.alc.specs.Lists.{◌∈◌, Distinct}
use Rattle.alc.specs.Sheet.{Sheet}
use Rattle.alc.specs.declared.Label.{Label}
use Rattle.alc.specs.Settle.{Joint}
use Rattle.alc.specs.Seeds.{good, seed_survives, universe}
use Rattle.alc.specs.Judge.{Reached}
use Rattle.tableau.specs.Records.{label_of, recorded}
use Rattle.tableau.specs.Walks.{Lent, standing}

-- labels that some line of the sheet can ask for, each once: so there are at most e·2^(e-1)
pub record Known (s : Sheet) (C : List Label) : Type 0 where
  pub distinct : Distinct C
  pub known : (l : Label) → l ∈ C → l ∈ universe s

-- ---- striking out
pub record Strike : Type 0 where
  pub marks : List ℕ
  pub changed : Bool

module _ (s : Sheet) (used : ℕ) (recs : List ℕ) where
  -- record i has a settled expansion all of whose seeds stand
  abbrev pub stands : List ℕ → ℕ → Bool
  stands marks i = good s (standing used recs marks) (label_of (get_or recs i 0))

  -- record i is struck out if it stands and has none
  abbrev pub strike_by : List ℕ → ℕ → Bool → Bool → Strike
  strike_by marks i true false = record { marks = set marks i 1; changed = true }
  strike_by marks i true true = record { marks = marks; changed = false }
  strike_by marks i false b = record { marks = marks; changed = false }

  unfoldable pub struck_at : List ℕ → ℕ → Strike
  struck_at marks i = strike_by marks i (eqb (get_or marks i 0) 0) (stands marks i)

-- m' comes from m by striking out records from `start` on that had no such expansion, one after the other
pub data Struck (s : Sheet) (used start : ℕ) (recs m : List ℕ) : List ℕ → Type 0 where
  none : Struck s used start recs m m
  one : {m' : List ℕ} (i : ℕ) → Struck s used start recs m m' → start ≤ i → i < used → get_or m' i 0 ≡ 0 → stands s used recs m' i ≡ false
      → Struck s used start recs m (set m' i 1)

-- nothing more is to be struck out
abbrev pub Stable : Sheet → ℕ → ℕ → List ℕ → List ℕ → Type 0
Stable s used start recs m = (i : ℕ) → start ≤ i → i < used → get_or m i 0 ≡ 0 → stands s used recs m i ≡ true

-- one pass: where nothing was struck out, nothing is to be; where something was, fewer stand
pub record Pass (s : Sheet) (used start : ℕ) (recs m m' : List ℕ) (changed : Bool) : Type 0 where
  pub struck : Struck s used start recs m m'
  pub quiet : changed ≡ false → (m' ≡ m) × Stable s used start recs m
  pub fewer : changed ≡ true → length (standing used recs m') < length (standing used recs m)

-- ---- the ledger: the records are the seeds reached from the joint labels Js, each once, and those that stand are the satisfiable ones
pub record Ledger (s : Sheet) (Js : List Joint) (used : ℕ) (recs marks : List ℕ) : Type 0 where
  pub lent : Lent used recs marks
  pub reached : (l : Label) → (l ∈ recorded used recs) ↔ Reached s Js l
  pub right : (i : ℕ) → i < used → (get_or marks i 0 ≡ 0) ↔ (seed_survives s (label_of (get_or recs i 0)) ≡ true)
