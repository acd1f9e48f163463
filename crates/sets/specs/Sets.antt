-- What the verdict on one set of rules is, what its flag says, and what the list becomes. Definitions only.
use Rattle.std.specs.Prelude.{ℕ, suc, ◌+◌, ◌<◌, Bool, true, false, ◌≡◌, List, [], ◌++◌, length, get_or, take, drop, ltb, Result, Ok, Err, IfOk}
use Rattle.std.specs.Prelude.{Option as Maybe, None as nothing, Some as just}
use Rattle.alc.specs.Sheet.{Sheet, count}
use Rattle.alc.specs.Judge.{Entry, first_fine, records_needed}
use Rattle.alc.specs.Causes.{with_rules, denial, is_nothing, forces, forcing, no_subset_forces, top_bit, slots, causes_answer}
use Rattle.tableau.specs.declared.records.Full.{Full}
use Rattle.sets.specs.declared.list.Cause.{Cause}
use Rattle.sets.specs.declared.list.Cause.TheVariants.{Catching, Contradictory}

-- port and class of a query are on the sheet
abbrev pub OnSheet : Sheet → ℕ → ℕ → Type 0
OnSheet s port class = (port < s.individuals) × (class < count s)

-- no room
abbrev pub full : Full
full = record {}

-- the verdict on one set of rules, where s has these rules alone: judged from the entries xs, no room to tell, or whether no settled joint label is fine
unfoldable pub judged_by : Sheet → List Entry → ℕ → Result Bool Full
judged_by s xs room = elim (ltb room (length (records_needed s xs))) [ true ↦ Err full | false ↦ Ok (is_nothing (first_fine s xs)) ]

-- "judged with class fails added at the port"
abbrev pub forced_by : Sheet → ℕ → ℕ → ℕ → Result Bool Full
forced_by s port class room = judged_by s (denial port class) room

-- "without class fails"
abbrev pub contradicted_by : Sheet → ℕ → Result Bool Full
contradicted_by s room = judged_by s [] room

-- the flags of the sets below n say which of them force
abbrev pub Flagged : Sheet → ℕ → ℕ → ℕ → List Bool → Type 0
Flagged s port class n flags = (m : ℕ) → m < n → get_or flags m false ≡ forces (with_rules s m) port class

-- ---- one set
-- which kind of cause, by whether it is contradictory
abbrev pub marked_by : Result Bool Full → Result Cause Full
marked_by (Err e) = Err e
marked_by (Ok true) = Ok Contradictory
marked_by (Ok false) = Ok Catching

abbrev pub as_cause : Result Cause Full → Result (Maybe Cause) Full
as_cause (Err e) = Err e
as_cause (Ok c) = Ok (just c)

abbrev pub taken_by : Result Bool Full → Result Bool Full → Result (Maybe Cause) Full
taken_by (Err e) c = Err e
taken_by (Ok true) c = as_cause (marked_by c)
taken_by (Ok false) c = Ok nothing

-- judged exactly if none of its proper subsets forces
unfoldable pub taken_of : Sheet → ℕ → ℕ → ℕ → ℕ → Result (Maybe Cause) Full
taken_of s port class room n = elim (no_subset_forces s (forcing s port class) n) [
  | true ↦ taken_by (forced_by (with_rules s n) port class room) (contradicted_by (with_rules s n) room)
  | false ↦ Ok nothing
]

pub record TakenTo (s : Sheet) (port class room n : ℕ) (r : Result (Maybe Cause) Full) (flags : List Bool) : Type 0 where
  pub is : r ≡ taken_of s port class room n
  pub flagged : IfOk r (λ c. Flagged s port class (suc n) flags)

-- ---- all of them
-- the slot of a cause
abbrev pub slot_by : Cause → ℕ → ℕ
slot_by Catching n = n
slot_by Contradictory n = n + top_bit

-- as much of xs as the buffer holds, and behind it what stood there
abbrev pub laid_over : List ℕ → List ℕ → List ℕ
laid_over xs before = take (length before) xs ++ drop (length xs) before

abbrev pub ListedTo : Sheet → ℕ → ℕ → ℕ → List ℕ → Result ℕ Full → List ℕ → Type 0
ListedTo s port class room before (Err e) after =
    (causes_answer s port class room ≡ record { number = 13; out = [] }) × (length after ≡ length before)
ListedTo s port class room before (Ok n) after =
    (causes_answer s port class room ≡ record { number = 14; out = slots s port class }) × (n ≡ length (slots s port class))
    × (after ≡ laid_over (slots s port class) before)
