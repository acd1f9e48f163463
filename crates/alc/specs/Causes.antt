-- The cause list: sets of rules by number, which of them force, and which are smallest.
-- Document 01, "The cause list" and answers 13 and 14; demand 3; document 02, request 02: the marks. Definitions only.
use Rattle.std.specs.Prelude.{ℕ, suc, ◌+◌, ◌%◌, ◌^◌, ◌<◌, Bool, true, false, not as flip, ◌&&◌, ◌||◌, cond, ◌≡◌, List, [], ◌∷◌, ◌++◌, map, length, get_or, ltb, eqb}
use Rattle.alc.specs.Bits.{bit}
use Rattle.alc.specs.Lists.{any, all, up_to, filter, Maybe, nothing, just}
use Rattle.alc.specs.Sheet.{Rule, Sheet}
use Rattle.alc.specs.Meaning.{Forces}
use Rattle.alc.specs.Label.{fails}
use Rattle.alc.specs.Settle.{Joint}
use Rattle.alc.specs.Judge.{Entry, first_fine, records_needed}
use Rattle.alc.specs.Model.{Finding}

-- ---- sets of rules: "rule n worth 2^n"
-- of the rules from number i on, those whose bits are set in n, in the sheet's order
abbrev pub keep_rules : ℕ → ℕ → List Rule → List Rule
keep_rules n i [] = []
keep_rules n i (r ∷ rs) = cond (bit n i) (r ∷ []) [] ++ keep_rules n (suc i) rs

abbrev pub with_rules : Sheet → ℕ → Sheet
with_rules s n = record { lines = s.lines; rules = keep_rules n 0 s.rules; individuals = s.individuals; classes = s.classes; roles = s.roles }

abbrev pub rule_sets : Sheet → List ℕ
rule_sets s = up_to (2 ^ length s.rules)

-- every rule below t that is in m is in n
abbrev pub within : ℕ → ℕ → ℕ → Bool
within t m n = all (λ i. flip (bit m i) || bit n i) (up_to t)

-- ---- the same in words that do not compute: what demand 3 asks for
-- no proper subset of n forces; n itself may or may not
abbrev pub NoSubsetForces : Sheet → ℕ → ℕ → ℕ → Type 0
NoSubsetForces s port class n =
    (m : ℕ) → m < 2 ^ length s.rules → within (length s.rules) m n ≡ true → (m ≡ n → ⊥) → Forces (with_rules s m) port class → ⊥

-- a smallest set of rules that forces the port into the class
pub record Cause (s : Sheet) (port class n : ℕ) : Type 0 where
  pub is_set : n < 2 ^ length s.rules
  pub forced : Forces (with_rules s n) port class
  pub least : NoSubsetForces s port class n

-- ---- by computation: "Each set of rules is judged with class fails added at the port"
abbrev pub denial : ℕ → ℕ → List Entry
denial port class = record { individual = port; mark = fails class } ∷ []

abbrev pub is_nothing : Maybe Joint → Bool
is_nothing nothing = true
is_nothing (just J) = false

unfoldable pub forces : Sheet → ℕ → ℕ → Bool
forces s port class = is_nothing (first_fine s (denial port class))

-- the sets that force, by number
abbrev pub forcing : Sheet → ℕ → ℕ → List Bool
forcing s port class = map (λ n. forces (with_rules s n) port class) (rule_sets s)

unfoldable pub no_subset_forces : Sheet → List Bool → ℕ → Bool
no_subset_forces s flags n = all (λ m. flip (within (length s.rules) m n && flip (eqb m n) && get_or flags m false)) (rule_sets s)

-- the smallest forcing sets, "ascending"
unfoldable pub listed : Sheet → ℕ → ℕ → List ℕ
listed s port class = let flags = forcing s port class in filter (λ n. no_subset_forces s flags n && get_or flags n false) (rule_sets s)

-- ---- "each listed set is marked as catching (some finite interpretation meets it and the assertions) or as contradictory (none does)"
unfoldable pub contradictory : Sheet → Bool
contradictory s = is_nothing (first_fine s [])

-- "The mark is the slot's top bit, set for contradictory"
abbrev pub top_bit : ℕ
top_bit = 32768

unfoldable pub slot_of : Sheet → ℕ → ℕ
slot_of s n = cond (contradictory (with_rules s n)) (n + top_bit) n

-- the set of rules in a slot
abbrev pub rules_of : ℕ → ℕ
rules_of x = x % top_bit

-- "order stays by rule number, the mark ignored"
unfoldable pub slots : Sheet → ℕ → ℕ → List ℕ
slots s port class = map (slot_of s) (listed s port class)

-- the set n, judged from the entries xs, needs more records than lent
abbrev pub needs_more : Sheet → ℕ → ℕ → List Entry → Bool
needs_more s room n xs = ltb room (length (records_needed (with_rules s n) xs))

-- "some set, none of whose proper subsets forces, needs more records than lent"; "13 is now also given when judging a listed set without class fails
-- needs more records than lent"
unfoldable pub lacks_room : Sheet → ℕ → ℕ → ℕ → List Bool → ℕ → Bool
lacks_room s port class room flags n = no_subset_forces s flags n && (needs_more s room n (denial port class) || get_or flags n false && needs_more s room n [])

unfoldable pub causes_answer : Sheet → ℕ → ℕ → ℕ → Finding
causes_answer s port class room =
    let flags = forcing s port class in
    elim (any (lacks_room s port class room flags) (rule_sets s)) [
      | true ↦ record { number = 13; out = [] }
      | false ↦ record { number = 14; out = slots s port class }
    ]
