-- Settling labels: which step is next, and the settled labels that a start leads to, first branch first.
-- One label for each individual, worked jointly along the role assertions `es`. A seed is one label worked alone, along none.
-- Document 01, "Labels and the order of the rules". Definitions only.
use Rattle.std.specs.Prelude.{ℕ, zero, suc, ◌*◌, Bool, true, false, not as flip, List, [], ◌∷◌, map, ◌++◌, length, get_or, set}
use Rattle.alc.specs.Lists.{any, first, Maybe, nothing, just, up_to, each}
use Rattle.alc.specs.Sheet.{Rule, RoleAssertion, Sheet, count}
use Rattle.alc.specs.Label.{Mark, holds, fails, Label, blank, has, add_all, Demand, every, either, demand, met, clashes, pushed}

-- a joint label: a label for each individual
abbrev pub Joint : Type 0
Joint = List Label

abbrev pub label : Joint → ℕ → Label
label J a = get_or J a blank

-- J with the marks ms added at a
abbrev pub mark_at : Joint → ℕ → List Mark → Joint
mark_at J a ms = set J a (add_all (label J a) ms)

-- ---- the places to look at, in order
pub data Move : Type 0 where
  -- the mark m of individual a
  own : ℕ → Mark → Move
  -- a rule at individual a
  rule : ℕ → Rule → Move
  -- "pushes to b all that a's only r lines that hold and some r lines that fail demand"
  push : RoleAssertion → Move

-- "lines in ascending order, holds before fails, then rules in order"
abbrev pub moves_of : Sheet → ℕ → List Move
moves_of s a = each (λ i. own a (holds i) ∷ own a (fails i) ∷ []) (up_to (count s)) ++ map (rule a) s.rules

-- "take the lowest individual with a step of its own; when none has, the first role assertion in sheet order"
unfoldable pub moves : Sheet → List RoleAssertion → ℕ → List Move
moves s es k = each (moves_of s) (up_to k) ++ map push es

abbrev pub who : Move → ℕ
who (own a m) = a
who (rule a r) = a
who (push e) = e.target

-- "rule c ⊑ d: split, c fails or d holds"
abbrev pub wanted : Sheet → Joint → Move → Demand
wanted s J (own a m) = elim (has (label J a) m) [ true ↦ demand s m | false ↦ every [] ]
wanted s J (rule a r) = either (fails r.sub) (holds r.sup)
wanted s J (push e) = every (pushed s e.role (label J e.source))

abbrev pub adds : Sheet → Joint → Move → Bool
adds s J m = flip (met (label J (who m)) (wanted s J m))

-- ---- one step: a clash ends the branch; nothing applies; one joint label follows; or two, the first branch first
pub data Next : Type 0 where
  clashed : Next
  settled : Next
  onward : Joint → Next
  split : Joint → Joint → Next

abbrev pub meet : Joint → ℕ → Demand → Next
meet J a (every ms) = onward (mark_at J a ms)
meet J a (either m n) = split (mark_at J a (m ∷ [])) (mark_at J a (n ∷ []))

abbrev pub step : Sheet → Joint → Maybe Move → Next
step s J nothing = settled
step s J (just m) = meet J (who m) (wanted s J m)

-- "A clash at one individual ends the whole branch"
abbrev pub closes : Sheet → Joint → Bool
closes s J = any (clashes s) J

-- "Test for a clash at the start and after each"; "Take the first that adds anything"
unfoldable pub next : Sheet → List RoleAssertion → Joint → Next
next s es J = elim (closes s J) [ true ↦ clashed | false ↦ step s J (first (adds s J) (moves s es (length J))) ]

-- ---- the settled joint labels: "Splits are followed first branch first"
abbrev pub follow : (Joint → List Joint) → Joint → Next → List Joint
follow f J clashed = []
follow f J settled = J ∷ []
follow f J (onward K) = f K
follow f J (split K L) = f K ++ f L

-- within so many steps
abbrev pub settle_within : Sheet → List RoleAssertion → ℕ → Joint → List Joint
settle_within s es zero J = []
settle_within s es (suc f) J = follow (settle_within s es f) J (next s es J)

-- each step adds a mark, and there are two for each line of each label (`settle-law` is the equation without steps)
unfoldable pub settle : Sheet → List RoleAssertion → Joint → List Joint
settle s es J = settle_within s es (suc (2 * count s * length J)) J
