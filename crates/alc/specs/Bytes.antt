-- Bytes to sheet: the layout, and the faults 1 to 6 with their places. "7 is tested first, then the sheet from front to back (the first fault answers)".
-- Document 01, "How a sheet is laid out" and the table of "What the desk replies". Definitions only, over lists of any numbers.
use Rattle.std.specs.Prelude.{ℕ, zero, suc, ◌+◌, ◌-◌, ◌*◌, true, false, ◌||◌, List, [], ◌∷◌, ◌++◌, length, get_or, ltb, eqb}
use Rattle.alc.specs.Lists.{each}
use Rattle.alc.specs.Sheet.{Line, top, bottom, name, negation, and, or, some, only, Rule, ClassAssertion, RoleAssertion, Sheet, count, most_lines, name_count}
use Rattle.alc.specs.Sheet.{role_count, most_rules, most_individuals, most_classes, most_roles, ◌⊑◌}

-- what reading gives: a refusal with its number and place, or a value and the place behind it
pub data Read (A : Type 0) : Type 0 where
  refused : ℕ → ℕ → Read A
  taken : A → ℕ → Read A

module _ {A B : Type 0} where
  -- "the first fault answers"
  abbrev pub then : Read A → (A → ℕ → Read B) → Read B
  then (refused n p) f = refused n p
  then (taken a q) f = f a q

-- "A number has one or two bytes; a second byte with its high bit set, or equal to 0, is badly formed": 2 at the number's first byte.
-- 1, "sheet ends inside or before a number": at its first byte, or at the sheet's length if it has none
unfoldable pub number_at : List ℕ → ℕ → Read ℕ
number_at bs p =
    elim (ltb p (length bs)) [
      | false ↦ refused 1 (length bs)
      | true ↦ elim (ltb (get_or bs p 0) 128) [
        | true ↦ taken (get_or bs p 0) (suc p)
        | false ↦ elim (ltb (suc p) (length bs)) [
          | false ↦ refused 1 p
          | true ↦ elim (eqb (get_or bs (suc p) 0) 0 || ltb 127 (get_or bs (suc p) 0)) [
            | true ↦ refused 2 p
            | false ↦ taken (get_or bs p 0 - 128 + 128 * get_or bs (suc p) 0) (suc (suc p))
          ]
        ]
      ]
    ]

-- a number below n; any other is refused with `why` at its first byte
unfoldable pub below_at : List ℕ → ℕ → ℕ → ℕ → Read ℕ
below_at bs n why p = then (number_at bs p) (λ v q. elim (ltb v n) [ true ↦ taken v q | false ↦ refused why p ])

-- the operands of a line of each kind, where `own` is the line's own number: "kind, name or role too large" is 4,
-- "a line or individual that may not be named there" is 5. `line_at` lets no kind above 7 come here
unfoldable pub operands_at : List ℕ → ℕ → ℕ → ℕ → Read Line
operands_at bs own zero p = taken top p
operands_at bs own (suc zero) p = taken bottom p
operands_at bs own (suc (suc zero)) p = then (below_at bs name_count 4 p) (λ a q. taken (name a) q)
operands_at bs own (suc (suc (suc zero))) p = then (below_at bs own 5 p) (λ i q. taken (negation i) q)
operands_at bs own (suc (suc (suc (suc zero)))) p = then (below_at bs own 5 p) (λ i q. then (below_at bs own 5 q) (λ j t. taken (and i j) t))
operands_at bs own (suc (suc (suc (suc (suc zero))))) p = then (below_at bs own 5 p) (λ i q. then (below_at bs own 5 q) (λ j t. taken (or i j) t))
operands_at bs own (suc (suc (suc (suc (suc (suc zero)))))) p = then (below_at bs role_count 4 p) (λ r q. then (below_at bs own 5 q) (λ i t. taken (some r i) t))
operands_at bs own (suc (suc (suc (suc (suc (suc (suc k))))))) p = then (below_at bs role_count 4 p) (λ r q. then (below_at bs own 5 q) (λ i t. taken (only r i) t))

-- "Each: its kind, then operands"
unfoldable pub line_at : List ℕ → ℕ → ℕ → Read Line
line_at bs own p = then (below_at bs 8 4 p) (λ k q. operands_at bs own k q)

-- a rule over n lines; i, its number, does not matter
unfoldable pub rule_at : List ℕ → ℕ → ℕ → ℕ → Read Rule
rule_at bs n i p = then (below_at bs n 5 p) (λ c q. then (below_at bs n 5 q) (λ d t. taken (c ⊑ d) t))

-- a class assertion over n lines and k individuals
unfoldable pub class_at : List ℕ → ℕ → ℕ → ℕ → ℕ → Read ClassAssertion
class_at bs n k i p = then (below_at bs k 5 p) (λ a q. then (below_at bs n 5 q) (λ c t. taken (record { individual = a; class = c }) t))

-- a role assertion over k individuals
unfoldable pub role_at : List ℕ → ℕ → ℕ → ℕ → Read RoleAssertion
role_at bs k i p =
    then (below_at bs role_count 4 p) (λ r q.
    then (below_at bs k 5 q) (λ a t.
    then (below_at bs k 5 t) (λ b u. taken (record { role = r; source = a; target = b }) u)))

module _ {A : Type 0} where
  -- k of them, the first with number i
  abbrev pub several_at : (ℕ → ℕ → Read A) → ℕ → ℕ → ℕ → Read (List A)
  several_at one i zero p = taken [] p
  several_at one i (suc k) p = then (one i p) (λ a q. then (several_at one (suc i) k q) (λ l t. taken (a ∷ l) t))

  -- a count of at most n ("a count over its limit" is 3), and that many
  abbrev pub counted_at : List ℕ → ℕ → (ℕ → ℕ → Read A) → ℕ → Read (List A)
  counted_at bs n one p = then (below_at bs (suc n) 3 p) (λ k q. several_at one 0 k q)

-- the five sections, in order
unfoldable pub sections_at : List ℕ → Read Sheet
sections_at bs =
    then (counted_at bs most_lines (line_at bs) 0) (λ ls p.
    then (counted_at bs most_rules (rule_at bs (length ls)) p) (λ rs q.
    then (below_at bs (suc most_individuals) 3 q) (λ k t.
    then (counted_at bs most_classes (class_at bs (length ls) k) t) (λ cs u.
    then (counted_at bs most_roles (role_at bs k) u) (λ es v.
    taken (record { lines = ls; rules = rs; individuals = k; classes = cs; roles = es }) v)))))

-- the whole sheet; "bytes left over" is 6 at "the first spare byte"
unfoldable pub read_sheet : List ℕ → Read Sheet
read_sheet bs = then (sections_at bs) (λ s p. elim (ltb p (length bs)) [ true ↦ refused 6 p | false ↦ taken s p ])

-- ---- the other way: the bytes of a sheet
abbrev pub line_bytes : Line → List ℕ
line_bytes top = 0 ∷ []
line_bytes bottom = 1 ∷ []
line_bytes (name a) = 2 ∷ a ∷ []
line_bytes (negation i) = 3 ∷ i ∷ []
line_bytes (and i j) = 4 ∷ i ∷ j ∷ []
line_bytes (or i j) = 5 ∷ i ∷ j ∷ []
line_bytes (some r i) = 6 ∷ r ∷ i ∷ []
line_bytes (only r i) = 7 ∷ r ∷ i ∷ []

abbrev pub rule_bytes : Rule → List ℕ
rule_bytes r = r.sub ∷ r.sup ∷ []

abbrev pub class_bytes : ClassAssertion → List ℕ
class_bytes c = c.individual ∷ c.class ∷ []

abbrev pub role_bytes : RoleAssertion → List ℕ
role_bytes e = e.role ∷ e.source ∷ e.target ∷ []

-- an accepted sheet has one-byte numbers only, so each count and entry is its own byte
unfoldable pub bytes_of : Sheet → List ℕ
bytes_of s =
    (count s ∷ each line_bytes s.lines)
    ++ (length s.rules ∷ each rule_bytes s.rules)
    ++ (s.individuals ∷ length s.classes ∷ each class_bytes s.classes)
    ++ (length s.roles ∷ each role_bytes s.roles)
