-- What each part of the reader says: entries and sections, by the numbers of their entries. Only this crate's own contracts speak of these, and writer's specs/Checks.antt of `most_of`. Definitions only.
use Rattle.std.specs.Prelude.{ℕ, suc, true, false, ◌≡◌, List, length, cond, eqb, ltb, Result, Ok, Err}
use Rattle.alc.specs.declared.Line.{Line}
use Rattle.alc.specs.declared.Rule.{Rule}
use Rattle.alc.specs.Sheet as theory
use Rattle.alc.specs.Sheet.{name_count, role_count, most_lines, most_rules, most_individuals, most_classes, most_roles}
use Rattle.alc.specs.Bytes.{Read, refused, taken, then, below_at, line_at, rule_at, class_at, role_at, counted_at}
use Rattle.sheet.specs.declared.Kind.{Kind}
use Rattle.sheet.specs.declared.Kind.TheVariants.{Lines, Rules, Classes, Roles}
use Rattle.sheet.specs.declared.Reason.{Reason}
use Rattle.sheet.specs.declared.Reason.TheVariants.{TooLarge, NotThere}
use Rattle.sheet.specs.declared.Refusal.{Refusal}
use Rattle.sheet.specs.declared.Section.{Section}
use Rattle.sheet.specs.declared.Entry.{Entry as Triple}
use Rattle.sheet.specs.Form.{triple, reason_number, reading_of, line_triple, rule_triple, class_triple, role_triple}

module _ {A B : Type 0} where
  -- the same reading, with f of its value
  abbrev pub reading : (A → B) → Read A → Read B
  reading f r = then r (λ a p. taken (f a) p)

-- ---- entries
-- what the first operand of a kind is below, and why it is refused
abbrev pub first_operand : ℕ → ℕ → ℕ × Reason
first_operand k own = cond (eqb k 2) (name_count, TooLarge) (cond (ltb 5 k) (role_count, TooLarge) (own, NotThere))

-- two numbers, below m and below n
unfoldable pub pair_at : List ℕ → ℕ → ℕ → ℕ → Read Triple
pair_at bs m n p = then (below_at bs m 5 p) (λ a q. then (below_at bs n 5 q) (λ b t. taken (triple a b 0) t))

-- what reads an entry at a place, with its own number, gives what `one` says of it
abbrev pub EntriesBy : (ℕ → ℕ → Result (Triple × ℕ) Refusal → Type 0) → (ℕ → ℕ → Read Triple) → Type 0
EntriesBy gives one = (p i : ℕ) (r : Result (Triple × ℕ) Refusal) → gives p i r → reading_of r ≡ one i p

-- ---- sections
-- how many entries a section may have
abbrev pub most_of : Kind → ℕ
most_of Lines = most_lines
most_of Rules = most_rules
most_of Classes = most_classes
most_of Roles = most_roles

-- entry i of a section, on a sheet of n lines and k individuals
abbrev pub entry_at : Kind → List ℕ → ℕ → ℕ → ℕ → ℕ → Read Triple
entry_at Lines bs n k i p = reading line_triple (line_at bs i p)
entry_at Rules bs n k i p = reading rule_triple (rule_at bs n i p)
entry_at Classes bs n k i p = reading class_triple (class_at bs n k i p)
entry_at Roles bs n k i p = reading role_triple (role_at bs k i p)

-- what a section that was filled, and the place behind it or the refusal, say of a reading
abbrev pub filled : Result ℕ Refusal → Section → Read Section
filled (Ok p) s = taken s p
filled (Err r) s = refused (reason_number r.why) r.at

unfoldable pub section_at : Kind → List ℕ → ℕ → ℕ → ℕ → Read (List Triple)
section_at kind bs n k p = counted_at bs (most_of kind) (entry_at kind bs n k) p

-- ---- the whole sheet
-- the sheet after its lines and rules
unfoldable pub facts_at : List ℕ → List Line → List Rule → ℕ → Read theory.Sheet
facts_at bs ls rs q =
    then (below_at bs (suc most_individuals) 3 q) (λ k t.
    then (counted_at bs most_classes (class_at bs (length ls) k) t) (λ cs u.
    then (counted_at bs most_roles (role_at bs k) u) (λ es v.
    elim (ltb v (length bs)) [ true ↦ refused 6 v | false ↦ taken (record { lines = ls; rules = rs; individuals = k; classes = cs; roles = es }) v ])))
