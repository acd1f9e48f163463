-- What the code's values mean: a sheet as the code holds it and the sheet of alc's definitions, each from the other; and what an answer says of a reading.
-- Definitions only.
use Rattle.std.specs.Prelude.{ℕ, zero, suc, ◌-◌, cond, List, [], ◌∷◌, ◌++◌, map, length, get_or, take, replicate, leb, Result, Ok, Err}
use Rattle.alc.specs.Lists.{up_to, each}
use Rattle.alc.specs.declared.Line.{Line}
use Rattle.alc.specs.declared.Line.TheVariants.{Top as top, Bottom as bottom, Name as name, Not as negation, And as and, Or as or, Some as some, Only as only}
use Rattle.alc.specs.declared.Rule.{Rule}
use Rattle.alc.specs.declared.ClassAssertion.{ClassAssertion}
use Rattle.alc.specs.declared.RoleAssertion.{RoleAssertion}
use Rattle.alc.specs.Sheet.{most_lines}
use Rattle.alc.specs.Sheet as theory
use Rattle.alc.specs.Bytes.{Read, refused, taken}
use Rattle.sheet.specs.declared.Reason.{Reason}
use Rattle.sheet.specs.declared.Reason.TheVariants.{Cut, BadlyFormed, OverLimit, TooLarge, NotThere, LeftOver, LentBadly, OffSheet}
use Rattle.sheet.specs.declared.Kind.{Kind}
use Rattle.sheet.specs.declared.Kind.TheVariants.{Lines, Rules, Classes, Roles}
use Rattle.sheet.specs.declared.Refusal.{Refusal}
use Rattle.sheet.specs.declared.Section.{Section}
use Rattle.sheet.specs.declared.Sheet.{Sheet}
-- the numbers of an entry; those that it does not have are 0
pub use Rattle.sheet.specs.declared.Entry.{Entry as Triple}

-- document 01's numbers 1 to 8
abbrev pub reason_number : Reason → ℕ
reason_number Cut = 1
reason_number BadlyFormed = 2
reason_number OverLimit = 3
reason_number TooLarge = 4
reason_number NotThere = 5
reason_number LeftOver = 6
reason_number LentBadly = 7
reason_number OffSheet = 8

-- "Operands per kind, 0 to 7: 0, 0, 1, 1, 2, 2, 2, 2"; a kind above 7 is none, and has none
abbrev pub operand_count : ℕ → ℕ
operand_count zero = 0
operand_count (suc zero) = 0
operand_count (suc (suc zero)) = 1
operand_count (suc (suc (suc zero))) = 1
operand_count (suc (suc (suc (suc zero)))) = 2
operand_count (suc (suc (suc (suc (suc zero))))) = 2
operand_count (suc (suc (suc (suc (suc (suc zero)))))) = 2
operand_count (suc (suc (suc (suc (suc (suc (suc zero))))))) = 2
operand_count (suc (suc (suc (suc (suc (suc (suc (suc k)))))))) = 0

-- ---- entries and sections
abbrev pub triple : ℕ → ℕ → ℕ → Triple
triple a b c = record { first = a; second = b; third = c }

-- zeros behind the entries
unfoldable pub padded : List Triple → List Triple
padded ts = ts ++ replicate (most_lines - length ts) (triple 0 0 0)

unfoldable pub section_form : List Triple → Section
section_form ts = record { entries = padded ts; count = length ts }

-- entry i
abbrev pub entry_of : Section → ℕ → Triple
entry_of s i = get_or s.entries i (triple 0 0 0)

unfoldable pub triples : Section → List Triple
triples s = map (entry_of s) (up_to s.count)

-- ---- a line, a rule, an assertion from its numbers, and the other way
-- a kind of 7 or more is `only`, as in `operands_at`
abbrev pub line_from : ℕ → ℕ → ℕ → Line
line_from zero a b = top
line_from (suc zero) a b = bottom
line_from (suc (suc zero)) a b = name a
line_from (suc (suc (suc zero))) a b = negation a
line_from (suc (suc (suc (suc zero)))) a b = and a b
line_from (suc (suc (suc (suc (suc zero))))) a b = or a b
line_from (suc (suc (suc (suc (suc (suc zero)))))) a b = some a b
line_from (suc (suc (suc (suc (suc (suc (suc k))))))) a b = only a b

abbrev pub line_of : Triple → Line
line_of t = line_from t.first t.second t.third

abbrev pub line_triple : Line → Triple
line_triple top = triple 0 0 0
line_triple bottom = triple 1 0 0
line_triple (name a) = triple 2 a 0
line_triple (negation i) = triple 3 i 0
line_triple (and i j) = triple 4 i j
line_triple (or i j) = triple 5 i j
line_triple (some r i) = triple 6 r i
line_triple (only r i) = triple 7 r i

abbrev pub rule_of : Triple → Rule
rule_of t = record { sub = t.first; sup = t.second }

abbrev pub rule_triple : Rule → Triple
rule_triple r = triple r.sub r.sup 0

abbrev pub class_of : Triple → ClassAssertion
class_of t = record { individual = t.first; class = t.second }

abbrev pub class_triple : ClassAssertion → Triple
class_triple c = triple c.individual c.class 0

abbrev pub role_of : Triple → RoleAssertion
role_of t = record { role = t.first; source = t.second; target = t.third }

abbrev pub role_triple : RoleAssertion → Triple
role_triple e = triple e.role e.source e.target

-- ---- the numbers of a form, in the sheet's order
-- how many of its three numbers an entry has, by its first
abbrev pub entry_width : Kind → ℕ → ℕ
entry_width Lines k = suc (operand_count k)
entry_width Rules k = 2
entry_width Classes k = 2
entry_width Roles k = 3

abbrev pub entry_numbers : Kind → Triple → List ℕ
entry_numbers kind t = take (entry_width kind t.first) (t.first ∷ t.second ∷ t.third ∷ [])

-- the count, the entries, and more behind them; of a count above the most that a form holds there are no entries, and nothing stands behind it
unfoldable pub section_numbers : Kind → Section → List ℕ → List ℕ
section_numbers kind s more = s.count ∷ cond (leb s.count most_lines) (each (entry_numbers kind) (triples s) ++ more) []

unfoldable pub numbers_of : Sheet → List ℕ
numbers_of s =
    section_numbers Lines s.lines (section_numbers Rules s.rules (
    s.individuals ∷ section_numbers Classes s.classes (section_numbers Roles s.roles [])))

-- ---- the whole sheet
unfoldable pub sheet_of : Sheet → theory.Sheet
sheet_of s = record {
  lines = map line_of (triples s.lines);
  rules = map rule_of (triples s.rules);
  individuals = s.individuals;
  classes = map class_of (triples s.classes);
  roles = map role_of (triples s.roles);
}

unfoldable pub form_of : theory.Sheet → Sheet
form_of s = record {
  lines = section_form (map line_triple s.lines);
  rules = section_form (map rule_triple s.rules);
  individuals = s.individuals;
  classes = section_form (map class_triple s.classes);
  roles = section_form (map role_triple s.roles);
}

-- ---- readings
-- what a value with the place behind it, or the refusal, says of a reading
abbrev pub reading_of : {A : Type 0} → Result (A × ℕ) Refusal → Read A
reading_of (Ok v) = taken v.0 v.1
reading_of (Err r) = refused (reason_number r.why) r.at
