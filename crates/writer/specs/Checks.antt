-- A form number by number, in the sheet's order: what each has to be below, what is answered where it is not, and which answer comes first. Definitions only.
-- The writer's reply does not rest on these: it is what the reader's definition says of the bytes (alc's specs/Writing.antt), and `reads-form` proves that this
-- is the same.
use Rattle.std.specs.Prelude.{ℕ, zero, suc, ◌+◌, true, false, cond, List, [], ◌∷◌, ◌++◌, length, ltb, leb}
use Rattle.alc.specs.Sheet.{most_lines, name_count, role_count, most_individuals}
use Rattle.alc.specs.Sheet as theory
use Rattle.alc.specs.Bytes.{Read, refused, taken}
use Rattle.alc.specs.Writing.{groups}
use Rattle.sheet.specs.declared.Kind.{Kind}
use Rattle.sheet.specs.declared.Kind.TheVariants.{Lines, Rules, Classes, Roles}
use Rattle.sheet.specs.declared.Section.{Section}
use Rattle.sheet.specs.declared.Sheet.{Sheet}
use Rattle.sheet.specs.declared.Entry.{Entry as Triple}
use Rattle.sheet.specs.Form.{triples, sheet_of}
use Rattle.reader.specs.Parts.{most_of}

-- a number, what it has to be below, and the answer where it is not
pub record Check : Type 0 where
  pub value : ℕ
  pub below : ℕ
  pub why : ℕ

abbrev pub check : ℕ → ℕ → ℕ → Check
check v n w = record { value = v; below = n; why = w }

-- the operands a, b of a line of each kind, whose own number is `own`
abbrev pub operand_checks : ℕ → ℕ → ℕ → ℕ → List Check
operand_checks own zero a b = []
operand_checks own (suc zero) a b = []
operand_checks own (suc (suc zero)) a b = check a name_count 4 ∷ []
operand_checks own (suc (suc (suc zero))) a b = check a own 5 ∷ []
operand_checks own (suc (suc (suc (suc zero)))) a b = check a own 5 ∷ check b own 5 ∷ []
operand_checks own (suc (suc (suc (suc (suc zero))))) a b = check a own 5 ∷ check b own 5 ∷ []
operand_checks own (suc (suc (suc (suc (suc (suc zero)))))) a b = check a role_count 4 ∷ check b own 5 ∷ []
operand_checks own (suc (suc (suc (suc (suc (suc (suc zero))))))) a b = check a role_count 4 ∷ check b own 5 ∷ []
operand_checks own (suc (suc (suc (suc (suc (suc (suc (suc k)))))))) a b = []

-- entry `own` of a section, on a sheet of n lines and k individuals
abbrev pub entry_checks : Kind → ℕ → ℕ → ℕ → Triple → List Check
entry_checks Lines n k own t = check t.first 8 4 ∷ operand_checks own t.first t.second t.third
entry_checks Rules n k own t = check t.first n 5 ∷ check t.second n 5 ∷ []
entry_checks Classes n k own t = check t.first k 5 ∷ check t.second n 5 ∷ []
entry_checks Roles n k own t = check t.first role_count 4 ∷ check t.second k 5 ∷ check t.third k 5 ∷ []

-- of entries numbered from i on
abbrev pub entries_checks : (ℕ → Triple → List Check) → ℕ → List Triple → List Check
entries_checks f i [] = []
entries_checks f i (t ∷ ts) = f i t ++ entries_checks f (suc i) ts

-- a section, and what stands behind it
unfoldable pub section_checks : Kind → ℕ → ℕ → Section → List Check → List Check
section_checks kind n k s more =
    check s.count (suc (most_of kind)) 3 ∷ cond (leb s.count most_lines) (entries_checks (entry_checks kind n k) 0 (triples s) ++ more) []

unfoldable pub form_checks : Sheet → List Check
form_checks s =
    let n = s.lines.count in
    let k = s.individuals in
    section_checks Lines n k s.lines (section_checks Rules n k s.rules (
    check k (suc most_individuals) 3 ∷ section_checks Classes n k s.classes (section_checks Roles n k s.roles [])))

-- one number at place p, and what is said where it keeps its limit: "A form that breaks a limit (or needs a third byte) gets the number a reader would give"
abbrev pub judged : {A : Type 0} → ℕ → Check → Read A → Read A
judged p c r = elim (ltb c.value 16384) [
  | false ↦ refused 2 p
  | true ↦ elim (ltb c.value c.below) [ true ↦ r | false ↦ refused c.why p ]
]

-- "with the place that number would have had": the first number that breaks its limit answers; where none does, what is said of the place behind them
abbrev pub first_fault : {A : Type 0} → ℕ → List Check → (ℕ → Read A) → Read A
first_fault p [] f = f p
first_fault p (c ∷ cs) f = let r = first_fault (p + length (groups c.value)) cs f in judged p c r

-- the verdict on a form: its first fault, or the sheet that it says
unfoldable pub form_verdict : Sheet → Read theory.Sheet
form_verdict s = first_fault 0 (form_checks s) (λ p. taken (sheet_of s) p)
