-- What is prepared of a sheet, so that no step works it out again: which lines demand something of a label, which ask for seeds or hand on,
-- the operands of each line as a set, and the masks. Definitions only.
use Rattle.std.specs.Prelude.{ℕ, ◌<◌, Bool, true, false, ◌&&◌, ◌||◌, ◌≡◌, List, get_or, ltb}
use Rattle.alc.specs.Bits.{bit, put}
use Rattle.alc.specs.Lists.{filter, up_to}
use Rattle.alc.specs.declared.Line.{Line}
use Rattle.alc.specs.declared.Line.TheVariants.{Top as top, Bottom as bottom, Name as name, Not as negation, And as and, Or as or, Some as some, Only as only}
use Rattle.alc.specs.declared.Label.{Label}
use Rattle.alc.specs.declared.Mark.TheVariants.{Holds as holds, Fails as fails}
use Rattle.alc.specs.declared.Masks.{Masks}
use Rattle.alc.specs.Sheet.{Sheet, count, line, well_formed, in_limits}
use Rattle.alc.specs.Label.{has, same_name}
use Rattle.alc.specs.Masks.{MasksOf}
use Rattle.alc.specs.Seeds.{is_quantified}
use Rattle.sheet.specs.declared.Section.{Section}
use Rattle.sheet.specs.declared.Sheet.{Sheet as Form}
use Rattle.sheet.specs.Form.{entry_of, line_of, sheet_of}

-- the kinds whose marks demand something of the label: not, and, or
abbrev pub is_working : Line → Bool
is_working top = false
is_working bottom = false
is_working (name a) = false
is_working (negation i) = true
is_working (and i j) = true
is_working (or i j) = true
is_working (some r i) = false
is_working (only r i) = false

-- the set of the lines that such a line names
abbrev pub operand_set : Line → ℕ
operand_set top = 0
operand_set bottom = 0
operand_set (name a) = 0
operand_set (negation i) = put 0 i
operand_set (and i j) = put (put 0 i) j
operand_set (or i j) = put (put 0 i) j
operand_set (some r i) = 0
operand_set (only r i) = 0

-- t is the group of line i: the lines of its name
abbrev pub IsGroup : Section → ℕ → ℕ → Type 0
IsGroup lines i t = (j : ℕ) → bit t j ≡ (ltb j lines.count && same_name (line_of (entry_of lines i)) (line_of (entry_of lines j)))

-- the lines that have a mark in l and pass a test, ascending
unfoldable pub marked_lines : (Line → Bool) → Sheet → Label → List ℕ
marked_lines test s l = filter (λ i. (has l (holds i) || has l (fails i)) && test (line s i)) (up_to (count s))

-- the form is a sheet's, and this holds of it: of the set of working lines, of that of some and only lines, of the operands of each line as a set, of the masks
pub record Prepared (f : Form) (working_set asking_set : ℕ) (operand_sets : List ℕ) (m : Masks) : Type 0 where
  pub well : well_formed (sheet_of f) ≡ true
  pub limited : in_limits (sheet_of f) ≡ true
  pub working : (i : ℕ) → bit working_set i ≡ is_working (line (sheet_of f) i)
  pub asking : (i : ℕ) → bit asking_set i ≡ is_quantified (line (sheet_of f) i)
  pub operands : (i : ℕ) → i < count (sheet_of f) → get_or operand_sets i 0 ≡ operand_set (line (sheet_of f) i)
  pub masks : MasksOf (sheet_of f) m
