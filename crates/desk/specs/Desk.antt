-- What a question to the desk begins with: what was lent is tested, then the sheet is read. Definitions only.
use Rattle.std.specs.Prelude.{ℕ, Bool, true, false, ◌||◌, List, length, ltb, Result, Ok, Err}
use Rattle.alc.specs.Sheet.{Sheet}
use Rattle.alc.specs.Bytes.{Read, refused, taken, read_sheet}
use Rattle.alc.specs.Replies.{most_records}
use Rattle.sheet.specs.declared.Refusal.{Refusal}
use Rattle.sheet.specs.Form.{reason_number}
use Rattle.plan.specs.declared.Plan.{Plan}
use Rattle.plan.specs.Plan.{plan_sheet}

abbrev pub lent_badly : ℕ → ℕ → Bool
lent_badly records marks = ltb most_records records || ltb marks records

-- "7 is tested first, then the sheet"
abbrev pub lent_read : List ℕ → ℕ → ℕ → Read Sheet
lent_read bs records marks = elim (lent_badly records marks) [ true ↦ refused 7 0 | false ↦ read_sheet bs ]

-- a plan of the sheet, or the refusal with its place
abbrev pub opened_read : List ℕ → Result Plan Refusal → Read Sheet
opened_read bs (Ok plan) = taken (plan_sheet plan) (length bs)
opened_read bs (Err r) = refused (reason_number r.why) r.at
