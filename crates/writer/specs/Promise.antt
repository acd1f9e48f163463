-- What the writer promises of a form: its numbers are written, or the first that breaks its limit is told. Definitions only.
use Rattle.std.specs.Prelude.{ℕ, ◌<◌, ◌≡◌, ◌↔◌, List, take, Result, Ok, Err}
use Rattle.alc.specs.Bytes.{refused, taken, read_sheet}
use Rattle.alc.specs.Writing.{Wrote, WritePromise}
use Rattle.sheet.specs.declared.Sheet.{Sheet}
use Rattle.sheet.specs.Form.{reason_number, sheet_of, numbers_of}
use Rattle.writer.specs.Checks.{form_verdict}
use Rattle.writer.specs.declared.Unwritten.{Unwritten}
use Rattle.writer.specs.declared.Unwritten.TheVariants.{Long, Refused}

pub record FormPromise (f : Sheet) (buf : List ℕ) (o : Wrote) : Type 0 where
  -- the whole reply, by the form's numbers in the sheet's order
  pub written : WritePromise (numbers_of f) buf o
  -- refused exactly if some count or entry breaks a limit or needs a third byte, and the first such number in the sheet's order answers
  pub first-fault : (n p : ℕ) → 0 < n → n < 7 → ((o.number ≡ n) × (o.carries ≡ p)) ↔ (form_verdict f ≡ refused n p)
  -- "Reading what it wrote gives the same counts, lines, rules and assertions back"
  pub read_back : o.number ≡ 0 → read_sheet (take o.carries o.out) ≡ taken (sheet_of f) o.carries

-- ---- request 01's numbers: 0, 1 to 6, 16
abbrev pub written_number : Result ℕ Unwritten → ℕ
written_number (Ok n) = 0
written_number (Err (Long n)) = 16
written_number (Err (Refused r)) = reason_number r.why

abbrev pub written_value : Result ℕ Unwritten → ℕ
written_value (Ok n) = n
written_value (Err (Long n)) = n
written_value (Err (Refused r)) = r.at

-- an answer, with the buffer as it ends
abbrev pub wrote_of : Result ℕ Unwritten → List ℕ → Wrote
wrote_of r out = record { number = written_number r; carries = written_value r; out = out }
