-- What the reader promises. Definitions only; proofs/Theorems.antt has the proof that `ReadPromise` settles the answer.
use Rattle.std.specs.Prelude.{ℕ, ◌≡◌, List, length, Result, Ok, Err, IfOk, IsOkAnd}
use Rattle.alc.specs.Sheet as theory
use Rattle.alc.specs.Bytes.{Read, refused, taken, read_sheet}
use Rattle.alc.specs.Promises.{LaidOut, FaultsOf}
use Rattle.sheet.specs.declared.Refusal.{Refusal}
use Rattle.sheet.specs.declared.Sheet.{Sheet}
use Rattle.sheet.specs.Form.{reason_number, sheet_of, form_of}

-- what an answer says of a reading of all the bytes
abbrev pub readout_read : List ℕ → Result Sheet Refusal → Read theory.Sheet
readout_read bs (Ok s) = taken (sheet_of s) (length bs)
readout_read bs (Err r) = refused (reason_number r.why) r.at

pub record ReadPromise (bs : List ℕ) (r : Result Sheet Refusal) : Type 0 where
  -- number and place of a refusal, or all that the sheet says
  pub exact : readout_read bs r ≡ read_sheet bs
  -- what is not used in the form is zero
  pub tidy : IfOk r (λ f. f ≡ form_of (sheet_of f))
  -- the faults 1 to 6, in alc's words
  pub faults : FaultsOf bs (λ n p. readout_read bs r ≡ refused n p)
  -- the bytes of a sheet are accepted, and as that sheet
  pub accepted : (s : theory.Sheet) → LaidOut s bs → IsOkAnd r (λ f. sheet_of f ≡ s)
