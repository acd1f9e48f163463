-- Answers: document 01's number and value of each, the whole reply, and what each way to an answer leaves in the model or list buffer. Definitions only.
use Rattle.std.specs.Prelude.{ℕ, ◌-◌, ◌≤◌, ◌<◌, ◌≡◌, List, ◌++◌, length, drop, replicate}
use Rattle.alc.specs.Model as theory
use Rattle.alc.specs.Replies.{Reply}
use Rattle.sheet.specs.Form.{reason_number}
use Rattle.answers.specs.declared.Answer.{Answer}
use Rattle.answers.specs.declared.Answer.TheVariants.{Refused, Model, LongModel, Unsatisfiable, OutOfSpace, Causes, LongList}

abbrev pub answer_number : Answer → ℕ
answer_number (Refused r) = reason_number r.why
answer_number (Model n) = 10
answer_number (LongModel n) = 11
answer_number Unsatisfiable = 12
answer_number OutOfSpace = 13
answer_number (Causes n) = 14
answer_number (LongList n) = 15

abbrev pub answer_value : Answer → ℕ
answer_value (Refused r) = r.at
answer_value (Model n) = n
answer_value (LongModel n) = n
answer_value Unsatisfiable = 0
answer_value OutOfSpace = 0
answer_value (Causes n) = n
answer_value (LongList n) = n

-- the answer, and what the buffers end as
abbrev pub reply_of : Answer → List ℕ → List ℕ → List ℕ → Reply
reply_of a recs marks out = record { number = answer_number a; carries = answer_value a; records = recs; marks = marks; out = out }

-- ---- what each way to an answer leaves in its buffer
-- the words are put where they fit, and else their length is told and the buffer stays
pub record Put (ws before : List ℕ) (r : Answer) (after : List ℕ) : Type 0 where
  pub fits : length ws ≤ length before → (r ≡ Model (length ws)) × (after ≡ ws ++ drop (length ws) before)
  pub long : length before < length ws → (r ≡ LongModel (length ws)) × (after ≡ before)

-- the answer for a sheet that was read
pub record Decided (a : theory.Finding) (before : List ℕ) (r : Answer) (after : List ℕ) : Type 0 where
  pub ten : a.number ≡ 10 → Put a.out before r after
  pub twelve : a.number ≡ 12 → (r ≡ Unsatisfiable) × (after ≡ before)
  pub thirteen : a.number ≡ 13 → (r ≡ OutOfSpace) × (after ≡ before)

-- the answer to a query that is on the sheet, over a list buffer of so many slots
pub record Queried (a : theory.Finding) (slots : ℕ) (r : Answer) (after : List ℕ) : Type 0 where
  pub fits : a.number ≡ 14 → length a.out ≤ slots → (r ≡ Causes (length a.out)) × (after ≡ a.out ++ replicate (slots - length a.out) 0)
  pub long : a.number ≡ 14 → slots < length a.out → (r ≡ LongList (length a.out)) × (after ≡ replicate slots 0)
  pub thirteen : a.number ≡ 13 → (r ≡ OutOfSpace) × (after ≡ replicate slots 0)
