-- What the balance's answer says. Definitions only.
use Rattle.std.specs.Prelude.{ℤ, Result, Ok, Err}
use Rattle.alc.specs.Replies.{Balance, faulty, left}
use Rattle.sheet.specs.declared.Refusal.{Refusal}
use Rattle.sheet.specs.Form.{reason_number}

abbrev pub margin_balance : Result ℤ Refusal → Balance
margin_balance (Ok z) = left z
margin_balance (Err r) = faulty (reason_number r.why) r.at
