-- The whole replies of the public functions, over the bytes and buffers lent: number, what it carries, and what each buffer ends as.
-- Document 01, "What the desk replies". Definitions only.
use Rattle.std.specs.Prelude.{ℕ, suc, ◌-◌, true, false, ◌&&◌, ◌||◌, List, [], ◌++◌, length, replicate, ltb, leb, eqb, ℤ, pos, ◌-ℤ◌}
use Rattle.alc.specs.Sheet.{Sheet, count}
use Rattle.alc.specs.Bytes.{Read, refused, taken, read_sheet}
use Rattle.alc.specs.Seeds.{bound}
use Rattle.alc.specs.Model.{Finding, satisfy_answer}
use Rattle.alc.specs.Causes.{causes_answer}

pub record Reply : Type 0 where
  pub number : ℕ
  pub carries : ℕ
  -- what the buffers hold in the end; `out` is the model or the list
  pub records : List ℕ
  pub marks : List ℕ
  pub out : List ℕ

abbrev pub most_records : ℕ
most_records = 4096

module _ (rs ms os : List ℕ) where
  -- "Under 1 to 8 no buffer is touched"
  abbrev pub untouched : ℕ → ℕ → Reply
  untouched n v = record { number = n; carries = v; records = rs; marks = ms; out = os }

  -- "Under the rest all records and all mark bytes lent end as zero; the model or list buffer holds the result and zeros behind it, or zeros alone"
  abbrev pub cleared : ℕ → ℕ → List ℕ → Reply
  cleared n v ws = record {
    number = n;
    carries = v;
    records = replicate (length rs) 0;
    marks = replicate (length ms) 0;
    out = ws ++ replicate (length os - length ws) 0;
  }

  -- the number n where the result fits its buffer (10, 14), and the next number where it is longer (11, 15); both carry its length. 12 and 13 carry 0
  abbrev pub finished : ℕ → Finding → Reply
  finished n r =
      elim (eqb r.number n) [
        | false ↦ cleared r.number 0 []
        | true ↦ elim (leb (length r.out) (length os)) [ true ↦ cleared n (length r.out) r.out | false ↦ cleared (suc n) (length r.out) [] ]
      ]

  -- "over 4,096 records lent, or fewer mark bytes than records": "7 is tested first"
  abbrev pub checked : Reply → Reply
  checked o = elim (ltb most_records (length rs) || ltb (length ms) (length rs)) [ true ↦ untouched 7 0 | false ↦ o ]

  -- "then the sheet from front to back"
  abbrev pub satisfy_read : Read Sheet → Reply
  satisfy_read (refused n p) = untouched n p
  satisfy_read (taken s p) = finished 10 (satisfy_answer s (length rs))

  -- "then 8": "port or class of a query not on the sheet"
  abbrev pub causes_read : ℕ → ℕ → Read Sheet → Reply
  causes_read port class (refused n p) = untouched n p
  causes_read port class (taken s p) =
      elim (ltb port s.individuals && ltb class (count s)) [ true ↦ finished 14 (causes_answer s port class (length rs)) | false ↦ untouched 8 0 ]

-- sheet, records, marks, model
unfoldable pub satisfy_reply : List ℕ → List ℕ → List ℕ → List ℕ → Reply
satisfy_reply bs rs ms os = checked rs ms os (satisfy_read rs ms os (read_sheet bs))

-- sheet, port, class, records, marks, list
unfoldable pub causes_reply : List ℕ → ℕ → ℕ → List ℕ → List ℕ → List ℕ → Reply
causes_reply bs port class rs ms os = checked rs ms os (causes_read rs ms os port class (read_sheet bs))

-- ---- the balance: "a faulty sheet gets its number, a room over 4,096 gets 7, tested first"; "a balance below zero is an answer and no error"
pub data Balance : Type 0 where
  faulty : ℕ → ℕ → Balance
  left : ℤ → Balance

-- "room minus e·2^(e-1)"
abbrev pub balance_read : ℕ → Read Sheet → Balance
balance_read room (refused n p) = faulty n p
balance_read room (taken s p) = left (pos room -ℤ pos (bound s))

-- sheet, room
unfoldable pub balance_reply : List ℕ → ℕ → Balance
balance_reply bs room = elim (ltb most_records room) [ true ↦ faulty 7 0 | false ↦ balance_read room (read_sheet bs) ]
