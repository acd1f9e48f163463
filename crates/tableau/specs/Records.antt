-- Records: labels packed into words, which of them a buffer holds, and what it means that it has grown. Definitions only.
use Rattle.std.specs.Prelude.{ℕ, zero, suc, ◌+◌, ◌*◌, ◌/◌, ◌%◌, ◌<◌, ◌≤◌, ◌≡◌, true, false, List, map, length, take, ◌==◌, slice_index, Result, Ok, Err}
use Rattle.std.specs.Prelude.{Option as Maybe}
use Rattle.std.specs.List.{position}
use Rattle.alc.specs.declared.Label.{Label}
use Rattle.tableau.specs.declared.records.Full.{Full}

-- "A record is 64 bits: one set of signed lines"
abbrev pub word_of : Label → ℕ
word_of l = l.failing * 4294967296 + l.holding

abbrev pub label_of : ℕ → Label
label_of w = record { holding = w % 4294967296; failing = w / 4294967296 }

-- the labels that the first `used` words hold
abbrev pub recorded : ℕ → List ℕ → List Label
recorded used buf = map label_of (take used buf)

-- the first place below n that has the word, or n
abbrev pub place_from : List ℕ → ℕ → ℕ → ℕ → ℕ
place_from buf w i zero = i
place_from buf w i (suc k) = elim (slice_index buf i == w) [ true ↦ i | false ↦ place_from buf w (suc i) k ]

unfoldable pub found_at : List ℕ → ℕ → ℕ → ℕ
found_at buf used w = place_from buf w 0 used

-- the first place below n that has the word, if there is one: `found-is` says that it is found_at, where that is below n
abbrev pub found : List ℕ → ℕ → ℕ → Maybe ℕ
found buf used w = position (λ x. x == w) (take used buf)

-- the records of a buffer have become D: as many are used, or there are too many for the buffer
abbrev pub Holds : List Label → List ℕ → Result ℕ Full → Type 0
Holds D buf (Err e) = length buf < length D
Holds D buf (Ok n) = (n ≡ length D) × (n ≤ length buf) × (recorded n buf ≡ D)

pub record GrownTo (D : List Label) (before : List ℕ) (r : Result ℕ Full) (after : List ℕ) : Type 0 where
  pub size : length after ≡ length before
  pub holds : Holds D after r
