-- Writing a sheet: the bytes of its numbers, the writer's whole reply, and what it promises. Document 02, request 01.
-- No limit stands here: what the reader's definition says of the bytes is what the writer answers. Definitions only.
use Rattle.std.specs.Prelude.{ℕ, zero, suc, ◌+◌, ◌/◌, ◌%◌, ◌≤◌, ◌<◌, Bool, true, false, ◌≡◌, ◌↔◌, ◌⊎◌, List, [], ◌∷◌, ◌++◌, length, take, drop, ltb, leb}
use Rattle.alc.specs.Lists.{each}
use Rattle.alc.specs.Sheet.{Sheet}
use Rattle.alc.specs.Bytes.{Read, refused, taken, read_sheet, bytes_of}

-- "Numbers in groups of seven bits, low group first, the high bit set when another group follows": as many as a number needs, of at most so many
abbrev pub groups_within : ℕ → ℕ → List ℕ
groups_within zero n = []
groups_within (suc f) n = let rest = groups_within f (n / 128) in elim (ltb n 128) [ true ↦ n ∷ [] | false ↦ (n % 128 + 128) ∷ rest ]

-- a number needs no more groups than itself and one
unfoldable pub groups : ℕ → List ℕ
groups n = groups_within (suc n) n

-- the bytes of numbers in the sheet's order
unfoldable pub bytes_for : List ℕ → List ℕ
bytes_for ns = each groups ns

-- number, what it carries, and what the buffer holds in the end
pub record Wrote : Type 0 where
  pub number : ℕ
  pub carries : ℕ
  pub out : List ℕ

module _ (buf : List ℕ) where
  -- "Success is 0 with the length; bytes behind it stay"; "a short buffer gets a new answer 16 with the length wanted"
  abbrev pub put_if : Bool → List ℕ → Wrote
  put_if true bs = record { number = 0; carries = length bs; out = bs ++ drop (length bs) buf }
  put_if false bs = record { number = 16; carries = length bs; out = buf }

  abbrev pub put_bytes : List ℕ → Wrote
  put_bytes bs = put_if (leb (length bs) (length buf)) bs

  -- "gets the number a reader would give, with the place that number would have had"; "Limits come before length"
  abbrev pub write_read : List ℕ → Read Sheet → Wrote
  write_read bs (refused n p) = record { number = n; carries = p; out = buf }
  write_read bs (taken s p) = put_bytes bs

-- the numbers of a sheet, the buffer
unfoldable pub write_reply : List ℕ → List ℕ → Wrote
write_reply ns buf = write_read buf (bytes_for ns) (read_sheet (bytes_for ns))

-- ---- what the writer promises
-- the reader takes what these numbers spell
abbrev pub Accepted : List ℕ → Type 0
Accepted ns = (s : Sheet) × (p : ℕ) × (read_sheet (bytes_for ns) ≡ taken s p)

pub record WritePromise (ns buf : List ℕ) (o : Wrote) : Type 0 where
  -- all of it, for every input: so two builds cannot disagree
  pub exact : o ≡ write_reply ns buf
  -- 1 to 6 as a reader would, with the place
  pub faults : (n p : ℕ) → 0 < n → n < 7 → ((o.number ≡ n) × (o.carries ≡ p)) ↔ (read_sheet (bytes_for ns) ≡ refused n p)
  pub success : (o.number ≡ 0) ↔ (Accepted ns × (length (bytes_for ns) ≤ length buf))
  pub sixteen : (o.number ≡ 16) ↔ (Accepted ns × (length buf < length (bytes_for ns)))
  pub one_of : (o.number ≡ 0) ⊎ ((o.number < 7) ⊎ (o.number ≡ 16))
  -- the length: of what was written, or wanted
  pub told : (o.number ≡ 0) ⊎ (o.number ≡ 16) → o.carries ≡ length (bytes_for ns)
  -- "Both leave it untouched"
  pub alone : (o.number ≡ 0 → ⊥) → o.out ≡ buf
  -- "Reading what it wrote gives the same counts, lines, rules and assertions back"; nothing else in the buffer changes
  pub read_back : o.number ≡ 0 → (s : Sheet) × (bytes_of s ≡ ns) × (read_sheet (take o.carries o.out) ≡ taken s o.carries)
  pub behind : o.number ≡ 0 → (drop o.carries o.out ≡ drop o.carries buf) × (length o.out ≡ length buf)
