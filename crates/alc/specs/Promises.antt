-- What the public functions promise: the whole reply (`exact`), and beside it the demands in words that do not compute the reply.
-- The demands of the customer, and document 01, "Pinning every answer down". Definitions only; proofs/Theorems/Promises.antt has the proofs.
--
-- What these words still rest on: `well_formed`, `in_limits` and `bytes_of` (which bytes are a sheet); `read_sheet`, which alone tells 3, 4 and 5 apart;
-- `meets`, `truth` and `Forces` (Meaning); `decoded` and `Shaped` (Model); `with_rules` and `within` (Causes); `bound` (Seeds); and for 13 `settled_joints`,
-- `expansions` and `asks`, document 01's steps in their order. Which of the models is written, `exact` alone says.
use Rattle.std.specs.Prelude.{ℕ, suc, ◌+◌, ◌*◌, ◌^◌, ◌≤◌, ◌<◌, true, ◌≡◌, ◌↔◌, ◌⊎◌, List, [], ◌∷◌, ◌++◌, map, length, get_or, take, drop, replicate, ℤ, pos, ◌+ℤ◌}
use Rattle.alc.specs.Lists.{◌∈◌, Ascending, Distinct}
use Rattle.alc.specs.Sheet.{Sheet, count, well_formed, in_limits}
use Rattle.alc.specs.Bytes.{refused, read_sheet, bytes_of}
use Rattle.alc.specs.Meaning.{SheetSatisfiable, Forces}
use Rattle.alc.specs.Label.{Label}
use Rattle.alc.specs.Settle.{Joint}
use Rattle.alc.specs.Seeds.{bound}
use Rattle.alc.specs.Judge.{Entry, settled_joints, AllSatisfiable, Reached}
use Rattle.alc.specs.Model.{TenMeans}
use Rattle.alc.specs.Causes.{with_rules, denial, Cause, NoSubsetForces, top_bit, rules_of}
use Rattle.alc.specs.Replies.{Reply, most_records, satisfy_reply, causes_reply, Balance, faulty, left, balance_reply}

-- ---- the bytes
-- these are the bytes of the sheet s, which is well-formed and within the limits
abbrev pub LaidOut : Sheet → List ℕ → Type 0
LaidOut s bs = (well_formed s ≡ true) × (in_limits s ≡ true) × (bs ≡ bytes_of s)

-- "sheet ends inside or before a number": at place p, or in the number that begins there
abbrev pub Ends : List ℕ → ℕ → Type 0
Ends bs p = (p ≡ length bs) ⊎ ((suc p ≡ length bs) × (128 ≤ get_or bs p 0))

-- "a second byte with its high bit set, or equal to 0, is badly formed"
abbrev pub BadlyFormed : List ℕ → ℕ → Type 0
BadlyFormed bs p = (suc p < length bs) × (128 ≤ get_or bs p 0) × ((get_or bs (suc p) 0 ≡ 0) ⊎ (128 ≤ get_or bs (suc p) 0))

-- the answers 1 to 6, where `R n p` says that the answer has number n and place p
pub record FaultsOf (bs : List ℕ) (R : ℕ → ℕ → Type 0) : Type 0 where
  -- number and place are those of the layout
  pub as_read : (n p : ℕ) → n < 7 → R n p ↔ (read_sheet bs ≡ refused n p)
  -- one of them exactly if these are the bytes of no sheet
  pub no-sheet : ((n : ℕ) × (p : ℕ) × (n < 7) × R n p) ↔ ((s : Sheet) → LaidOut s bs → ⊥)
  pub place : (n p : ℕ) → n < 7 → R n p → (0 < n) × (p ≤ length bs)
  -- of 1 to 5 it is 1 exactly if the sheet ends at p, 2 exactly if the number there is badly formed; so 3 to 5 stand at a well-formed number
  pub one : (n p : ℕ) → n < 6 → R n p → (n ≡ 1) ↔ Ends bs p
  pub two : (n p : ℕ) → n < 6 → R n p → (n ≡ 2) ↔ BadlyFormed bs p
  -- a whole sheet, and bytes behind it
  pub six : (p : ℕ) → R 6 p ↔ ((s : Sheet) × LaidOut s (take p bs) × (p < length bs))
  -- "the first fault answers": no bytes from its place on bring a fault before it, and with other bytes behind the faulty number it is the same
  pub first : (n p : ℕ) → n < 7 → R n p → (more : List ℕ) (m q : ℕ) → read_sheet (take p bs ++ more) ≡ refused m q → p ≤ q
  pub behind : (n p : ℕ) → 1 < n → n < 6 → R n p → (more : List ℕ) → read_sheet (take (2 + p) bs ++ more) ≡ refused n p

-- ---- 13, "out of space: the records needed outnumber those lent"
-- "settled joint labels, in order, up to and including the first whose seeds are all satisfiable (all of them if there is none)": before J none is so
abbrev pub LookedAt : Sheet → List Entry → Joint → Type 0
LookedAt s xs J = (ys : List Joint) × (zs : List Joint) × (settled_joints s xs ≡ ys ++ (J ∷ zs)) × ((K : Joint) → K ∈ ys → AllSatisfiable s K → ⊥)

-- more "distinct seeds reached from" these, "and onward from every settled expansion of every seed reached", than there is room for
pub record MoreSeeds (s : Sheet) (xs : List Entry) (room : ℕ) : Type 0 where
  pub joints : List Joint
  pub looked-at : (J : Joint) → (J ∈ joints) ↔ LookedAt s xs J
  pub found : List Label
  pub distinct : Distinct found
  pub reached : (l : Label) → l ∈ found → Reached s joints l
  pub more : room < length found

-- ---- the buffers
-- what was lent is in order: at most 4,096 records, and no fewer mark bytes
abbrev pub LentWell : List ℕ → List ℕ → Type 0
LentWell rs ms = (length rs ≤ most_records) × (length rs ≤ length ms)

-- the answers 1 to 8, and which buffers they leave alone; from 10 on, records and marks end as zero
pub record Refusals (bs rs ms os : List ℕ) (o : Reply) : Type 0 where
  pub seven : (o.number ≡ 7) ↔ (LentWell rs ms → ⊥)
  pub faults : LentWell rs ms → FaultsOf bs (λ n p. (o.number ≡ n) × (o.carries ≡ p))
  pub alone : o.number < 9 → (o.records ≡ rs) × (o.marks ≡ ms) × (o.out ≡ os)
  pub zeroed : 9 < o.number → (o.records ≡ replicate (length rs) 0) × (o.marks ≡ replicate (length ms) 0)

-- a result in its buffer: as long as the reply says, zeros behind it, and the buffer as long as it was
abbrev pub ZerosBehind : List ℕ → Reply → Type 0
ZerosBehind os o = (o.carries ≤ length os) × (length o.out ≡ length os) × (drop o.carries o.out ≡ replicate (length (drop o.carries o.out)) 0)

-- ---- demand 2, of a sheet
pub record SatisfyMeans (s : Sheet) (room : ℕ) (os : List ℕ) (o : Reply) : Type 0 where
  pub ten : o.number ≡ 10 → TenMeans s (take o.carries o.out) × ZerosBehind os o
  pub eleven : o.number ≡ 11 → (ws : List ℕ) × TenMeans s ws × (o.carries ≡ length ws) × (length os < length ws) × (o.out ≡ replicate (length os) 0)
  pub twelve : o.number ≡ 12 → (SheetSatisfiable s → ⊥) × (o.carries ≡ 0) × (o.out ≡ replicate (length os) 0)
  pub thirteen : (o.number ≡ 13) ↔ MoreSeeds s [] room
  pub thirteen-alone : o.number ≡ 13 → (o.carries ≡ 0) × (o.out ≡ replicate (length os) 0)
  pub never-thirteen : bound s ≤ room → o.number ≡ 13 → ⊥
  pub one_of : (((o.number ≡ 10) ⊎ (o.number ≡ 11)) ⊎ (o.number ≡ 12)) ⊎ (o.number ≡ 13)

pub record SatisfyPromise (bs rs ms os : List ℕ) (o : Reply) : Type 0 where
  -- all of it, for every input: so two builds cannot disagree
  pub exact : o ≡ satisfy_reply bs rs ms os
  pub refusals : Refusals bs rs ms os o
  pub means : LentWell rs ms → (s : Sheet) → LaidOut s bs → SatisfyMeans s (length rs) os o

-- ---- demand 3, of a sheet and a query that is on it
-- a slot is marked exactly if no finite interpretation meets its rules and all assertions
abbrev pub MarkedRight : Sheet → ℕ → Type 0
MarkedRight s x = (x < 2 * top_bit) × ((top_bit ≤ x) ↔ (SheetSatisfiable (with_rules s (rules_of x)) → ⊥))

-- every smallest set of rules that forces the port into the class, each once, in number order, nothing else; and each marked
abbrev pub CauseList : Sheet → ℕ → ℕ → List ℕ → Type 0
CauseList s port class l =
    Ascending (map rules_of l) × ((n : ℕ) → (n ∈ map rules_of l) ↔ Cause s port class n) × ((x : ℕ) → x ∈ l → MarkedRight s x)

pub record CausesMeans (s : Sheet) (port class room : ℕ) (os : List ℕ) (o : Reply) : Type 0 where
  -- "exactly when some set, none of whose proper subsets forces, needs more records than lent", "judged with class fails added at the port";
  -- or such a set that forces does "without class fails"
  pub thirteen : (o.number ≡ 13)
      ↔ ((n : ℕ) × (n < 2 ^ length s.rules) × NoSubsetForces s port class n
      × (MoreSeeds (with_rules s n) (denial port class) room ⊎ (Forces (with_rules s n) port class × MoreSeeds (with_rules s n) [] room)))
  pub thirteen-alone : o.number ≡ 13 → (o.carries ≡ 0) × (o.out ≡ replicate (length os) 0)
  pub never-thirteen : bound s ≤ room → o.number ≡ 13 → ⊥
  pub fourteen : o.number ≡ 14 → CauseList s port class (take o.carries o.out) × ZerosBehind os o
  pub fifteen : o.number ≡ 15 → (l : List ℕ) × CauseList s port class l × (o.carries ≡ length l) × (length os < length l) × (o.out ≡ replicate (length os) 0)
  pub one_of : ((o.number ≡ 13) ⊎ (o.number ≡ 14)) ⊎ (o.number ≡ 15)

pub record CausesPromise (bs : List ℕ) (port class : ℕ) (rs ms os : List ℕ) (o : Reply) : Type 0 where
  pub exact : o ≡ causes_reply bs port class rs ms os
  pub refusals : Refusals bs rs ms os o
  pub eight : LentWell rs ms → (s : Sheet) → LaidOut s bs → ((o.number ≡ 8) × (o.carries ≡ 0))
      ↔ ((port < s.individuals) × (class < count s) → ⊥)
  pub means : LentWell rs ms → (s : Sheet) → LaidOut s bs → port < s.individuals → class < count s
      → CausesMeans s port class (length rs) os o

-- ---- the balance
pub record BalancePromise (bs : List ℕ) (room : ℕ) (b : Balance) : Type 0 where
  pub exact : b ≡ balance_reply bs room
  pub seven : (b ≡ faulty 7 0) ↔ (most_records < room)
  pub faults : room ≤ most_records → FaultsOf bs (λ n p. b ≡ faulty n p)
  -- what is left, added to e·2^(e-1), is the room
  pub means : room ≤ most_records → (s : Sheet) → LaidOut s bs → (z : ℤ) × (b ≡ left z) × (z +ℤ pos (bound s) ≡ pos room)
