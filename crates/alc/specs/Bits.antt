-- Sets of small numbers, as numbers: i is in the set s where bit i of s is set. So a set of lines is one machine word, of whatever width.
-- Definitions only; the laws are in proofs/Theorems/Bits.antt and Members.antt.
use Rattle.std.specs.Prelude.{ℕ, ◌+◌, ◌/◌, ◌%◌, ◌^◌, Bool, not as flip, cond, List, eqb}
use Rattle.std.specs.Int.Bits.{bit_and}
use Rattle.alc.specs.Lists.{filter, up_to}

-- i is in s
unfoldable pub bit : ℕ → ℕ → Bool
bit s i = eqb (s / 2 ^ i % 2) 1

-- s with i in it
unfoldable pub put : ℕ → ℕ → ℕ
put s i = cond (bit s i) s (s + 2 ^ i)

-- s and t have a member in common
abbrev pub meets : ℕ → ℕ → Bool
meets s t = flip (eqb (bit_and s t) 0)

-- the members of s below n, ascending
unfoldable pub members : ℕ → ℕ → List ℕ
members n s = filter (bit s) (up_to n)
