-- The masks of a sheet: sets of its lines, made once, so that the clash test looks at whole words (document 02, request 03).
-- What clashes stays as Label.antt has it; that the masks say the same is shown in proofs/Theorems/Masks.antt. Definitions only.
use Rattle.std.specs.Prelude.{ℕ, ◌<◌, Bool, not as flip, ◌&&◌, ◌≡◌, get_or, eqb, ltb}
use Rattle.alc.specs.declared.Masks.{Masks}
use Rattle.alc.specs.Bits.{bit}
use Rattle.alc.specs.Lists.{any, up_to}
use Rattle.alc.specs.Sheet.{Sheet, count, line}
use Rattle.alc.specs.Label.{is_top, is_bottom, same_name}

-- another line has the name of line i
unfoldable pub shares_name : Sheet → ℕ → Bool
shares_name s i = any (λ j. flip (eqb i j) && same_name (line s i) (line s j)) (up_to (count s))

-- the words are: all lines, the bottoms, the tops, the lines that share their name, and for each line its group, the lines of its name
pub record MasksOf (s : Sheet) (m : Masks) : Type 0 where
  pub lines : (i : ℕ) → bit m.lines i ≡ ltb i (count s)
  pub bottoms : (i : ℕ) → bit m.bottoms i ≡ (ltb i (count s) && is_bottom (line s i))
  pub tops : (i : ℕ) → bit m.tops i ≡ (ltb i (count s) && is_top (line s i))
  pub shared : (i : ℕ) → bit m.shared i ≡ shares_name s i
  pub groups : (i j : ℕ) → i < count s → bit (get_or m.groups i 0) j ≡ same_name (line s i) (line s j)
