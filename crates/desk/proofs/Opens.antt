-- What a question begins with: what was lent is tested, then the sheet is read; and what every reply makes of it.
use Prim.Native.Nat.{ℕ}
use mathlib.Core.Bool.{Bool, true, false}
use mathlib.Core.Path.{◌≡◌, refl, ap}
use mathlib.Core.List.{List}
use lib.ListN.{length}
use native.Mathlib.Omega.{arith}
use Rattle.alc.specs.Sheet.{Sheet}
use Rattle.alc.specs.Bytes.{Read, refused, taken, read_sheet}
use Rattle.alc.specs.Replies.{Reply, untouched, checked}
use Rattle.alc.specs.Promises.{LentWell}
use Rattle.alc.proofs.Theorems.Promises.{lent-well}
use Rattle.desk.specs.Desk.{lent_badly, lent_read}

-- whether a sheet was taken, as a number
abbrev is_taken : Read Sheet → ℕ
is_taken (refused n p) = 0
is_taken (taken s p) = 1

module _ (bs rs ms os : List ℕ) where
  -- where a sheet was taken, what was lent is in order
  pub taken-well : {s : Sheet} {p : ℕ} → taken s p ≡ lent_read bs (length rs) (length ms) → LentWell rs ms
  taken-well {s} {p} = go (lent_badly (length rs) (length ms)) refl
    where
      go : (b : Bool) → lent_badly (length rs) (length ms) ≡ b → taken s p ≡ elim b as (λ _. Read Sheet) [ true ↦ refused 7 0 | false ↦ read_sheet bs ] → LentWell rs ms
      go true f e = absurd (omega (arith, ap is_taken e))
      go false f e = lent-well rs ms os f

  -- a reply that leaves the buffers alone under a refusal
  pub checked-read : (reply : Read Sheet → Reply) → ((n p : ℕ) → reply (refused n p) ≡ untouched rs ms os n p)
      → reply (lent_read bs (length rs) (length ms)) ≡ checked rs ms os (reply (read_sheet bs))
  checked-read reply alone = go (lent_badly (length rs) (length ms))
    where
      go : (b : Bool) → reply (elim b as (λ _. Read Sheet) [ true ↦ refused 7 0 | false ↦ read_sheet bs ])
          ≡ elim b as (λ _. Reply) [ true ↦ untouched rs ms os 7 0 | false ↦ reply (read_sheet bs) ]
      go true = alone 7 0
      go false = refl
