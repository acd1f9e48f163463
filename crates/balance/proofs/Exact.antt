-- A difference of two numbers below 2 ^ 63, as a signed number of 64 bits. Assumes nothing.
use mathlib.Core.Path.{◌≡◌, ap₂, ◌∙◌}
use mathlib.Core.Bool.{true, false}
use mathlib.Core.Logic.{⊎_elim}
use Prim.Native.Nat.{ℕ, zero, suc, ◌^◌, ◌<◌}
use native.Mathlib.Omega.{arith}
use lib.Dec.{ltb}
use lib.IntN.{pos, ◌-ℤ◌}
use lib.Signed.{mag}
use mir.Syntax.{w64}
use mir.Val.{SFits, to_z, of_z}
use mir.ValLaws.{to_z_pos, to_z-of_z}
use Rattle.alc.proofs.Theorems.Lists.{cases}

small : (a b : ℕ) → a < 2 ^ 63 → b < 2 ^ 63 → mag (pos a -ℤ pos b) < 2 ^ 63
small a zero ha hb = omega arith
small a (suc b) ha hb = ⊎_elim (λ (e : ltb a (suc b) ≡ true). rw e (omega arith)) (λ (e : ltb a (suc b) ≡ false). rw e (omega arith)) (cases (ltb a (suc b)))

module _ (a b : ℕ) (ha : a < 2 ^ 63) (hb : b < 2 ^ 63) where
  plain : to_z w64 a -ℤ to_z w64 b ≡ pos a -ℤ pos b
  plain = ap₂ ◌-ℤ◌ (to_z_pos w64 a ha) (to_z_pos w64 b hb)

  pub sub-fits : SFits w64 (to_z w64 a -ℤ to_z w64 b)
  sub-fits = rw plain (record { sfits = small a b ha hb })

  pub sub-exact : to_z w64 (of_z w64 (to_z w64 a -ℤ to_z w64 b)) ≡ pos a -ℤ pos b
  sub-exact = to_z-of_z w64 (to_z w64 a -ℤ to_z w64 b) sub-fits ∙ plain
