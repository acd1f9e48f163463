-- The table of operand counts, and that no kind is above it.
use mathlib.Core.Path.{◌≡◌, refl, sym}
use mathlib.Core.List.{List, [], ◌∷◌}
use Prim.Native.Nat.{ℕ, zero, suc, ◌<◌}
use native.Mathlib.Omega.{arith}
use lib.Dec.{eqb}
use lib.ListN.{get_or}
use borrow.Author.Tests.{eqb-true}
use borrow.Author.Rules.{rules}
use Rattle.alc.specs.Lists.{up_to}
use Rattle.alc.proofs.Theorems.Lists.{all-elim, up_to-intro}
use Rattle.sheet.specs.Form.{operand_count}
use Rattle.sheet.proofs.operands.Goals as goal

none_above : (k : ℕ) → 7 < k → operand_count k ≡ 0
none_above zero h = absurd (omega arith)
none_above (suc zero) h = absurd (omega arith)
none_above (suc (suc zero)) h = absurd (omega arith)
none_above (suc (suc (suc zero))) h = absurd (omega arith)
none_above (suc (suc (suc (suc zero)))) h = absurd (omega arith)
none_above (suc (suc (suc (suc (suc zero))))) h = absurd (omega arith)
none_above (suc (suc (suc (suc (suc (suc zero)))))) h = absurd (omega arith)
none_above (suc (suc (suc (suc (suc (suc (suc zero))))))) h = absurd (omega arith)
none_above (suc (suc (suc (suc (suc (suc (suc (suc k)))))))) h = refl

pub returns-then-kind-gt7 : goal.returns-then-kind-gt7
returns-then-kind-gt7 c = sym (none_above c.args.kind (search rules))

-- the table once more: one test, computed over all of it, says that no entry is wrong
table : List ℕ
table = 0 ∷ 0 ∷ 1 ∷ 1 ∷ 2 ∷ 2 ∷ 2 ∷ 2 ∷ []

pub returns : goal.returns
unfolding table
returns c =
    eqb-true (get_or table c.args.kind 0) (operand_count c.args.kind)
    (all-elim (λ k. eqb (get_or table k 0) (operand_count k)) (up_to 8) refl c.args.kind (up_to-intro 8 c.args.kind (search rules)))
