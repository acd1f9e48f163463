-- The operands of each line below i stand.
use Rattle.std.specs.Prelude.{ℕ, ◌≡◌, ◌<◌, length, get_or}
use Rattle.sheet.specs.Form.{entry_of, line_of}
use Rattle.plan.specs.Prepared.{operand_set}
use Rattle.plan.proofs.operand_sets.Given as goal

abbrev pub invariant-loop-i : goal.invariant-loop-i
invariant-loop-i l = (length l.sets ≡ 32) × ((j : ℕ) → j < l.i → get_or l.sets j 0 ≡ operand_set (line_of (entry_of l.lines j)))
