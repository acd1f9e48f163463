-- The entries in front of e stand behind the count.
use Rattle.std.proofs.Common.{◌≡◌, ◌+◌, ◌*◌, ◌≤◌, ◌++◌, take}
use Rattle.alc.specs.Lists.{each}
use Rattle.sheet.specs.Form.{entry_numbers}
use Rattle.writer.proofs.form.lay_section.Given as goal

abbrev pub invariant-loop-e : goal.invariant-loop-e
invariant-loop-e l =
    (take l.at l.numbers ≡ take l.initial.at l.initial.numbers ++ each (entry_numbers l.kind) (take l.e-index l.e-items)) × (l.at ≤ l.initial.at + 3 * l.e-index)
