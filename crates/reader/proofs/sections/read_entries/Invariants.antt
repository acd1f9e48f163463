-- The entries of a section. The loop's invariant: what is left to read from here, behind what is done, is the whole.
use Prim.Native.Nat.{ℕ}
use Rattle.std.proofs.Common.{◌≡◌}
use Rattle.alc.specs.Bytes.{Read}
use Rattle.sheet.specs.declared.Entry.{Entry as Triple}
use Rattle.reader.specs.Parts.{EntriesBy}
use Rattle.reader.proofs.Loop.{Going}
use Rattle.reader.proofs.sections.read_entries.Given as goal

abbrev pub invariant-loop-own : goal.invariant-loop-own
invariant-loop-own g l =
    (l.section.count ≡ l.count) × ((one : ℕ → ℕ → Read Triple) → EntriesBy (goal.F-post g l.fn.entry) one → Going one l.count l.start l.section.entries l.at l.own)
