-- `model::elements::Elements::count_edges`: the edges of the elements passed are counted.
use Rattle.std.proofs.Common.{◌≡◌, ◌*◌, ◌≤◌, length}
use Rattle.alc.specs.Lists.{each, up_to}
use Rattle.model.specs.Elements.{row_in}
use Rattle.model.proofs.elements.Elements.count_edges.Given as goal

abbrev pub invariant-loop-x : goal.invariant-loop-x
invariant-loop-x l = record { few : l.total ≤ 48 * l.x; counted : l.total ≡ length (each (row_in l.self) (up_to l.x)) }
