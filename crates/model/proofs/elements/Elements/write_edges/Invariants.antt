-- `model::elements::Elements::write_edges`: the edges of the elements passed stand in the buffer.
use Rattle.model.specs.Elements.{sheet_in, labels_in, seeds_in}
use Rattle.model.proofs.Worded.{Laying, edge_words}
use Rattle.model.proofs.elements.Elements.write_edges.Given as goal

abbrev pub invariant-loop-x : goal.invariant-loop-x
invariant-loop-x l = Laying (edge_words (sheet_in l.self) (labels_in l.self) (seeds_in l.self)) 0 l.initial.out l.x l.at l.out
