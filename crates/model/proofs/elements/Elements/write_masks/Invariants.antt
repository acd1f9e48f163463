-- `model::elements::Elements::write_masks`: the masks of the elements passed stand in the buffer.
use Rattle.model.specs.Elements.{sheet_in, labels_in, seeds_in}
use Rattle.model.proofs.Worded.{Laying, mask_words}
use Rattle.model.proofs.elements.Elements.write_masks.Given as goal

abbrev pub invariant-loop-x : goal.invariant-loop-x
invariant-loop-x l = Laying (mask_words (sheet_in l.self) (labels_in l.self) (seeds_in l.self)) 0 l.initial.out l.x l.x l.out
