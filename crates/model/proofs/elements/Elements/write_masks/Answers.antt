-- `model::elements::Elements::write_masks`: the masks of the elements passed stand in the buffer.
use Rattle.std.proofs.Common.{ap, ◌∙◌, arith}
use Rattle.model.specs.Laid.{mask_of}
use Rattle.model.specs.Elements.{sheet_in, count_in, labels_in, seeds_in}
use Rattle.model.proofs.Worded.{laying, mask_words, lay-mask, laid-masks}
use Rattle.model.proofs.elements.Elements.write_masks.Goals as goal

pub loop-x-init : goal.loop-x-init
loop-x-init c = let e = c.args.self.now in laying (mask_words (sheet_in e) (labels_in e) (seeds_in e)) 0 c.args.out.now

pub loop-x-preserved : goal.loop-x-preserved
loop-x-preserved c =
    let e = c.args.self.now in
    lay-mask (sheet_in e) (labels_in e) (seeds_in e) c.loop-x.invariant (omega arith) c.names_of.result (c.names_of.ensures ∙ ap (mask_of (sheet_in e)) c.label.ensures)

pub returns : goal.returns
returns c =
    let e = c.args.self.now in
    laid-masks (sheet_in e) (labels_in e) (seeds_in e) c.loop-x.invariant (count_in e) (omega (arith, c.count-x-end.ensures)) (omega (arith, c.count-x-end.ensures))
