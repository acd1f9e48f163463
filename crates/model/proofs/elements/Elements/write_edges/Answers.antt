-- `model::elements::Elements::write_edges`: the edges of the elements passed stand in the buffer.
use Rattle.std.proofs.Common.{arith}
use Rattle.model.specs.Elements.{sheet_in, labels_in, seeds_in}
use Rattle.model.proofs.Worded.{laying, edge_words, row_room, lay-row, laid-rows}
use Rattle.model.proofs.elements.Elements.write_edges.Goals as goal

pub loop-x-init : goal.loop-x-init
loop-x-init c = let e = c.args.self.now in laying (edge_words (sheet_in e) (labels_in e) (seeds_in e)) 0 c.args.out.now

pub write_from-at-requires : goal.write_from-at-requires
write_from-at-requires c =
    let e = c.args.self.now in
    let room =
    row_room (sheet_in e) (labels_in e) (seeds_in e) c.loop-x.invariant c.edges.result (omega arith) c.edges.ensures (omega (arith, c.count-x-end.ensures)) c.requires in
    (omega (arith, room, c.loop-x.invariant.size), omega arith)

pub loop-x-preserved : goal.loop-x-preserved
loop-x-preserved c =
    let e = c.args.self.now in
    lay-row (sheet_in e) (labels_in e) (seeds_in e) c.loop-x.invariant c.edges.result (omega arith) c.edges.ensures (omega (arith, c.count-x-end.ensures)) c.requires
    c.write_from-at.result c.write_from-at.new.out c.write_from-at.ensures.0 c.write_from-at.ensures.1

pub returns : goal.returns
returns c =
    let e = c.args.self.now in
    laid-rows (sheet_in e) (labels_in e) (seeds_in e) c.loop-x.invariant (omega (arith, c.count-x-end.ensures))
