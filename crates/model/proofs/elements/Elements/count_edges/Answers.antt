-- `model::elements::Elements::count_edges`: the edges of the elements passed are counted.
use Rattle.std.proofs.Common.{◌≡◌, length, refl, arith}
use Rattle.model.specs.Elements.{sheet_in, labels_in, seeds_in, row_in}
use Rattle.model.proofs.Worded.{length_more, counted-all, row_count}
use Rattle.model.proofs.elements.Elements.count_edges.Goals as goal

pub loop-x-init : goal.loop-x-init
loop-x-init c = record { few = omega arith; counted = refl }

pub overflow_add-total : goal.overflow_add-total
overflow_add-total c = omega (arith, c.loop-x.invariant.few, c.edges-total.result.few)

pub loop-x-preserved : goal.loop-x-preserved
loop-x-preserved c =
    let e = c.args.self.now in
    let here : length (row_in e c.loop-x.x) ≡ c.edges-total.result.count = row_count c.edges-total.result (omega arith) c.loop-x.x (row_in e c.loop-x.x) c.edges-total.ensures in
    record { few = omega (arith, c.loop-x.invariant.few, c.edges-total.result.few); counted = omega (arith, c.loop-x.invariant.counted, length_more (row_in e) c.loop-x.x, here) }

pub returns : goal.returns
returns c =
    let e = c.args.self.now in (
      counted-all (sheet_in e) (labels_in e) (seeds_in e) c.loop-x.x c.loop-x.total c.loop-x.invariant.counted (omega (arith, c.count-x-end.ensures)),
      omega (arith, c.loop-x.invariant.few),
    )
