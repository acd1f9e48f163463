-- `model::write_from`: the edges passed stand in the buffer, one behind the other.
use Rattle.std.proofs.Common.{◌≡◌, ◌+◌, ◌≤◌, length, get_or, sym, ap, ◌∙◌, arith}
use Rattle.std.proofs.Math.ListN.{length-set}
use Rattle.std.proofs.Math.Seq.{length-take-le}
use Rattle.edges.specs.Keys.{edge_of}
use Rattle.model.proofs.Worded.{laying, edge-place, lay-edge, laid-edges}
use Rattle.model.proofs.write_from.Goals as goal
use Rattle.model.proofs.write_from.Goals.{In-loop-key, After-as_slice-key-items}

-- as many keys as are counted
long : (c : After-as_slice-key-items) → length c.as_slice-key-items.result.now ≡ c.args.edges.count
long c = ap length c.as_slice-key-items.ensures ∙ length-take-le c.args.edges.count c.args.edges.keys (omega (arith, c.args.edges.few))

-- there is room for one edge more
room : (c : In-loop-key) → c.loop-key.at + 3 ≤ length c.args.out.now
room c = omega (arith, edge-place c.args.x c.as_slice-key-items.result.now c.loop-key.invariant, long (goal.at.In-loop-key c).After-as_slice-key-items)

-- of the buffer as it is
here : (c : In-loop-key) → c.loop-key.at + 3 ≤ length c.loop-key.out
here c = omega (arith, room c, c.loop-key.invariant.size)

pub loop-key-init : goal.loop-key-init
loop-key-init c = laying (λ k. edge_of c.args.x (get_or c.as_slice-key-items.result.now k 0)) c.args.start c.args.out.now

pub offset_bounds-out-at : goal.offset_bounds-out-at
offset_bounds-out-at c = omega (arith, here (goal.at.offset_bounds-out-at c).In-loop-key)

pub bounds-out-at : goal.bounds-out-at
bounds-out-at c = omega (arith, here (goal.at.bounds-out-at c).In-loop-key)

pub overflow_add-out : goal.overflow_add-out
overflow_add-out c = omega (arith, here (goal.at.overflow_add-out c).In-loop-key)

pub offset_bounds-out-at-in-loop-key : goal.offset_bounds-out-at-in-loop-key
offset_bounds-out-at-in-loop-key c = omega (arith, here (goal.at.offset_bounds-out-at-in-loop-key c).In-loop-key)

pub bounds-out-at-in-loop-key : goal.bounds-out-at-in-loop-key
bounds-out-at-in-loop-key c = simp length-set (omega (arith, here (goal.at.bounds-out-at-in-loop-key c).In-loop-key))

pub overflow_add-out-in-loop-key : goal.overflow_add-out-in-loop-key
overflow_add-out-in-loop-key c = omega (arith, here (goal.at.overflow_add-out-in-loop-key c).In-loop-key)

pub offset_bounds-out-at-in-loop-key-2 : goal.offset_bounds-out-at-in-loop-key-2
offset_bounds-out-at-in-loop-key-2 c = omega (arith, here (goal.at.offset_bounds-out-at-in-loop-key-2 c).In-loop-key)

pub bounds-out-at-in-loop-key-2 : goal.bounds-out-at-in-loop-key-2
bounds-out-at-in-loop-key-2 c = simp length-set (omega (arith, here (goal.at.bounds-out-at-in-loop-key-2 c).In-loop-key))

pub overflow_add-at : goal.overflow_add-at
overflow_add-at c = omega (arith, here (goal.at.overflow_add-at c).In-loop-key)

pub loop-key-preserved : goal.loop-key-preserved
loop-key-preserved c =
    rw (c.role_and_to-role.ensures.0, c.role_and_to-role.ensures.1)
    (lay-edge c.args.x c.as_slice-key-items.result.now c.loop-key.invariant (room (goal.at.loop-key-preserved c).In-loop-key))

pub returns : goal.returns
returns c =
    laid-edges c.args.x c.as_slice-key-items.result.now c.loop-key.invariant (omega arith) c.args.edges.count (sym (long (goal.at.returns c).After-as_slice-key-items)) _ c.as_slice-key-items.ensures
