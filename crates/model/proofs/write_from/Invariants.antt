-- `model::write_from`: the edges passed stand in the buffer, one behind the other.
use Rattle.std.proofs.Common.{get_or}
use Rattle.edges.specs.Keys.{edge_of}
use Rattle.model.proofs.Worded.{Laying}
use Rattle.model.proofs.write_from.Given as goal

abbrev pub invariant-loop-key : goal.invariant-loop-key
invariant-loop-key l = Laying (λ k. edge_of l.x (get_or l.key-items k 0)) l.start l.initial.out l.key-index l.at l.out
