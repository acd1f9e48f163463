-- `edges::keys::Edges::with`: what is laid, and the key in hand among what is left, is the whole.
use Rattle.edges.proofs.Keyed.{Shifting}
use Rattle.edges.proofs.keys.Edges.with.Given as goal

abbrev pub invariant-loop-i : goal.invariant-loop-i
invariant-loop-i l = Shifting l.key l.here-items l.keys l.more l.i
