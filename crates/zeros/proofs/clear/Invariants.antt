-- The places that were passed hold the one default value.
use Rattle.std.proofs.Common.{◌≡◌, replicate, take}
use Rattle.zeros.proofs.clear.Given as goal

abbrev pub invariant-loop-place : goal.invariant-loop-place
invariant-loop-place g l =
    (zero : g.row.T.Denot) → ((x : _) → g.T.Default.is_default x → x ≡ zero) → take l.place-index l.buffer ≡ replicate l.place-index zero
