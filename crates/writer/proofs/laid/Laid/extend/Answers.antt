-- A turn lays one number more.
use Rattle.std.proofs.Common.{sym, append-nil, arith}
use Rattle.alc.specs.Writing.{bytes_for}
use Rattle.writer.proofs.Bytes.{onward, bytes-more}
use Rattle.writer.proofs.laid.Laid.extend.Goals as goal

pub loop-n-init : goal.loop-n-init
unfolding bytes_for
loop-n-init c = (sym (append-nil _), omega arith)

pub loop-n-preserved : goal.loop-n-preserved
loop-n-preserved c =
    (rw (bytes-more c.args.numbers.now c.loop-n.n-index c.loop-n-test.true) (onward _ _ _ _ _ c.loop-n.invariant.0 c.lay_number-at.ensures.0), omega arith)
