-- `labels::Labels::with`: the labels counted, with another at a.
use Rattle.std.proofs.Common.{refl}
use Rattle.std.proofs.Math.Seq.{take-set-lt}
use Rattle.tableau.proofs.labels.Labels.with.Goals as goal

pub returns : goal.returns
returns c = (take-set-lt c.args.self.count c.args.self.labels c.args.a c.args.l c.requires, refl)
