-- As many numbers as are judged are laid, and answered as all are.
use Rattle.std.proofs.Common.{◌∙◌, rules}
use Rattle.writer.proofs.Bytes.{numbers-written}
use Rattle.writer.proofs.write_numbers.Goals as goal

pub returns : goal.returns
returns c =
    numbers-written _ _ _ c.min.result _ (search rules) (c.as_slice.ensures ∙ rw c.new-laid.ensures at c.lay_numbers.ensures.0) c.deliver.ensures
