-- A form's numbers are laid, then their bytes, which are answered.
use Rattle.std.proofs.Common.{◌∙◌}
use Rattle.writer.proofs.Back.{form-promise}
use Rattle.writer.proofs.Bytes.{all-written}
use Rattle.writer.proofs.write_sheet.Goals as goal

pub returns : goal.returns
returns c =
    form-promise _ _ _ (all-written _ _ _ _ (c.as_slice.ensures ∙ rw (c.new-laid.ensures, c.lay_form-n.ensures.1) at c.lay_numbers.ensures.0) c.deliver.ensures)
