-- The lines that the code counts are those of the sheet.
use Rattle.std.specs.Prelude.{◌≡◌, count_by, take}
use Rattle.std.proofs.Common.{◌∙◌, rules}
use Rattle.alc.specs.Seeds.{is_quantified}
use Rattle.sheet.specs.Form.{line_of}
use Rattle.balance.proofs.Counting.{by_entries}
use Rattle.balance.proofs.quantifiers.Goals as goal

pub returns : goal.returns
returns c =
    let lines = c.args.sheet.now.lines in
    let counted : c.count.result ≡ count_by (λ e. is_quantified (line_of e)) (take lines.count lines.entries) = search rules in
    (counted ∙ by_entries c.args.sheet.now, search rules)
