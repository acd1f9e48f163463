-- The clash test by whole words: each way through the code is one law of the masks (proofs/Theorems/Masks.antt).
use Rattle.std.specs.Prelude.{◌<◌, ◌^◌}
use Rattle.std.proofs.Common.{rules, sym, ◌∙◌}
use Rattle.alc.proofs.Theorems.Masks.{plain-clashes, none-holds, none-fails, by-groups}
use Rattle.alc.proofs.Label.marks_clash.Goals as goal

pub returns-then-h-f-ne0 : goal.returns-then-h-f-ne0
returns-then-h-f-ne0 c = λ s right. sym (plain-clashes right c.args.self c.if-h-f-ne0.true)

pub returns-then-sharing-eq0 : goal.returns-then-sharing-eq0
returns-then-sharing-eq0 c = λ s right. sym (none-holds right c.args.self c.if-h-f-ne0.false c.if-sharing-eq0.true)

pub returns-then-f-masks-eq0 : goal.returns-then-f-masks-eq0
returns-then-f-masks-eq0 c = λ s right. sym (none-fails right c.args.self c.if-h-f-ne0.false c.if-f-masks-eq0.true)

pub returns : goal.returns
returns c =
    let small : c.args.self.holding < 2 ^ 32 = search rules in
    λ s right. c.group_fails.ensures ∙ sym (by-groups right c.args.self c.if-h-f-ne0.false 32 small)
