-- A section: its count, and its entries if a form can hold so many.
use Rattle.std.proofs.lemmas.List.{length-take-le, take_more_set}
use Rattle.std.proofs.Common.{◌≡◌, take, take_all, length, sym, ◌∙◌, append-nil, arith, rules}
use Rattle.reader.proofs.Theorems.{triples-front}
use Rattle.writer.proofs.Bytes.{onward}
use Rattle.writer.proofs.Sections.{entries-more, section-stops, section-whole}
use Rattle.writer.proofs.form.lay_section.Goals as goal

pub returns-then-count-gt-MOST : goal.returns-then-count-gt-MOST
returns-then-count-gt-MOST c =
    (rw (section-stops c.args.kind c.args.s c.if-count-gt-MOST.true) (take_more_set _ _ _ (omega arith)), omega arith)

pub loop-e-init : goal.loop-e-init
loop-e-init c = (sym (append-nil _), omega arith)

pub loop-e-preserved : goal.loop-e-preserved
loop-e-preserved c =
    rw (entries-more c.args.kind _ c.loop-e.e-index c.loop-e-test.true) (onward _ _ _ _ _ c.loop-e.invariant.0 c.lay_entry-at.ensures.0, omega arith)

pub returns : goal.returns
returns c =
    let long : length c.args.s.entries ≡ 32 = search rules in
    let all = take_all c.loop-e.e-index (take c.args.s.count c.args.s.entries) c.loop-e-test.false ∙ sym (triples-front c.args.s (omega arith)) in (
      rw (section-whole c.args.kind c.args.s c.if-count-gt-MOST.false) (onward _ _ _ _ _ (take_more_set c.args.numbers.now c.args.start c.args.s.count (omega arith)) (rw all at c.loop-e.invariant.0)),
      omega (arith, length-take-le c.args.s.count c.args.s.entries (omega arith)),
    )
