-- The numbers of a form: section behind section, up to the first that is too long.
use Rattle.std.proofs.Common.{[], sym, ◌∙◌, arith}
use Rattle.std.proofs.lemmas.List.{take_more_set}
use Rattle.sheet.specs.Form.{numbers_of}
use Rattle.writer.proofs.Sections.{section-last, section-goes-on, number-goes-on}
use Rattle.writer.proofs.form.lay_form.Goals as goal

pub returns-then-sheet-gt-MOST : goal.returns-then-sheet-gt-MOST
unfolding numbers_of
returns-then-sheet-gt-MOST c =
    (omega arith, sym (section-last _ _ [] _ _ c.lay_section-a.ensures.0 c.if-sheet-gt-MOST.true))

pub returns-then-sheet-gt-MOST-2 : goal.returns-then-sheet-gt-MOST-2
unfolding numbers_of
returns-then-sheet-gt-MOST-2 c = (
  omega arith,
  sym (section-goes-on _ _ [] _ _ c.lay_section-a.ensures.0 c.if-sheet-gt-MOST.false ∙ section-last _ _ _ _ _ c.lay_section-b.ensures.0 c.if-sheet-gt-MOST-2.true),
)

pub returns-then-sheet-gt-MOST-3 : goal.returns-then-sheet-gt-MOST-3
unfolding numbers_of
returns-then-sheet-gt-MOST-3 c = (
  omega arith,
  sym (section-goes-on _ _ [] _ _ c.lay_section-a.ensures.0 c.if-sheet-gt-MOST.false
      ∙ section-goes-on _ _ _ _ _ c.lay_section-b.ensures.0 c.if-sheet-gt-MOST-2.false
      ∙ number-goes-on _ _ _ _ (take_more_set c.lay_section-b.new.numbers c.lay_section-b.result c.args.sheet.individuals (omega arith))
      ∙ section-last _ _ _ _ _ c.lay_section-c.ensures.0 c.if-sheet-gt-MOST-3.true),
)

pub returns : goal.returns
unfolding numbers_of
returns c = (
  omega arith,
  sym (section-goes-on _ _ [] _ _ c.lay_section-a.ensures.0 c.if-sheet-gt-MOST.false
      ∙ section-goes-on _ _ _ _ _ c.lay_section-b.ensures.0 c.if-sheet-gt-MOST-2.false
      ∙ number-goes-on _ _ _ _ (take_more_set c.lay_section-b.new.numbers c.lay_section-b.result c.args.sheet.individuals (omega arith))
      ∙ section-goes-on _ _ _ _ _ c.lay_section-c.ensures.0 c.if-sheet-gt-MOST-3.false
      ∙ sym c.lay_section.ensures.0),
)
