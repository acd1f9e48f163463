-- `records::include_label`: the word is found, or written behind the records, or there is no room.
use Rattle.std.proofs.Common.{◌≡◌, ◌<◌, ltb, ap, ◌∙◌, arith, rules, ltb-true, ltb-false, sym}
use Rattle.std.specs.Option.{is_some}
use Rattle.tableau.specs.Records.{word_of, found_at, found}
use Rattle.tableau.proofs.Buffers.{found_some-is, grown-found, grown-new, grown-over}
use Rattle.tableau.proofs.records.include_label.Goals as goal
use Rattle.tableau.proofs.records.include_label.Goals.{After-is_some}

fits : (c : After-is_some) → c.args.l.holding < 4294967296
fits c = search rules

looked : (c : After-is_some) → c.is_some.result ≡ ltb (found_at c.args.records.now c.args.used (word_of c.args.l)) c.args.used
looked c =
    c.is_some.ensures ∙ ap is_some (c.find.ensures ∙ ap (found c.args.records.now c.args.used) c.word_of-word.ensures)
    ∙ found_some-is c.args.records.now (word_of c.args.l) c.args.used c.requires

pub returns-then-is_some : goal.returns-then-is_some
returns-then-is_some c =
    grown-found c.args.used c.args.records.now c.requires c.args.l (fits (goal.at.returns-then-is_some c).After-is_some) (ltb-true _ _ (sym (looked (goal.at.returns-then-is_some c).After-is_some) ∙ c.if-is_some.true))

pub returns-then-used-records : goal.returns-then-used-records
returns-then-used-records c =
    grown-over c.args.used c.args.records.now c.requires c.args.l (fits (goal.at.returns-then-used-records c).After-is_some) (ltb-false _ _ (sym (looked (goal.at.returns-then-used-records c).After-is_some) ∙ c.if-is_some.false)) (omega (arith, c.if-used-records.true)) _

pub returns : goal.returns
returns c =
    rw c.word_of-word.ensures
    (grown-new c.args.used c.args.records.now c.requires c.args.l (fits (goal.at.returns c).After-is_some) (ltb-false _ _ (sym (looked (goal.at.returns c).After-is_some) ∙ c.if-is_some.false)) (omega (arith, c.requires, c.if-used-records.false)))
