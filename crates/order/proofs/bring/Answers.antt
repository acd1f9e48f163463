-- `order::bring`: the seed is found among the records; if not yet in front, it changes places with the first behind the front.
use Rattle.std.proofs.Common.{◌≡◌, ◌<◌, refl, sym, ap, ◌∙◌, arith, rules, lt-ltb}
use Rattle.tableau.specs.Records.{word_of, found_at}
use Rattle.tableau.specs.Records as records
use Rattle.tableau.proofs.Buffers.{found_some-is, found-some}
use Rattle.std.specs.Option.{is_some}
use Rattle.order.proofs.Orders.{brought-as, bring-found, bring-there, bring-new}
use Rattle.order.proofs.bring.Goals as goal
use Rattle.order.proofs.bring.Goals.{After-find, After-unwrap-at}

fits : (c : After-find) → c.args.l.holding < 4294967296
fits c = search rules

inside : (c : After-find) → found_at c.args.records.now c.args.used (word_of c.args.l) < c.args.used
inside c = bring-found c.args.used c.args.records.now c.args.marks.now c.requires.lent c.args.front c.requires.front_le_used c.args.l (fits c) c.requires.l

found : (c : After-find) → c.find.result ≡ records.found c.args.records.now c.args.used (word_of c.args.l)
found c = c.find.ensures ∙ ap (records.found c.args.records.now c.args.used) c.word_of.ensures

-- where it is
place : (c : After-unwrap-at) → found_at c.args.records.now c.args.used (word_of c.args.l) ≡ c.unwrap-at.result
place c =
    (found-some c.args.records.now (word_of c.args.l) c.args.used c.requires.lent.enough c.unwrap-at.result (sym (found (goal.at.After-unwrap-at c).After-find) ∙ c.unwrap-at.ensures)).0

pub unwrap-at-requires : goal.unwrap-at-requires
unwrap-at-requires c =
    ap is_some (found c) ∙ found_some-is c.args.records.now (word_of c.args.l) c.args.used c.requires.lent.enough ∙ lt-ltb _ _ (inside c)

pub swap-requires : goal.swap-requires
swap-requires c =
    let h = inside (goal.at.swap-requires c).After-find in
    let e = place (goal.at.swap-requires c).After-unwrap-at in
    record { a_in_bounds = omega (arith, c.requires.lent.enough); b_in_bounds = omega (arith, c.requires.lent.enough, c.requires.front_le_used) }

pub returns-then-at-front : goal.returns-then-at-front
returns-then-at-front c =
    bring-there c.args.used c.args.records.now c.args.marks.now c.requires.lent c.args.front c.requires.front_le_used c.args.l (fits (goal.at.returns-then-at-front c).After-find) c.requires.l
    (omega (arith, place (goal.at.returns-then-at-front c).After-unwrap-at))

pub returns : goal.returns
returns c =
    brought-as
    (bring-new c.args.used c.args.records.now c.args.marks.now c.requires.lent c.args.front c.requires.front_le_used c.args.l (fits (goal.at.returns c).After-find) c.requires.l c.unwrap-at.result (place (goal.at.returns c).After-unwrap-at) c.if-at-front.false)
    c.swap.ensures.after c.swap-2.ensures.after refl refl
