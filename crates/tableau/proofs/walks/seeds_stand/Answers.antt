-- `walks::seeds_stand`: std's test of all asks is the definition's of all seeds.
use Rattle.std.proofs.Common.{◌∙◌, rules, tests}
use Rattle.std.proofs.lemmas.Iterator.Consumers.{YieldsList-from_first}
use Rattle.std.proofs.lemmas.Iterator.Search.{all_from_yields_List}
use Rattle.alc.specs.declared.Ask.{Ask}
use Rattle.alc.specs.Seeds.{asks, among}
use Rattle.plan.specs.Plan.{plan_sheet}
use Rattle.seeds.specs.Left.{asks_left}
use Rattle.tableau.specs.Walks.{standing}
use Rattle.tableau.proofs.Buffers.{all-is}
use Rattle.tableau.proofs.walks.seeds_stand.Goals as goal

pub returns : goal.returns
returns c =
    let A = standing c.args.used c.args.records.now c.args.marks.now in
    let qs = asks (plan_sheet c.args.plan.now) c.args.l in
    all_from_yields_List (λ (q : Ask). among q.seed A) c.all.new.self _ _ c.all.ensures.ran (YieldsList-from_first (λ x. x) asks_left {s = c.asks.result} qs c.asks.ensures) (λ x b q k. search (rules, tests))
    ∙ all-is (λ l. among l A) qs
