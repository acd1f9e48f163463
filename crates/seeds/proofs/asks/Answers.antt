-- All that a label asks for: the some and only lines that have a mark are lines, and no other line asks for anything.
use Rattle.std.specs.Prelude.{List, ℕ}
use Rattle.std.proofs.Common.{◌∙◌, ap, subst}
use Rattle.alc.specs.Lists.{◌∈◌, each}
use Rattle.alc.specs.Seeds.{is_quantified}
use Rattle.plan.specs.Plan.{plan_sheet}
use Rattle.plan.proofs.Walking.{marked-below}
use Rattle.seeds.specs.Asks.{asks_at}
use Rattle.seeds.proofs.Handing.{asks-marked}
use Rattle.seeds.proofs.asks.Goals as goal

pub invariant_of-result : goal.invariant_of-result
invariant_of-result c = record {
  lines = λ i m. marked-below is_quantified (plan_sheet c.args.plan.now) c.args.l i (subst (λ (xs : List ℕ). i ∈ xs) c.asking.ensures m);
}

pub returns : goal.returns
returns c =
    ap (each (asks_at (plan_sheet c.args.plan.now) c.args.l)) c.asking.ensures ∙ asks-marked (plan_sheet c.args.plan.now) c.args.l
