-- What is left to include is the whole.
use Rattle.std.proofs.Common.{List, map, refl, ap, ◌∙◌}
use Rattle.alc.specs.declared.Ask.{Ask}
use Rattle.alc.specs.declared.Label.{Label}
use Rattle.alc.specs.Seeds.{include_all}
use Rattle.seeds.specs.Left.{asks_left}
use Rattle.tableau.specs.Records.{recorded}
use Rattle.tableau.proofs.Buffers.{grown-err, included, include-on, include-full}
use Rattle.tableau.proofs.walks.include_seeds.Goals as goal

abbrev seeds_of : List Ask → List Label
seeds_of qs = map (λ (q : Ask). q.seed) qs

pub loop-ask-init : goal.loop-ask-init
loop-ask-init c = record {
  size = refl;
  fits = c.requires;
  rest = ap (λ (qs : List Ask). include_all (recorded c.args.start c.args.records.now) (seeds_of qs)) (ap asks_left c.into_iter-ask-iterator.ensures.into_iter_gives ∙ c.asks-ask-items.ensures);
}

pub include_label-requires : goal.include_label-requires
include_label-requires c = c.loop-ask.invariant.fits

pub returns-in_err-used : goal.returns-in_err-used
returns-in_err-used c =
    grown-err _ _ _ _ _ c.from_residual.ensures.0 (include-full c.loop-ask.invariant (ap seeds_of c.in-Some.ensures.steps) _ c.in_err-used.field-0.0 c.in_err-used.ensures)

pub loop-ask-preserved : goal.loop-ask-preserved
loop-ask-preserved c = include-on c.loop-ask.invariant (ap seeds_of c.in-Some.ensures.steps) _ _ c.in_ok-used.ensures

pub returns : goal.returns
returns c = included c.loop-ask.invariant (ap seeds_of c.in-None.ensures.steps.0)
