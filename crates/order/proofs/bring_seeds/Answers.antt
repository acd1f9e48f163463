-- `order::bring_seeds`: what is left to bring is the whole.
use Rattle.std.proofs.Common.{ap, ◌∙◌}
use Rattle.plan.specs.Plan.{plan_sheet}
use Rattle.seeds.specs.Left.{asks_left}
use Rattle.order.proofs.Orders.{seeds-start, seed-in, seeds-on, seeds-done}
use Rattle.order.proofs.bring_seeds.Goals as goal

pub loop-ask-init : goal.loop-ask-init
loop-ask-init c =
    seeds-start (plan_sheet c.args.plan.now) c.args.l _ (ap asks_left c.into_iter-ask-iterator.ensures.into_iter_gives ∙ c.asks-ask-items.ensures) c.args.used c.args.start c.args.records.now c.args.marks.now
    c.requires.lent c.requires.start_le_used c.requires.seeds_in

pub bring-front-requires : goal.bring-front-requires
bring-front-requires c =
    record {
      lent = c.loop-ask.invariant.loop.shuffled.lent;
      front_le_used = c.loop-ask.invariant.loop.within;
      l = seed-in c.loop-ask.invariant _ _ c.in-Some.ensures.steps;
    }

pub loop-ask-preserved : goal.loop-ask-preserved
loop-ask-preserved c = seeds-on c.loop-ask.invariant _ _ c.in-Some.ensures.steps c.bring-front.ensures

pub shape_of-records : goal.shape_of-records
shape_of-records c = c.loop-ask.invariant.loop.shuffled.size

pub shape_of-marks : goal.shape_of-marks
shape_of-marks c = c.loop-ask.invariant.loop.shuffled.marked

pub returns : goal.returns
returns c = seeds-done c.loop-ask.invariant c.in-None.ensures.steps.0
