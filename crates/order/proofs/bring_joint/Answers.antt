-- `order::bring_joint`: what is left to bring is the whole.
use Rattle.std.proofs.Common.{◌+◌, [], refl, sym, ap, subst, get_or, arith}
use Rattle.alc.specs.Lists.{◌∈◌, each}
use Rattle.alc.specs.Label.{blank}
use Rattle.alc.specs.Settle.{Joint}
use Rattle.alc.specs.Seeds.{include_all, seeds}
use Rattle.alc.proofs.Theorems.Lists.{get_or-in}
use Rattle.plan.specs.Plan.{plan_sheet}
use Rattle.tableau.specs.Records.{recorded}
use Rattle.order.proofs.Orders.{brought-as, bringing, bringing-on, bringing-done, still-in, joint_onward, joint-end, joint-turn}
use Rattle.order.proofs.bring_joint.Goals as goal

pub loop-l-init : goal.loop-l-init
loop-l-init c = bringing 0 c.requires.lent (omega arith) refl

pub bring_seeds-front-requires : goal.bring_seeds-front-requires
bring_seeds-front-requires c =
    let items = c.as_slice-l-items.result.now in
    record {
      lent = c.loop-l.invariant.shuffled.lent;
      start_le_used = c.loop-l.invariant.within;
      seeds_in = λ q i. still-in c.loop-l.invariant q
          (c.requires.seeds_in (get_or items c.loop-l.l-index blank) (subst (λ (K : Joint). get_or items c.loop-l.l-index blank ∈ K) c.as_slice-l-items.ensures (get_or-in items c.loop-l.l-index blank c.loop-l-test.true)) q i);
    }

pub loop-l-preserved : goal.loop-l-preserved
loop-l-preserved c =
    let s = plan_sheet c.args.plan.now in
    let items = c.as_slice-l-items.result.now in
    bringing-on c.loop-l.invariant (joint_onward s items (c.loop-l.l-index + 1)) c.bring_seeds-front.ensures (joint-turn s items c.loop-l.l-index (recorded c.loop-l.front c.loop-l.records) c.loop-l-test.true)

pub shape_of-records : goal.shape_of-records
shape_of-records c = c.loop-l.invariant.shuffled.size

pub shape_of-marks : goal.shape_of-marks
shape_of-marks c = c.loop-l.invariant.shuffled.marked

pub returns : goal.returns
returns c =
    let s = plan_sheet c.args.plan.now in
    brought-as (bringing-done c.loop-l.invariant (joint-end s c.as_slice-l-items.result.now c.loop-l.l-index (recorded c.loop-l.front c.loop-l.records) c.loop-l-test.false))
    refl refl refl (ap (λ (K : Joint). include_all [] (each (seeds s) K)) (sym c.as_slice-l-items.ensures))
