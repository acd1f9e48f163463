-- `order::order`: what is left to reach is the whole.
use Prim.Native.Nat.{◌+◌, ◌<◌}
use mathlib.Core.Path.{◌≡◌, refl, sym, ◌∙◌, ap, subst}
use mathlib.Core.List.Memᴰ
use lib.ListN.{length, get_or}
use native.Mathlib.Omega.{arith}
use Rattle.alc.specs.Lists.{◌∈◌}
use Rattle.alc.specs.declared.Label.{Label}
use Rattle.alc.specs.Seeds.{include_all, seeds}
use Rattle.alc.specs.Model.{chosen}
use Rattle.alc.proofs.Theorems.Sheet.{well-formed}
use Rattle.plan.specs.Plan.{plan_sheet}
use Rattle.tableau.specs.Records.{label_of, recorded}
use Rattle.tableau.specs.Joints.{joint_of}
use Rattle.edges.specs.Keys.{SeedsIn}
use Rattle.order.specs.Sound.{Sound}
use Rattle.order.proofs.Orders.{bringing, bringing-on, bringing-done, shuffled-more, sound-shuffled, chosen-recorded, walk_onward, walk_start, walk_end, walk-in, walk_turn}
use Rattle.order.proofs.order.Goals as goal
use Rattle.order.proofs.order.Goals.{After-chosen-k, At-loop-i, In-loop-i}

sound : (m : At-loop-i) → Sound (plan_sheet m.args.plan.now) m.args.used m.loop-i.records m.loop-i.marks
sound m = sound-shuffled m.loop-i.invariant.shuffled (sound-shuffled m.bring_joint-front.ensures.0 m.requires.sound)

abbrev seed : (c : In-loop-i) → Label
seed c = label_of (get_or c.loop-i.records c.loop-i.i 0)

seed-in : (c : In-loop-i) → seed c ∈ recorded c.args.used c.loop-i.records
seed-in c =
    let right = sound-shuffled c.loop-i.invariant.shuffled (sound-shuffled c.bring_joint-front.ensures.0 c.requires.sound) in
    walk-in (plan_sheet c.args.plan.now) c.args.used c.loop-i.records c.loop-i.marks right c.loop-i.front c.loop-i.invariant.within c.loop-i.i c.loop-i-test.true

place_inside : (c : In-loop-i) → c.loop-i.i < length c.loop-i.records
place_inside c = omega (arith, c.loop-i.invariant.within, c.loop-i.invariant.shuffled.lent.enough)

pub bring_joint-front-requires : goal.bring_joint-front-requires
bring_joint-front-requires c = record { lent = c.requires.sound.lent; seeds_in = c.requires.seeds_in }

pub loop-i-init : goal.loop-i-init
loop-i-init c = bringing _ c.bring_joint-front.ensures.0.lent c.bring_joint-front.ensures.1 refl

pub offset_bounds-records-i : goal.offset_bounds-records-i
offset_bounds-records-i c = omega (arith, place_inside c)

pub bounds-records-i : goal.bounds-records-i
bounds-records-i c = place_inside (goal.at.bounds-records-i c).In-loop-i

pub chosen-k-requires : goal.chosen-k-requires
chosen-k-requires c = record { sound = sound (goal.at.chosen-k-requires c).At-loop-i; seed = Memᴰ.cast c.label_of.ensures (seed-in (goal.at.chosen-k-requires c).In-loop-i) }

is-chosen : (c : After-chosen-k) → c.chosen-k.result ≡ chosen (plan_sheet c.args.plan.now) (label_of (get_or c.loop-i.records c.loop-i.i 0))
is-chosen c = c.chosen-k.ensures ∙ ap (chosen (plan_sheet c.args.plan.now)) c.label_of.ensures

pub bring_seeds-front-requires : goal.bring_seeds-front-requires
bring_seeds-front-requires c =
    let s = plan_sheet c.args.plan.now in
    let right = sound (goal.at.bring_seeds-front-requires c).At-loop-i in
    let turn = (goal.at.bring_seeds-front-requires c).In-loop-i in
    record {
      lent = right.lent;
      start_le_used = c.loop-i.invariant.within;
      seeds_in =
          subst (λ (k : Label). SeedsIn s k (recorded c.args.used c.loop-i.records)) (sym (is-chosen (goal.at.bring_seeds-front-requires c).After-chosen-k))
          (chosen-recorded s c.args.used c.loop-i.records c.loop-i.marks right (seed turn) (seed-in turn) (well-formed s c.args.plan.now.prepared.well));
    }

pub overflow_add-i : goal.overflow_add-i
overflow_add-i c = omega (arith, c.loop-i.invariant.within)

pub loop-i-smaller : goal.loop-i-smaller
loop-i-smaller c = omega (arith, c.loop-i.invariant.within)

pub loop-i-preserved : goal.loop-i-preserved
loop-i-preserved c =
    let s = plan_sheet c.args.plan.now in
    let right = sound (goal.at.loop-i-preserved c).At-loop-i in
    bringing-on c.loop-i.invariant (walk_onward s (c.loop-i.i + 1)) c.bring_seeds-front.ensures
    (ap (λ (k : Label). walk_onward s (c.loop-i.i + 1) (include_all (recorded c.loop-i.front c.loop-i.records) (seeds s k))) (is-chosen (goal.at.loop-i-preserved c).After-chosen-k)
    ∙ walk_turn s c.args.used c.loop-i.records c.loop-i.marks right c.loop-i.front c.loop-i.invariant.within c.loop-i.i c.loop-i-test.true)

pub shape_of-records : goal.shape_of-records
shape_of-records c = c.loop-i.invariant.shuffled.size ∙ c.bring_joint-front.ensures.0.size

pub shape_of-marks : goal.shape_of-marks
shape_of-marks c = c.loop-i.invariant.shuffled.marked ∙ c.bring_joint-front.ensures.0.marked

pub returns : goal.returns
returns c =
    let s = plan_sheet c.args.plan.now in
    let right = sound (goal.at.returns c).At-loop-i in
    let f = bringing-done c.loop-i.invariant (walk_end s c.args.used c.loop-i.records c.loop-i.marks right c.loop-i.front c.loop-i.invariant.within c.loop-i.i c.loop-i-test.false) in
    (shuffled-more c.bring_joint-front.ensures.0 f.0, f.1, f.2 ∙ ap (walk_onward s 0) c.bring_joint-front.ensures.2 ∙ walk_start s (joint_of c.args.j))
