-- `order::label_at`: an individual's label, or the chosen expansion of the record that many places on.
use Rattle.std.proofs.Common.{◌≡◌, ◌-◌, length, sym, ◌∙◌, ap, arith}
use Rattle.std.proofs.Math.Seq.{length-take-le}
use mathlib.Core.List.Memᴰ
use Rattle.alc.specs.Model.{chosen}
use Rattle.plan.specs.Plan.{plan_sheet}
use Rattle.tableau.specs.Records.{recorded}
use Rattle.tableau.specs.Joints.{joint_of}
use Rattle.engine.proofs.Ledgers.{recorded-at}
use Rattle.order.proofs.Orders.{label-individual, label-seed, walk-in}
use Rattle.order.proofs.label_at.Goals as goal
use Rattle.order.proofs.label_at.Goals.{Start}

long : (b : Start) → length (joint_of b.args.j) ≡ b.args.j.count
long b = length-take-le b.args.j.count b.args.j.labels (omega (arith, b.args.j.small))

pub returns-then-x-j : goal.returns-then-x-j
returns-then-x-j c =
    c.label.ensures
    ∙ label-individual (joint_of c.args.j) (recorded c.args.used c.args.records.now) (chosen (plan_sheet c.args.plan.now)) c.args.x (omega (arith, long (goal.at.returns-then-x-j c).Start))

pub chosen-requires : goal.chosen-requires
chosen-requires c =
    record {
      sound = c.requires.sound;
      seed =
          Memᴰ.cast c.label_of.ensures
          (walk-in (plan_sheet c.args.plan.now) c.args.used c.args.records.now c.args.marks.now c.requires.sound c.args.used (omega arith) (c.args.x - c.args.j.count) (omega (arith, c.requires.x_bound)));
    }

pub returns : goal.returns
returns c =
    let ch = chosen (plan_sheet c.args.plan.now) in
    c.chosen.ensures
    ∙ ap ch (c.label_of.ensures ∙ sym (recorded-at c.args.used c.args.records.now (c.args.x - c.args.j.count) (omega (arith, c.requires.x_bound, c.if-x-j.false))))
    ∙ label-seed (joint_of c.args.j) (recorded c.args.used c.args.records.now) ch c.args.x c.args.j.count (sym (long (goal.at.returns c).Start)) c.if-x-j.false
