-- `walks::pick`: none, the label itself where it passes, what the label that follows has, or what the first branch has, or else the second.
use Rattle.std.proofs.Common.{◌≡◌, ℕ, Bool, sym, ap, ◌∙◌}
use Rattle.std.specs.Bool.{then_some}
use Rattle.std.specs.Prelude.{Some as just}
use Rattle.steps.specs.declared.step.Choice.TheVariants.{Every, Either}
use Rattle.steps.specs.Choice.{choice}
use Rattle.plan.specs.Plan.{plan_sheet}
use Rattle.steps.proofs.Firsts.{or-found}
use Rattle.tableau.proofs.Expand.{clash-expands, chosen-fresh, every-falls, first-falls, second-falls, chosen-picked}
use Rattle.tableau.proofs.walks.+pick.Goals as goal
use Rattle.tableau.proofs.walks.+pick.Goals.{In-Some-Every, In-Some-Either}

-- the choice that was made, and that the label does not clash
every : (t : ℕ) (c : In-Some-Every t) → just (Every c.in-Some-Every.more) ≡ choice (plan_sheet c.args.plan.now) c.args.l
every t c = ap just (sym c.in-Some-Every.field-0-is) ∙ sym c.in-Some-Every.is ∙ c.next_choice.ensures

either : (t : ℕ) (c : In-Some-Either t) → just (Either c.in-Some-Either.m c.in-Some-Either.n) ≡ choice (plan_sheet c.args.plan.now) c.args.l
either t c = ap just (sym c.in-Some-Either.field-0-is) ∙ sym c.in-Some-Either.is ∙ c.next_choice.ensures

pub returns-then-clash_test : goal.returns-then-clash_test
returns-then-clash_test t c =
    rw (clash-expands (plan_sheet c.args.plan.now) c.args.l (sym c.clash_test.ensures.1 ∙ c.if-clash_test.true))

pub pick-requires : goal.pick-requires
pick-requires t c = (every-falls c.args.plan.now t c.args.l c.decreases _ (every t (goal.at.pick-requires t c).In-Some-Every) c.join.ensures, c.requires)

pub add-requires : goal.add-requires
add-requires t c = (chosen-fresh c.args.plan.now c.args.l _ (either t c)).0.0

pub returns-in-None : goal.returns-in-None
returns-in-None t c =
    c.then_some.ensures ∙ ap (λ (b : Bool). then_some b c.args.l) c.seeds_stand.ensures
    ∙ sym (chosen-picked c.args.plan.now c.args.l _ (sym c.in-None.is ∙ c.next_choice.ensures) (sym c.clash_test.ensures.1 ∙ c.if-clash_test.false) _)

pub returns-in-Some-Every : goal.returns-in-Some-Every
returns-in-Some-Every t c =
    rw (chosen-picked c.args.plan.now c.args.l _ (every t (goal.at.returns-in-Some-Every t c).In-Some-Every) (sym c.clash_test.ensures.1 ∙ c.if-clash_test.false) _, ← c.join.ensures) c.pick.ensures

pub pick-requires-in-Some-Either : goal.pick-requires-in-Some-Either
pick-requires-in-Some-Either t c =
    (first-falls c.args.plan.now t c.args.l c.decreases _ (either t (goal.at.pick-requires-in-Some-Either t c).In-Some-Either) c.add.ensures, c.requires)

pub add-requires-in-None-pick : goal.add-requires-in-None-pick
add-requires-in-None-pick t c = (chosen-fresh c.args.plan.now c.args.l _ (either t (goal.at.add-requires-in-None-pick t c).In-Some-Either)).1.0

pub pick-requires-in-None-pick : goal.pick-requires-in-None-pick
pick-requires-in-None-pick t c =
    (second-falls c.args.plan.now t c.args.l c.decreases _ (either t (goal.at.pick-requires-in-None-pick t c).In-Some-Either) c.add-in-None-pick.ensures, c.requires)

pub returns-in-None-pick : goal.returns-in-None-pick
returns-in-None-pick t c =
    rw (
      chosen-picked c.args.plan.now c.args.l _ (either t (goal.at.returns-in-None-pick t c).In-Some-Either) (sym c.clash_test.ensures.1 ∙ c.if-clash_test.false) _,
      ← c.add.ensures,
      ← c.in-None-pick.ensures,
      ← c.add-in-None-pick.ensures,
    ) c.pick-in-None-pick.ensures

pub returns-in_default : goal.returns-in_default
returns-in_default t c =
    rw (chosen-picked c.args.plan.now c.args.l _ (either t (goal.at.returns-in_default t c).In-Some-Either) (sym c.clash_test.ensures.1 ∙ c.if-clash_test.false) _, ← c.add.ensures)
    (c.pick-in-Some-Either.ensures ∙ sym (or-found _ _ (λ e. c.in_default.not-None (c.pick-in-Some-Either.ensures ∙ e))))
