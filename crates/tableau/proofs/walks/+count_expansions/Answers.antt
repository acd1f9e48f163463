-- `walks::count_expansions`: no expansion, one, those of the label that follows, or those of both, one count added to the other.
use Rattle.std.proofs.Common.{◌≡◌, ℕ, refl, sym, ap, ◌∙◌}
use Rattle.std.specs.Prelude.{Some as just}
use Rattle.steps.specs.declared.step.Choice.TheVariants.{Every, Either}
use Rattle.steps.specs.Choice.{choice}
use Rattle.plan.specs.Plan.{plan_sheet}
use Rattle.tableau.proofs.Expand.{clash-expands, chosen-fresh, every-falls, first-falls, second-falls, chosen-counted}
use Rattle.tableau.proofs.walks.+count_expansions.Goals as goal
use Rattle.tableau.proofs.walks.+count_expansions.Goals.{In-Some-Every, In-Some-Either}

-- the choice that was made, and that the label does not clash
every : (t : ℕ) (c : In-Some-Every t) → just (Every c.in-Some-Every.marks) ≡ choice (plan_sheet c.args.plan.now) c.args.l
every t c = ap just (sym c.in-Some-Every.field-0-is) ∙ sym c.in-Some-Every.is ∙ c.next_choice.ensures

either : (t : ℕ) (c : In-Some-Either t) → just (Either c.in-Some-Either.m c.in-Some-Either.n) ≡ choice (plan_sheet c.args.plan.now) c.args.l
either t c = ap just (sym c.in-Some-Either.field-0-is) ∙ sym c.in-Some-Either.is ∙ c.next_choice.ensures

pub returns-then-clash_test : goal.returns-then-clash_test
returns-then-clash_test t c =
    rw (clash-expands (plan_sheet c.args.plan.now) c.args.l (sym c.clash_test.ensures.1 ∙ c.if-clash_test.true))

pub count_expansions-requires : goal.count_expansions-requires
count_expansions-requires t c = (every-falls c.args.plan.now t c.args.l c.decreases _ (every t (goal.at.count_expansions-requires t c).In-Some-Every) c.join.ensures, tt)

pub add-requires : goal.add-requires
add-requires t c = (chosen-fresh c.args.plan.now c.args.l _ (either t c)).0.0

pub count_expansions-one-requires : goal.count_expansions-one-requires
count_expansions-one-requires t c = (first-falls c.args.plan.now t c.args.l c.decreases _ (either t (goal.at.count_expansions-one-requires t c).In-Some-Either) c.add.ensures, tt)

pub add-requires-in-Some-Either : goal.add-requires-in-Some-Either
add-requires-in-Some-Either t c = (chosen-fresh c.args.plan.now c.args.l _ (either t (goal.at.add-requires-in-Some-Either t c).In-Some-Either)).1.0

pub count_expansions-requires-in-Some-Either : goal.count_expansions-requires-in-Some-Either
count_expansions-requires-in-Some-Either t c =
    (second-falls c.args.plan.now t c.args.l c.decreases _ (either t (goal.at.count_expansions-requires-in-Some-Either t c).In-Some-Either) c.add-in-Some-Either.ensures, tt)

pub returns-in-None : goal.returns-in-None
returns-in-None t c = sym (chosen-counted c.args.plan.now c.args.l _ (sym c.in-None.is ∙ c.next_choice.ensures) (sym c.clash_test.ensures.1 ∙ c.if-clash_test.false))

pub returns-in-Some-Every : goal.returns-in-Some-Every
returns-in-Some-Every t c =
    rw (chosen-counted c.args.plan.now c.args.l _ (every t (goal.at.returns-in-Some-Every t c).In-Some-Every) (sym c.clash_test.ensures.1 ∙ c.if-clash_test.false), ← c.join.ensures) c.count_expansions.ensures

pub returns-in-Some-Either : goal.returns-in-Some-Either
returns-in-Some-Either t c =
    rw (
      chosen-counted c.args.plan.now c.args.l _ (either t (goal.at.returns-in-Some-Either t c).In-Some-Either) (sym c.clash_test.ensures.1 ∙ c.if-clash_test.false),
      ← c.add-in-Some-Either.ensures,
      ← c.add.ensures,
      ← c.count_expansions-in-Some-Either.ensures,
      ← c.count_expansions-one.ensures,
    ) refl
