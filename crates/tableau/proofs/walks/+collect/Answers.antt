-- `walks::collect`: no seeds, those of the label itself, those of the label that follows, or those of both branches, one's after the other's.
use Rattle.std.proofs.Common.{◌≡◌, ℕ, false, List, sym, ap, ◌∙◌}
use Rattle.std.specs.Prelude.{Some as just}
use Rattle.alc.specs.declared.Label.{Label}
use Rattle.alc.specs.declared.Mark.{Mark}
use Rattle.alc.specs.Label.{add, clashes}
use Rattle.alc.specs.Seeds.{successors, include_all}
use Rattle.alc.proofs.Theorems.Reach.{include_all-append}
use Rattle.steps.specs.declared.step.Choice.TheVariants.{Every, Either}
use Rattle.steps.specs.Choice.{choice}
use Rattle.plan.specs.declared.Plan.{Plan}
use Rattle.plan.specs.Plan.{plan_sheet}
use Rattle.tableau.proofs.Buffers.{grown-none, grown-full, grown-err, grown-more}
use Rattle.tableau.proofs.Expand.{clash-expands, chosen-fresh, every-falls, first-falls, second-falls, chosen-successors, successors-none}
use Rattle.tableau.proofs.walks.+collect.Goals as goal
use Rattle.tableau.proofs.walks.+collect.Goals.{In-Some-Every, In-Some-Either}

-- both branches' seeds are included, one's after the other's
both : (p : Plan) (l : Label) (m n : Mark) → just (Either m n) ≡ choice (plan_sheet p) l → clashes (plan_sheet p) l ≡ false → (K : List Label)
    → include_all K (successors (plan_sheet p) l) ≡ include_all (include_all K (successors (plan_sheet p) (add l m))) (successors (plan_sheet p) (add l n))
both p l m n chosen calm K =
    ap (include_all K) (chosen-successors p l (just (Either m n)) chosen calm) ∙ include_all-append K (successors (plan_sheet p) (add l m)) (successors (plan_sheet p) (add l n))

-- the choice that was made, and that the label does not clash
every : (t : ℕ) (c : In-Some-Every t) → just (Every c.in-Some-Every.marks) ≡ choice (plan_sheet c.args.plan.now) c.args.l
every t c = ap just (sym c.in-Some-Every.field-0-is) ∙ sym c.in-Some-Every.is ∙ c.next_choice.ensures

either : (t : ℕ) (c : In-Some-Either t) → just (Either c.in-Some-Either.m c.in-Some-Either.n) ≡ choice (plan_sheet c.args.plan.now) c.args.l
either t c = ap just (sym c.in-Some-Either.field-0-is) ∙ sym c.in-Some-Either.is ∙ c.next_choice.ensures

pub returns-then-clash_test : goal.returns-then-clash_test
returns-then-clash_test t c =
    rw (successors-none (plan_sheet c.args.plan.now) c.args.l (clash-expands (plan_sheet c.args.plan.now) c.args.l (sym c.clash_test.ensures.1 ∙ c.if-clash_test.true)))
    (grown-none c.args.used c.args.records.now c.requires)

pub collect-requires : goal.collect-requires
collect-requires t c = (every-falls c.args.plan.now t c.args.l c.decreases _ (every t (goal.at.collect-requires t c).In-Some-Every) c.join.ensures, c.requires)

pub add-requires : goal.add-requires
add-requires t c = (chosen-fresh c.args.plan.now c.args.l _ (either t c)).0.0

pub collect-requires-in-Some-Either : goal.collect-requires-in-Some-Either
collect-requires-in-Some-Either t c = (first-falls c.args.plan.now t c.args.l c.decreases _ (either t (goal.at.collect-requires-in-Some-Either t c).In-Some-Either) c.add.ensures, c.requires)

pub add-requires-in-Some-Either : goal.add-requires-in-Some-Either
add-requires-in-Some-Either t c = (chosen-fresh c.args.plan.now c.args.l _ (either t (goal.at.add-requires-in-Some-Either t c).In-Some-Either)).1.0

pub collect-requires-in-Some-Either-2 : goal.collect-requires-in-Some-Either-2
collect-requires-in-Some-Either-2 t c = (
  second-falls c.args.plan.now t c.args.l c.decreases _ (either t (goal.at.collect-requires-in-Some-Either-2 t c).In-Some-Either) c.add-in-Some-Either.ensures,
  c.in_ok-now_used-in-Some-Either.ensures.holds.1,
)

pub returns-in_err-now_used-in-Some-Either : goal.returns-in_err-now_used-in-Some-Either
returns-in_err-now_used-in-Some-Either t c =
    rw (both c.args.plan.now c.args.l c.in-Some-Either.m c.in-Some-Either.n (either t (goal.at.returns-in_err-now_used-in-Some-Either t c).In-Some-Either) (sym c.clash_test.ensures.1 ∙ c.if-clash_test.false) _, ← c.add.ensures)
    (grown-err _ _ _ _ _ c.from_residual.ensures.0
    (grown-full _ (successors (plan_sheet c.args.plan.now) (add c.args.l c.in-Some-Either.n)) _ _ c.in_err-now_used-in-Some-Either.field-0.0 c.in_err-now_used-in-Some-Either.ensures))

pub returns-in_ok-now_used-in-Some-Either : goal.returns-in_ok-now_used-in-Some-Either
returns-in_ok-now_used-in-Some-Either t c =
    rw (both c.args.plan.now c.args.l c.in-Some-Either.m c.in-Some-Either.n (either t (goal.at.returns-in_ok-now_used-in-Some-Either t c).In-Some-Either) (sym c.clash_test.ensures.1 ∙ c.if-clash_test.false) _, ← c.add.ensures, ← c.add-in-Some-Either.ensures)
    (grown-more _ (successors (plan_sheet c.args.plan.now) c.add-in-Some-Either.result) c.in_ok-now_used-in-Some-Either.now_used _ _ _ _ c.in_ok-now_used-in-Some-Either.ensures c.collect-in-Some-Either-2.ensures)

pub returns-in-None : goal.returns-in-None
returns-in-None t c =
    rw (chosen-successors c.args.plan.now c.args.l _ (sym c.in-None.is ∙ c.next_choice.ensures) (sym c.clash_test.ensures.1 ∙ c.if-clash_test.false)) c.include_seeds.ensures

pub returns-in-Some-Every : goal.returns-in-Some-Every
returns-in-Some-Every t c =
    rw (chosen-successors c.args.plan.now c.args.l _ (every t (goal.at.returns-in-Some-Every t c).In-Some-Every) (sym c.clash_test.ensures.1 ∙ c.if-clash_test.false), ← c.join.ensures) c.collect.ensures
