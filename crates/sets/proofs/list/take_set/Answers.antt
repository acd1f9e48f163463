-- `list::take_set`: a set one of whose parts forces does so too; any other is judged.
use Rattle.std.specs.Prelude.{ℕ, ◌<◌, ◌≡◌, true, false, not, length, set, Result}
use Rattle.std.proofs.Common.{sym, ◌∙◌, ap, arith}
use Rattle.std.proofs.lemmas.Bool.{not-true, not-false}
use Rattle.std.proofs.lemmas.Result.{err_from_is_err_and}
use Rattle.alc.specs.Causes.{with_rules}
use Rattle.alc.specs.Sheet.{Sheet}
use Rattle.alc.proofs.Theorems.Sheet.{WellFormed, well-formed}
use Rattle.plan.specs.Plan.{plan_sheet}
use Rattle.plan.proofs.Lines.{rules-fit}
use Rattle.tableau.specs.declared.records.Full.{Full}
use Rattle.sets.specs.declared.list.Cause.{Cause}
use Rattle.sets.specs.Sets.{contradicted_by, marked_by, as_cause, TakenTo}
use Rattle.sets.proofs.Listing.{few-sets, alone, parts-told, take_part, take-full, take-yes, take_no}
use Rattle.sets.proofs.list.take_set.Goals as goal
use Rattle.sets.proofs.list.take_set.Goals.{Start, After-part_forces, Then-forced}

abbrev sheet : (c : Start) → Sheet
sheet c = plan_sheet c.args.query.now.plan.now

-- the set has a flag
has-flag : (c : Start) → c.args.set < 4096
has-flag c = omega (arith, few-sets _ (rules-fit c.args.query.now.plan.now), c.requires.is_set)

within : (c : Start) → c.args.set < length c.args.flags.now
within c = omega (arith, has-flag c, c.told-flags)

well : (c : Start) → WellFormed (sheet c)
well c = well-formed (sheet c) c.args.query.now.plan.now.prepared.well

part-told : (c : After-part_forces) → c.part_forces.result ≡ not (alone (plan_sheet c.args.query.now.plan.now) c.args.query.now.port c.args.query.now.class c.args.set)
part-told c =
    let q = c.args.query.now in
    c.part_forces.ensures
    ∙ parts-told (plan_sheet q.plan.now) q.port q.class (well-formed (plan_sheet q.plan.now) q.plan.now.prepared.well) q.on_sheet c.args.set (rules-fit q.plan.now) c.requires.is_set c.args.flags.now c.requires.flagged

none-forces : (c : After-part_forces) → c.part_forces.result ≡ false → alone (plan_sheet c.args.query.now.plan.now) c.args.query.now.port c.args.query.now.class c.args.set ≡ true
none-forces c e = not-false _ (sym (part-told c) ∙ e)

-- it forces, and is judged a second time
cause : (c : Then-forced) → alone (plan_sheet c.args.query.now.plan.now) c.args.query.now.port c.args.query.now.class c.args.set ≡ true
    → c.args.set < length c.args.flags.now → {r : Result Cause Full} → r ≡ marked_by (contradicted_by (with_rules (plan_sheet c.args.query.now.plan.now) c.args.set) (length c.forces.new.records))
    → TakenTo (plan_sheet c.args.query.now.plan.now) c.args.query.now.port c.args.query.now.class (length c.args.records.now) c.args.set (as_cause r) (set c.args.flags.now c.args.set c.in_ok-forced.forced)
cause c e b m =
    let q = c.args.query.now in
    rw c.if-forced.true
    (take-yes (plan_sheet q.plan.now) q.port q.class (length c.args.records.now) c.args.set c.args.flags.now c.requires.flagged b e
    (rw (← c.if-forced.true) c.in_ok-forced.ensures)
    (m ∙ ap (λ (k : ℕ). marked_by (contradicted_by (with_rules (plan_sheet q.plan.now) c.args.set) k)) c.forces.auto.records))

pub part_forces-requires : goal.part_forces-requires
part_forces-requires c = has-flag (goal.at.part_forces-requires c).Start

pub bounds-flags-set : goal.bounds-flags-set
bounds-flags-set c = has-flag (goal.at.bounds-flags-set c).Start

pub bounds-flags-set-2 : goal.bounds-flags-set-2
bounds-flags-set-2 c = has-flag (goal.at.bounds-flags-set-2 c).Start

pub returns-then-part_forces : goal.returns-then-part_forces
returns-then-part_forces c =
    let q = c.args.query.now in
    let at = (goal.at.returns-then-part_forces c).Start in
    take_part (plan_sheet q.plan.now) q.port q.class (length c.args.records.now) c.args.set c.args.flags.now c.requires.flagged (within at) (well at) q.on_sheet
    (not-true _ (sym (part-told (goal.at.returns-then-part_forces c).After-part_forces) ∙ c.if-part_forces.true))

pub returns-in_err-forced : goal.returns-in_err-forced
returns-in_err-forced c =
    let q = c.args.query.now in
    let at = goal.at.returns-in_err-forced c in
    let p = err_from_is_err_and c.from_residual.result c.from_residual.ensures.1 in
    rw (p.1, p.2)
    (take-full (plan_sheet q.plan.now) q.port q.class (length c.args.records.now) c.args.set c.args.flags.now c.requires.flagged (within at.Start)
    (none-forces at.After-part_forces c.if-part_forces.false) c.in_err-forced.ensures)

pub returns-in_err-mark_set : goal.returns-in_err-mark_set
returns-in_err-mark_set c =
    let at = goal.at.returns-in_err-mark_set c in
    let p = err_from_is_err_and c.from_residual-in_err-mark_set.result c.from_residual-in_err-mark_set.ensures.1 in
    rw (p.1, p.2) (cause at.Then-forced (none-forces at.After-part_forces c.if-part_forces.false) (within at.Start) c.in_err-mark_set.ensures)

pub returns-in_ok-mark_set : goal.returns-in_ok-mark_set
returns-in_ok-mark_set c =
    let at = goal.at.returns-in_ok-mark_set c in
    cause at.Then-forced (none-forces at.After-part_forces c.if-part_forces.false) (within at.Start) c.in_ok-mark_set.ensures

pub returns-else-forced : goal.returns-else-forced
returns-else-forced c =
    let q = c.args.query.now in
    let at = goal.at.returns-else-forced c in
    rw c.if-forced.false
    (take_no (plan_sheet q.plan.now) q.port q.class (length c.args.records.now) c.args.set c.args.flags.now c.requires.flagged (within at.Start)
    (none-forces at.After-part_forces c.if-part_forces.false) (rw (← c.if-forced.false) c.in_ok-forced.ensures))
