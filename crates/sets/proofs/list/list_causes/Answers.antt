-- `list::list_causes`: the list has the causes among the sets that were taken.
use Rattle.std.specs.Prelude.{ℕ, ◌≤◌, ◌<◌, ◌≡◌, refl, ◌*◌, ◌%◌, ◌^◌, length, Ok}
use Rattle.std.specs.Prelude.{Option as Maybe}
use Rattle.std.proofs.Common.{◌∙◌, ap, arith}
use Rattle.std.proofs.lemmas.Result.{err_from_is_err_and}
use Rattle.plan.specs.Plan.{plan_sheet}
use Rattle.plan.proofs.Lines.{rules-fit}
use Rattle.sets.specs.declared.list.Cause.{Cause}
use Rattle.sets.specs.Sets.{TakenTo}
use Rattle.sets.proofs.Listing.{one_shifted, few-sets, found-few, all_listed, taken-so, was-full, with-cause, with-other}
use Rattle.sets.proofs.list.list_causes.Goals as goal
use Rattle.sets.proofs.list.list_causes.Goals.{In-loop-set, In_ok-taken, in-Some, in_default}

-- as many sets as the rules have
as_many : (k n : ℕ) → (k ≡ n) × (k ≤ 12) → 1 * 2 ^ k % 4294967296 ≡ 2 ^ n
as_many k n (e, few) = one_shifted k (omega (arith, few)) ∙ ap (λ (m : ℕ). 2 ^ m) e

is_set : (c : In-loop-set) → c.loop-set.set < 2 ^ length (plan_sheet c.args.query.now.plan.now).rules
is_set c = omega (arith, c.loop-set-test.true, as_many _ _ c.rule_count.ensures)

small : (c : In-loop-set) → c.loop-set.set < 4096
small c = omega (arith, is_set c, few-sets _ (rules-fit c.args.query.now.plan.now))

-- what it turned out to be, by the room at entry
taken_as : (c : In_ok-taken) → {r : Maybe Cause} → c.in_ok-taken.taken ≡ r
    → TakenTo (plan_sheet c.args.query.now.plan.now) c.args.query.now.port c.args.query.now.class (length c.args.records.now) c.loop-set.set (Ok r) c.take_set.new.flags
taken_as c e = taken-so c.in_ok-taken.ensures c.loop-set.auto.records (ap Ok e)

pub returns-in_err-taken : goal.returns-in_err-taken
returns-in_err-taken c =
    let p = err_from_is_err_and c.from_residual.result c.from_residual.ensures.1 in
    rw p.1 record {
      listed_to = was-full (plan_sheet c.args.query.now.plan.now) c.args.query.now.port c.args.query.now.class (length c.args.records.now) c.args.list.now c.loop-set.invariant (is_set (goal.at.returns-in_err-taken c).In-loop-set)
          (taken-so c.in_err-taken.ensures c.loop-set.auto.records refl);
    }

pub slot_of-requires : goal.slot_of-requires
slot_of-requires c = small (goal.at.slot_of-requires c).In-loop-set

pub overflow_add-found : goal.overflow_add-found
overflow_add-found c = omega (arith, small (goal.at.overflow_add-found c).In-loop-set, found-few _ _ _ _ _ c.loop-set.invariant)

pub loop-set-preserved : goal.loop-set-preserved
loop-set-preserved c =
    let at = goal.at.loop-set-preserved c in
    let s = plan_sheet c.args.query.now.plan.now in
    elim c.match-taken.branch [
      | in-Some w ↦ rw (w.list-is, w.found-is, w.put_slot.ensures, w.slot_of.ensures) (with-cause s c.args.query.now.port c.args.query.now.class (length c.args.records.now) c.args.list.now c.loop-set.invariant (is_set at.In-loop-set) w.in-Some.cause (taken_as at.In_ok-taken w.in-Some.is))
      | in_default w ↦ rw (w.list-is, w.found-is) (with-other s c.args.query.now.port c.args.query.now.class (length c.args.records.now) c.args.list.now c.loop-set.invariant (is_set at.In-loop-set) (taken_as at.In_ok-taken w.in_default.is))
    ]

pub returns : goal.returns
returns c = record { listed_to = all_listed (plan_sheet c.args.query.now.plan.now) c.args.query.now.port c.args.query.now.class (length c.args.records.now) c.args.list.now c.loop-set.invariant (omega (arith, c.loop-set-test.false, as_many _ _ c.rule_count.ensures)) }
