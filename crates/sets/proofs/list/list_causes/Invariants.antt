-- `list::list_causes`: the list has the causes among the sets that were taken.
use Rattle.std.specs.Prelude.{length}
use Rattle.plan.specs.Plan.{plan_sheet}
use Rattle.sets.proofs.Listing.{Listing}
use Rattle.sets.proofs.list.list_causes.Given as goal

abbrev pub invariant-loop-set : goal.invariant-loop-set
invariant-loop-set l = Listing (plan_sheet l.query.plan.now) l.query.port l.query.class (length l.initial.records) l.initial.list l.set l.flags l.found l.list
