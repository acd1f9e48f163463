-- The group of each line, one after the other.
use Rattle.std.proofs.Common.{arith, rules}
use Rattle.plan.specs.Prepared.{IsGroup}
use Rattle.plan.proofs.Told.{told-test, filled-more}
use Rattle.plan.proofs.groups.Goals as goal

pub loop-i-preserved : goal.loop-i-preserved
loop-i-preserved c =
    let group : IsGroup c.args.lines.now c.loop-i.i c.lines_where.result =
    λ j. told-test c.args.lines.now.count j _ _ (λ b. search rules) (c.lines_where.ensures j).1 in
    (search rules, filled-more (IsGroup c.args.lines.now) c.loop-i.i c.lines_where.result c.loop-i.groups (omega (arith, c.loop-i.invariant.0, c.loop-i-test.true, c.requires)) group c.loop-i.invariant.1)
