-- What a line demands where it holds: a not and an and line all of its operands, an or line one of the two.
use Rattle.std.specs.Prelude.{refl, [], ◌∷◌}
use Rattle.alc.specs.declared.Mark.TheVariants.{Holds as holds, Fails as fails}
use Rattle.alc.specs.Label.{when_holds}
use Rattle.steps.proofs.Demands.{all_hold, all_fail, by-operands, or-fits}
use Rattle.steps.proofs.step.when_holds.Goals as goal

pub either-requires : goal.either-requires
either-requires c = or-fits c.args.plan.now c.args.i c.requires c.in-Or.ensures

pub returns-in-Not : goal.returns-in-Not
returns-in-Not c = by-operands c.args.l when_holds all_fail (fails _ ∷ []) refl refl c.in-Not.ensures c.operands.ensures c.all.ensures

pub returns-in-And : goal.returns-in-And
returns-in-And c =
    by-operands c.args.l when_holds all_hold (holds _ ∷ holds _ ∷ []) refl refl c.in-And.ensures c.operands-in-And.ensures c.all-in-And.ensures
