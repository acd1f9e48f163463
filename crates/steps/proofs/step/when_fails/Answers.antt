-- What a line demands where it fails: a not and an or line all of its operands, an and line one of the two.
use Rattle.std.specs.Prelude.{refl, [], ◌∷◌}
use Rattle.alc.specs.declared.Mark.TheVariants.{Holds as holds, Fails as fails}
use Rattle.alc.specs.Label.{when_fails}
use Rattle.steps.proofs.Demands.{all_hold, all_fail, by-operands, and-fits}
use Rattle.steps.proofs.step.when_fails.Goals as goal

pub either-requires : goal.either-requires
either-requires c = and-fits c.args.plan.now c.args.i c.requires c.in-And.ensures

pub returns-in-Not : goal.returns-in-Not
returns-in-Not c = by-operands c.args.l when_fails all_hold (holds _ ∷ []) refl refl c.in-Not.ensures c.operands.ensures c.all.ensures

pub returns-in-Or : goal.returns-in-Or
returns-in-Or c = by-operands c.args.l when_fails all_fail (fails _ ∷ fails _ ∷ []) refl refl c.in-Or.ensures c.operands-in-Or.ensures c.all-in-Or.ensures
