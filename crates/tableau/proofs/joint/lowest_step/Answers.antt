-- The first step of the individuals that are left is that of all, as long as none was found.
use Rattle.std.proofs.Common.{length, refl, sym, ap, ◌∙◌, arith}
use Rattle.alc.proofs.Theorems.Lists.{length_from}
use Rattle.tableau.specs.Joints.{step_of}
use Rattle.tableau.proofs.Jointly.{calm-at, own-on, own-found, pass-end}
use Rattle.tableau.proofs.joint.lowest_step.Goals as goal

pub loop-a-init : goal.loop-a-init
loop-a-init c = record { rest = refl }

pub next_choice-requires : goal.next_choice-requires
next_choice-requires c = calm-at _ _ _ c.loop-a-test.true (rw c.as_slice-l-items.ensures c.requires)

pub returns-in-Some : goal.returns-in-Some
returns-in-Some c =
    rw (← c.as_slice-l-items.ensures) (c.own_step.ensures ∙ own-found _ _ _ c.loop-a.invariant c.loop-a-test.true c.in-Some.choice (sym c.in-Some.is ∙ c.next_choice.ensures))

pub loop-a-preserved : goal.loop-a-preserved
loop-a-preserved c = own-on _ _ _ c.loop-a.invariant c.loop-a-test.true (sym c.in_default.is ∙ c.next_choice.ensures)

pub returns : goal.returns
returns c =
    rw (← c.as_slice-l-items.ensures) (ap (step_of _ _) (pass-end c.loop-a.invariant (omega (arith, length_from 0 (length c.as_slice-l-items.result.now), c.loop-a-test.false))))
