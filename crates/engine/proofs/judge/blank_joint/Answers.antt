-- `judge::blank_joint`: a blank label for each individual, or one.
use Prim.Native.Nat.{max}
use mathlib.Core.Path.{◌≡◌, refl, ◌∙◌, ap}
use lib.ListN.{replicate}
use native.Mathlib.Omega.{arith}
use Rattle.std.proofs.lemmas.List.{take-replicate}
use Rattle.engine.proofs.judge.blank_joint.Goals as goal

pub returns : goal.returns
returns c =
    let e : c.max.result ≡ max 1 c.args.individuals = omega arith in
    rw e (take-replicate (max 1 c.args.individuals) 8 c.blank.result (omega arith) ∙ ap (replicate (max 1 c.args.individuals)) c.blank.ensures, refl)
