-- `force::none_fine`: the verdict says whether any settled joint label is fine, from whatever entries the work begins.
use Rattle.std.specs.Prelude.{Ok}
use Rattle.std.proofs.Common.{sym, ◌∙◌, ap}
use Rattle.std.proofs.lemmas.Result.{err_from_is_err_and}
use Rattle.engine.specs.declared.judge.Judged.{Judged}
use Rattle.sets.proofs.Forcing.{none_fine, verdict-full, verdict-told}
use Rattle.sets.proofs.force.none_fine.Goals as goal

pub returns-in_err-judge : goal.returns-in_err-judge
returns-in_err-judge c =
    let p = err_from_is_err_and c.from_residual.result c.from_residual.ensures.1 in λ xs e. rw (p.1, p.2) (verdict-full xs e c.in_err-judge.ensures)

pub returns-in-Going : goal.returns-in-Going
returns-in-Going c = λ xs e. ap (λ (v : Judged). Ok (none_fine v)) (sym c.in-Going.is) ∙ verdict-told xs e c.in_ok-judge.field-0 c.in_ok-judge.ensures

pub returns-in-Fine : goal.returns-in-Fine
returns-in-Fine c = λ xs e. ap (λ (v : Judged). Ok (none_fine v)) (sym c.in-Fine.is) ∙ verdict-told xs e c.in_ok-judge.field-0 c.in_ok-judge.ensures
