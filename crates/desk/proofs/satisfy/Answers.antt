-- `satisfy`: each way out is a case of alc's `satisfy_reply`.
use Rattle.std.proofs.Common.{◌∙◌, ap}
use Rattle.std.specs.Prelude.{ℕ, replicate}
use Rattle.desk.proofs.Satisfying.{kept-refused, kept-decided}
use Rattle.desk.proofs.satisfy.Goals as goal

pub returns-in-Err : goal.returns-in-Err
returns-in-Err c = kept-refused _ _ _ _ (c.in-Err.ensures {u = tt})

pub returns-in-Ok : goal.returns-in-Ok
returns-in-Ok c =
    kept-decided _ _ _ _ (c.in-Ok.ensures {u = tt}) (c.clear.ensures 0 (λ x z. z)) c.decide-answer.ensures
    (c.clear-in-Ok.ensures 0 (λ x z. z) ∙ ap (λ (n : ℕ). replicate n 0) c.decide-answer.auto.records)
    (c.clear-in-Ok-2.ensures 0 (λ x z. z) ∙ ap (λ (n : ℕ). replicate n 0) c.decide-answer.auto.marks)
