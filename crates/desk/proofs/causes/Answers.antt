-- `causes`: each way out is a case of alc's `causes_reply`.
use Rattle.std.proofs.Common.{◌∙◌, ap}
use Rattle.std.specs.Prelude.{ℕ, replicate}
use Rattle.desk.proofs.Querying.{kept-refused, kept-off-sheet, kept-queried}
use Rattle.desk.proofs.causes.Goals as goal

pub returns-in-Err : goal.returns-in-Err
returns-in-Err c = kept-refused _ _ _ _ _ _ (c.in-Err.ensures {u = tt})

pub returns-in_default : goal.returns-in_default
returns-in_default c = kept-off-sheet _ _ _ _ _ _ (c.in-Ok.ensures {u = tt}) (c.in_default.ensures {u = tt})

pub returns-in-Some : goal.returns-in-Some
returns-in-Some c =
    let (plan-is, port-is, class-is) = c.in-Some.ensures {u = tt} in
    kept-queried _ _ _ _ _ _ (c.in-Ok.ensures {u = tt})
    (rw (plan-is, port-is, class-is) at c.in-Some.query.on_sheet)
    (rw (plan-is, port-is, class-is) at c.put_causes-answer.ensures)
    (c.clear.ensures 0 (λ x z. z) ∙ ap (λ (n : ℕ). replicate n 0) c.put_causes-answer.auto.records)
    (c.clear-in-Ok.ensures 0 (λ x z. z) ∙ ap (λ (n : ℕ). replicate n 0) c.put_causes-answer.auto.marks)
