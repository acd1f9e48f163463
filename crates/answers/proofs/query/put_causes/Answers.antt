-- A list that holds all causes is the answer to the query, since it was cleared before.
use Rattle.answers.proofs.Queries.{listed}
use Rattle.answers.proofs.query.put_causes.Goals as goal

pub returns-in-Ok : goal.returns-in-Ok
returns-in-Ok c =
    listed _ _ _ _ _ _ _ _ (c.clear.ensures 0 (λ x zero. zero)) (c.in-Ok.ensures {u = tt}).listed_to c.list_causes.auto.list c.if-n-list.true
