-- `decide::decide`: each verdict on the start is the sheet's answer.
use Rattle.answers.proofs.Deciding.{answer-full, answer-model, answer-none, found-asked, found-sound}
use Rattle.answers.proofs.decide.decide.Goals as goal

pub put_model-requires-clause-sound : goal.put_model-requires-clause-sound
put_model-requires-clause-sound c =
    found-sound c.start_joint.ensures.0 (rw c.in-Ok-Fine.field-0-is at (c.in-Ok-Fine.ensures {u = tt}))

pub put_model-requires-clause-all_seeds_in : goal.put_model-requires-clause-all_seeds_in
put_model-requires-clause-all_seeds_in c =
    found-asked c.start_joint.ensures.0 (rw c.in-Ok-Fine.field-0-is at (c.in-Ok-Fine.ensures {u = tt}))

pub returns-in-Err : goal.returns-in-Err
returns-in-Err c = answer-full c.start_joint.ensures.0 (c.in-Err.ensures {u = tt}) _

pub returns-in-Ok-Going : goal.returns-in-Ok-Going
returns-in-Ok-Going c =
    answer-none c.start_joint.ensures.0 (rw c.in-Ok-Going.field-0-is at (c.in-Ok-Going.ensures {u = tt})) _

pub returns-in-Ok-Fine : goal.returns-in-Ok-Fine
returns-in-Ok-Fine c =
    answer-model c.start_joint.ensures.0 (rw c.in-Ok-Fine.field-0-is at (c.in-Ok-Fine.ensures {u = tt})) _ _ _ c.put_model.ensures
