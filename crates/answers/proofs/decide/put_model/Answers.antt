-- `decide::put_model`: the records are brought into the model's order, and its words are put, or their length is told.
use Rattle.std.specs.Prelude.{ℕ, ◌+◌, ◌*◌, ◌≡◌, length}
use Rattle.std.proofs.Common.{arith, rules}
use Rattle.alc.specs.Model.{model_words}
use Rattle.alc.proofs.Theorems.Sheet.{well-formed}
use Rattle.plan.specs.Plan.{plan_sheet}
use Rattle.tableau.specs.Joints.{joint_of}
use Rattle.model.specs.Laid.{Ready}
use Rattle.model.proofs.Worded.{long}
use Rattle.answers.proofs.Deciding.{model-length, model-ready, model-words, put-length, put-words}
use Rattle.answers.proofs.decide.put_model.Goals as goal
use Rattle.answers.proofs.decide.put_model.Goals.{After-count}

-- the records in the model's order are ready to be laid out
ready : (c : After-count) → Ready (plan_sheet c.args.plan.now) c.args.joint c.args.used c.order-seeds.result c.order-seeds.new.records c.order-seeds.new.marks
ready c =
    let s = plan_sheet c.args.plan.now in
    model-ready s (well-formed s c.args.plan.now.prepared.well) c.args.joint c.requires.fit c.requires.sound c.requires.all_seeds_in c.requires.used_bound c.order-seeds.ensures

abbrev words : (c : After-count) → ℕ
words c = 2 + c.count.result + 3 * c.count_edges-edges.result

-- the words counted are the model's
as_many : (c : After-count) → words c ≡ length (model_words (plan_sheet c.args.plan.now) (joint_of c.args.joint))
as_many c =
    model-length (ready c) c.order-seeds.ensures.2 (long c.args.joint (search rules)) _ _ c.count.ensures.0 c.count_edges-edges.ensures.0

pub invariant_of-elements : goal.invariant_of-elements
invariant_of-elements c =
    let s = plan_sheet c.args.plan.now in
    record { ready = ∣ model-ready s (well-formed s c.args.plan.now.prepared.well) c.args.joint c.requires.fit c.requires.sound c.requires.all_seeds_in c.requires.used_bound c.order-seeds.ensures ∣₁ }

pub returns-then-out-words : goal.returns-then-out-words
returns-then-out-words c =
    let d = (goal.at.returns-then-out-words c).After-count in
    put-length _ _ (words d) (as_many d) c.if-out-words.true

pub returns : goal.returns
returns c =
    let d = (goal.at.returns c).After-count in
    put-words _ _ (words d) (as_many d) (omega (arith, c.if-out-words.false)) c.write.ensures (model-words (ready d) c.order-seeds.ensures.2) (omega (arith, c.count.ensures.0))
