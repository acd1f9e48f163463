-- `edges::asked_edges`: what is left to put in is the whole.
use Rattle.std.proofs.Common.{ℕ, ap, ◌∙◌}
use Rattle.plan.specs.Plan.{plan_sheet}
use Rattle.seeds.specs.Left.{asks_left}
use Rattle.edges.specs.Keys.{key_of, keys_of, insert_key, ask_key}
use Rattle.edges.proofs.Keyed.{asking, asked-role, ask-on}
use Rattle.edges.proofs.asked_edges.Goals as goal

pub loop-ask-init : goal.loop-ask-init
loop-ask-init c =
    asking (plan_sheet c.args.plan.now) c.args.plan.now.prepared.limited c.args.l (ask_key c.args.seeds) _
    (ap asks_left c.into_iter-ask-iterator.ensures.into_iter_gives ∙ c.asks-ask-items.ensures) c.new-edges.result c.new-edges.ensures.0 c.new-edges.ensures.1

pub key-requires : goal.key-requires
key-requires c = (asked-role c.loop-ask.invariant _ _ c.in-Some.ensures.steps, c.element.ensures.1)

pub loop-ask-preserved : goal.loop-ask-preserved
loop-ask-preserved c =
    ask-on c.loop-ask.invariant _ _ c.in-Some.ensures.steps c.with-edges.result
    (c.with-edges.ensures.0 ∙ ap (λ (k : ℕ). insert_key k (keys_of c.loop-ask.edges)) (c.key.ensures ∙ ap (key_of c.in-Some.ask.role) c.element.ensures.0)) c.with-edges.ensures.1
