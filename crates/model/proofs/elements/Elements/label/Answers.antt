-- `model::elements::Elements::label`: by the records that are used, of which the model's seeds stand in front.
use Rattle.std.proofs.Common.{◌∙◌, arith}
use Rattle.model.proofs.Worded.{ready-of, long, element-label}
use Rattle.model.proofs.elements.Elements.label.Goals as goal

pub label_at-requires : goal.label_at-requires
label_at-requires c =
    let r = ready-of c.args.self.now.ready in
    record { sound = r.sound; x_bound = omega (arith, r.front) }

pub returns : goal.returns
returns c = c.label_at.ensures ∙ element-label (ready-of c.args.self.now.ready) (long c.args.self.now.joint (omega arith)) c.args.x c.requires
