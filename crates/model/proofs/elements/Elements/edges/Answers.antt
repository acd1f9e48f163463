-- `model::elements::Elements::edges`: all that the element asks for is among the model's seeds.
use Rattle.std.proofs.Common.{sym, ap, subst, ◌∙◌, arith}
use Rattle.alc.specs.declared.Label.{Label}
use Rattle.edges.specs.Keys.{SeedsIn, edges_from}
use Rattle.model.specs.Elements.{sheet_in, labels_in, seeds_in}
use Rattle.model.proofs.Worded.{ready-of, long, element-seeds, seeds-distinct}
use Rattle.model.proofs.elements.Elements.edges.Goals as goal

pub edges_of-requires : goal.edges_of-requires
edges_of-requires c =
    let e = c.args.self.now in
    let r = ready-of e.ready in
    let k = long e.joint (omega arith) in
    record {
      fit = r.fit;
      seeds_in_bounds = (omega (arith, r.front, r.sound.lent.enough), omega (arith, r.front, r.few));
      seeds_in = subst (λ (l : Label). SeedsIn (sheet_in e) l (seeds_in e)) (sym c.label.ensures) (element-seeds r k c.args.x c.requires);
      distinct = seeds-distinct r k;
    }

pub returns : goal.returns
returns c =
    let e = c.args.self.now in
    c.edges_of.ensures ∙ ap (λ (l : Label). edges_from (sheet_in e) (labels_in e) (seeds_in e) l c.args.x) c.label.ensures
