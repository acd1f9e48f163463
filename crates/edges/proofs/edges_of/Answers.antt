-- `edges::edges_of`: what is left to put in is the whole, and the keys are the edges.
use Rattle.std.proofs.Common.{ℕ, ◌≡◌, ◌+◌, ◌<◌, sym, ap, subst, ◌∙◌, map, length, arith}
use Rattle.std.proofs.Math.Seq.{length-take-le}
use Rattle.alc.specs.declared.RoleAssertion.{RoleAssertion}
use Rattle.alc.specs.Seeds.{asks}
use Rattle.alc.proofs.Theorems.Sheet.{well-formed}
use Rattle.edges.specs.declared.keys.Edges.{Edges}
use Rattle.edges.specs.declared.recorded.Recorded.{Recorded}
use Rattle.plan.specs.Plan.{plan_sheet}
use Rattle.tableau.specs.Joints.{joint_of}
use Rattle.edges.specs.Keys.{key_of, keys_of, insert_key, ask_key, edge_of}
use Rattle.edges.proofs.Keyed.{Along, along-start, along-other, along_one, along-end, role-small, edges_are}
use Rattle.edges.proofs.edges_of.Goals as goal
use Rattle.edges.proofs.edges_of.Goals.{else-asserted-x, then-asserted-x}

pub loop-e-init : goal.loop-e-init
loop-e-init c = along-start (plan_sheet c.args.plan.now) c.args.x c.asked_edges-edges.result c.asked_edges-edges.ensures.0

pub key-requires : goal.key-requires
key-requires c =
    let p = c.args.plan.now in
    let small = role-small (plan_sheet p) p.prepared.well p.prepared.limited c.loop-e.e (omega arith) in
    rw c.role_assertion-asserted.ensures (small.0, omega (arith, small.1))

pub loop-e-preserved : goal.loop-e-preserved
loop-e-preserved c =
    let inside : c.loop-e.e < length (plan_sheet c.args.plan.now).roles = omega arith in
    let is = c.role_assertion-asserted.ensures in
    let Next : Edges → Type 0 = λ k. Along (plan_sheet c.args.plan.now) c.args.x c.asked_edges-edges.result k (c.loop-e.e + 1) in
    elim c.if-asserted-x.branch [
      | then-asserted-x w ↦ subst Next (sym w.edges-is)
          (along_one c.loop-e.invariant inside (ap (λ (a : RoleAssertion). a.source) (sym is) ∙ w.if-asserted-x.true) w.with-edges.result
          (w.with-edges.ensures.0 ∙ ap (λ (k : ℕ). insert_key k (keys_of c.loop-e.edges)) (w.key.ensures ∙ ap (λ (a : RoleAssertion). key_of a.role a.target) is)) w.with-edges.ensures.1)
      | else-asserted-x w ↦ subst Next (sym w.edges-is) (along-other c.loop-e.invariant inside (λ e. w.if-asserted-x.false (ap (λ (a : RoleAssertion). a.source) is ∙ e)))
    ]

pub returns : goal.returns
returns c =
    let s = plan_sheet c.args.plan.now in
    let p = c.args.plan.now.prepared in
    let long : length (joint_of c.args.j) ≡ c.args.j.count = length-take-le c.args.j.count c.args.j.labels (omega (arith, c.args.j.small)) in
    let R : Recorded = record {
      records = c.args.records;
      seeds = c.args.seeds;
      first = c.args.j.count;
      fits = c.requires.seeds_in_bounds.0;
      few = c.requires.seeds_in_bounds.1;
      behind = c.args.j.small;
    } in
    ap (map (edge_of c.args.x)) (along-end c.loop-e.invariant (omega arith) (map (ask_key R) (asks s c.args.l)) c.asked_edges-edges.ensures.1)
    ∙ edges_are s (well-formed s p.well) p.limited (joint_of c.args.j) R long (omega (arith, c.requires.fit.each-one)) c.args.l c.requires.seeds_in c.requires.distinct c.args.x
