-- The elements that are lent together: how many there are, their seeds, labels and edges. Definitions only.
use Rattle.std.specs.Prelude.{ℕ, ◌+◌, List}
use Rattle.alc.specs.Sheet.{Sheet}
use Rattle.alc.specs.declared.Label.{Label}
use Rattle.alc.specs.Settle as theory
use Rattle.alc.specs.Model.{label_at, chosen, model_edges}
use Rattle.plan.specs.Plan.{plan_sheet}
use Rattle.tableau.specs.Records.{recorded}
use Rattle.tableau.specs.Joints.{joint_of}
use Rattle.edges.specs.Keys.{edges_from}
use Rattle.model.specs.declared.elements.Elements.{Elements}

abbrev pub sheet_in : Elements → Sheet
sheet_in e = plan_sheet e.plan.now

abbrev pub count_in : Elements → ℕ
count_in e = e.joint.count + e.seeds

-- the individuals
abbrev pub labels_in : Elements → theory.Joint
labels_in e = joint_of e.joint

-- the seeds are the first of the records
abbrev pub seeds_in : Elements → List Label
seeds_in e = recorded e.seeds e.records.now

abbrev pub label_in : Elements → ℕ → Label
label_in e x = label_at (labels_in e) (seeds_in e) (chosen (sheet_in e)) x

-- the edges from x; all of them
abbrev pub row_in : Elements → ℕ → List (List ℕ)
row_in e x = edges_from (sheet_in e) (labels_in e) (seeds_in e) (label_in e x) x

abbrev pub edges_in : Elements → List (List ℕ)
edges_in e = model_edges (sheet_in e) (labels_in e) (seeds_in e) (chosen (sheet_in e))
