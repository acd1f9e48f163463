-- The model's words by their parts, as the writer lays them. Definitions only.
use Rattle.std.specs.Prelude.{ℕ, ◌+◌, ◌≤◌, List, ◌∷◌, ◌++◌, map, length}
use Rattle.alc.specs.Lists.{each, up_to}
use Rattle.alc.specs.Sheet.{Sheet, name_count}
use Rattle.alc.specs.declared.Label.{Label}
use Rattle.alc.specs.Settle as theory
use Rattle.alc.specs.Model.{name_mask, label_at, chosen, model_edges}
use Rattle.tableau.specs.declared.labels.Labels.{Labels}
use Rattle.tableau.specs.Records.{recorded}
use Rattle.tableau.specs.Joints.{joint_of, Fit}
use Rattle.order.specs.Sound.{Sound, Complete}

-- the model's seeds are the first `seeds` records, and they hold all that its elements ask for
pub record Ready (s : Sheet) (j : Labels) (used seeds : ℕ) (recs marks : List ℕ) : Type 0 where
  pub sound : Sound s used recs marks
  pub fit : Fit s j
  pub front : seeds ≤ used
  pub few : used ≤ 4096
  pub complete : Complete s (joint_of j) (recorded seeds recs)

-- the names that hold, as a mask
unfoldable pub mask_of : Sheet → Label → ℕ
mask_of s l = name_mask s l name_count

-- a mask for each element
unfoldable pub masks_of : Sheet → theory.Joint → List Label → List ℕ
masks_of s J B = map (λ x. mask_of s (label_at J B (chosen s) x)) (up_to (length J + length B))

-- all words; model_words is this at the model's seeds
unfoldable pub words_of : Sheet → theory.Joint → List Label → List ℕ
words_of s J B = (length J + length B) ∷ masks_of s J B ++ (length (model_edges s J B (chosen s)) ∷ each (λ e. e) (model_edges s J B (chosen s)))
