-- The first that passes over the moves of an individual, which are the demands of its label, one for one.
use Rattle.std.specs.Prelude.{ℕ, Bool, true, false, ◌≡◌, refl, List, [], ◌∷◌, ◌++◌, map}
use Rattle.std.proofs.lemmas.Bool.{false≢true}
use Rattle.std.proofs.Common.{true≢false, ap}
use Rattle.std.specs.Prelude.{Option as Maybe, None as nothing, Some as just}
use Rattle.alc.specs.Lists.{first, each, up_to}
use Rattle.alc.specs.declared.Rule.{Rule}
use Rattle.alc.specs.Sheet.{Sheet, count}
use Rattle.alc.specs.declared.Mark.TheVariants.{Holds as holds, Fails as fails}
use Rattle.alc.specs.Label.{Demand, either}
use Rattle.alc.specs.Settle.{Joint, label, Move, own, rule, moves_of, who, wanted, adds}
use Rattle.steps.specs.Choice.{demands_at, line_demands, rule_demands, unmet}
use Rattle.steps.proofs.Chosen.{or_else}

module _ {A : Type 0} where
  -- the second counts only where the first has none
  pub or-found : (o n : Maybe A) → (o ≡ nothing → ⊥) → or_else o n ≡ o
  or-found nothing n h = absurd (h refl)
  or-found (just x) n h = refl

-- ---- the moves of an individual and the demands of its label
module _ (s : Sheet) (J : Joint) (a : ℕ) where
  pub data Paired : List Move → List Demand → Type 0 where
    none : Paired [] []
    also : {ms : List Move} {ds : List Demand} (m : Move) → who m ≡ a → Paired ms ds → Paired (m ∷ ms) (wanted s J m ∷ ds)

  paired-lines : {ms : List Move} {ds : List Demand} → Paired ms ds → (is : List ℕ)
      → Paired (each (λ i. own a (holds i) ∷ own a (fails i) ∷ []) is ++ ms) (each (demands_at s (label J a)) is ++ ds)
  paired-lines h [] = h
  paired-lines h (i ∷ is) = also (own a (holds i)) refl (also (own a (fails i)) refl (paired-lines h is))

  paired-rules : (rs : List Rule) → Paired (map (rule a) rs) (map (λ (r : Rule). either (fails r.sub) (holds r.sup)) rs)
  paired-rules [] = none
  paired-rules (r ∷ rs) = also (rule a r) refl (paired-rules rs)

  -- in order: those of the lines, then those of the rules
  pub paired-moves : Paired (moves_of s a) (line_demands s (label J a) ++ rule_demands s)
  paired-moves = paired-lines (paired-rules s.rules) (up_to (count s))

  -- the first move that adds anything is of individual a and wants the first demand that is not met
  pub data Meets : Maybe Move → Maybe Demand → Type 0 where
    settled : Meets nothing nothing
    meets : (m : Move) → who m ≡ a → Meets (just m) (just (wanted s J m))

  -- so it is, where moves and demands are paired
  pub first-meets : {ms : List Move} {ds : List Demand} → Paired ms ds → Meets (first (adds s J) ms) (first (unmet (label J a)) ds)
  first-meets none = settled
  first-meets (also {ms} {ds} m e r) =
      go (adds s J m) (unmet (label J a) (wanted s J m)) (ap (λ (b : ℕ). unmet (label J b) (wanted s J m)) e)
      (first (adds s J) ms) (first (unmet (label J a)) ds) (first-meets r)
    where
      go : (b c : Bool) → b ≡ c → (o : Maybe Move) (p : Maybe Demand) → Meets o p
          → Meets (elim b [ true ↦ just m | false ↦ o ]) (elim c [ true ↦ just (wanted s J m) | false ↦ p ])
      go true true q o p h = meets m e
      go false false q o p h = h
      go true false q o p h = absurd (true≢false q)
      go false true q o p h = absurd (false≢true q)
