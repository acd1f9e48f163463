-- The settled expansions of a label by the choice of the next step, and that the choice leaves fewer marks unset: what every walk over them goes by.
use Rattle.std.proofs.Common.{◌≡◌, ℕ, ◌+◌, ◌%◌, ◌^◌, ◌<◌, ◌≤◌, Bool, true, false, List, [], ◌∷◌, ◌++◌, map, length, sym, refl, ap, ◌∙◌, append-nil, length-append}
use native.Mathlib.Nat.{add-mod}
use mathlib.Core.List.Memᴰ
use mathlib.Core.List.{map-append}
use borrow.Author.Tests.{not-true}
use Rattle.std.specs.Bool.{then_some}
use Rattle.std.specs.Prelude.{Option as Maybe, None as nothing, Some as just}
use Rattle.alc.specs.Lists.{◌∈◌, first, each}
use Rattle.alc.specs.Sheet.{Sheet, count}
use Rattle.alc.specs.declared.Label.{Label}
use Rattle.alc.specs.declared.Mark.{Mark}
use Rattle.alc.specs.Label.{line_of, has, add, add_all, join, Demand, every, either, met, clashes}
use Rattle.alc.specs.Settle.{Joint, label, Move, moves_of, moves, wanted, adds, Next, settled, meet, step, next, follow, settle}
use Rattle.alc.specs.Seeds.{expansions, seeds, successors}
use Rattle.alc.proofs.Theorems.Lists.{here, or_left, or-false-both, or-false-left, or-false-right, all-fails, Found, found, first-is, each_append}
use Rattle.alc.proofs.Theorems.Sheet.{WellFormed, well-formed}
use Rattle.alc.proofs.Theorems.Moves.{moves-elim, add_all-has, add_all-keeps}
use Rattle.alc.proofs.Theorems.Steps.{unset_in, unset-in-lt, DemandBelow, below-mono}
use Rattle.alc.proofs.Theorems.Settle.{settle-law, wanted-below}
use Rattle.steps.specs.declared.step.Choice.{Choice}
use Rattle.steps.specs.declared.step.Choice.TheVariants.{Every, Either}
use Rattle.steps.specs.Choice.{line_demands, rule_demands, unmet, choice_of, choice}
use Rattle.tableau.specs.Walks.{expand_by}
use Rattle.plan.specs.declared.Plan.{Plan}
use Rattle.plan.specs.Plan.{plan_sheet}
use Rattle.plan.proofs.Lines.{lines_fit}
use Rattle.steps.proofs.Firsts.{Meets, settled as all-met, meets, paired-moves, first-meets}
use Rattle.seeds.proofs.Handing.{add_all-join}
use Rattle.steps.proofs.Chosen.{or_else, first-append}

-- ---- what a choice adds is of lines below n, and leaves fewer of their marks unset
abbrev pub Fresh : ℕ → Label → Mark → Type 0
Fresh n l m = (line_of m < n) × (unset_in n (add l m) < unset_in n l)

abbrev pub FreshBy : ℕ → Label → Maybe Choice → Type 0
FreshBy n l nothing = Unit {0}
FreshBy n l (just (Every marks)) = unset_in n (join l marks) < unset_in n l
FreshBy n l (just (Either m k)) = Fresh n l m × Fresh n l k

-- a measure t that falls
falls-to : (n t : ℕ) (l x r : Label) → unset_in n l ≡ t → unset_in n x < unset_in n l → r ≡ x → unset_in n r < t
falls-to n t l x r p h e = rw (e, ← p) h

-- a mark that is new leaves fewer unset
more-less : (n : ℕ) (l : Label) (ms : List Mark) (m : Mark) → m ∈ ms → line_of m < n → has l m ≡ false → unset_in n (add_all l ms) < unset_in n l
more-less n l ms m i b e = unset-in-lt n l (add_all l ms) m (add_all-keeps l ms) b e (add_all-has l ms m i)

-- a demand that is not met has such marks
unmet-fresh : (n : ℕ) (l : Label) (d : Demand) → DemandBelow n d → met l d ≡ false → FreshBy n l (choice_of (just d))
unmet-fresh n l (every ms) b e = let (m, i, q) = all-fails (has l) ms e in rw (add_all-join l ms) (more-less n l ms m i (b m i) q)
unmet-fresh n l (either m k) b e = (
  (b.0, more-less n l (m ∷ []) m here b.0 (or-false-left _ (has l k) e)),
  (b.1, more-less n l (k ∷ []) k here b.1 (or-false-right (has l m) _ e)),
)

-- ---- one label worked alone
module _ (s : Sheet) (l : Label) where
  abbrev alone : Joint
  alone = l ∷ []

  abbrev demands : List Demand
  demands = line_demands s l ++ rule_demands s

  -- the first move that adds anything wants the first demand that is not met
  alone-meets : Meets s alone 0 (first (adds s alone) (moves s [] 1)) (first (unmet l) demands)
  unfolding moves
  alone-meets = rw (append-nil (moves_of s 0 ++ []), append-nil (moves_of s 0)) (first-meets s alone 0 (paired-moves s alone 0))

  -- what follows by the first demand that is not met
  abbrev meet_first : Maybe Demand → Next
  meet_first nothing = settled
  meet_first (just d) = meet alone 0 d

  meets-next : {o : Maybe Move} {p : Maybe Demand} → Meets s alone 0 o p → step s alone o ≡ meet_first p
  meets-next all-met = refl
  meets-next (meets m e) = ap (λ a. meet alone a (wanted s alone m)) e

  -- its next step, where it does not clash
  next-alone : clashes s l ≡ false → next s [] alone ≡ meet_first (first (unmet l) demands)
  unfolding next
  next-alone e = rw (or-false-both (clashes s l) false e refl, next) (meets-next alone-meets)

  -- a label that clashes has no settled expansions
  pub clash-expands : clashes s l ≡ true → expansions s l ≡ []
  unfolding expansions settle next
  clash-expands e = rw (or_left (clashes s l) false e, next)

  expands-meet : (o : Maybe Demand) → map (λ K. label K 0) (follow (settle s []) alone (meet_first o)) ≡ expand_by s l (choice_of o)
  unfolding expansions
  expands-meet nothing = refl
  expands-meet (just (every ms)) = ap (expansions s) (sym (add_all-join l ms))
  expands-meet (just (either m n)) = map-append (λ K. label K 0) (settle s [] (add l m ∷ [])) (settle s [] (add l n ∷ []))

  module _ (wf : WellFormed s) where
    -- one that does not has those of its choice
    pub choice-expands : clashes s l ≡ false → expansions s l ≡ expand_by s l (choice s l)
    unfolding expansions choice
    choice-expands calm =
        ap (map (λ K. label K 0)) (settle-law s wf [] 1 (λ e h. absurd (Memᴰ.not-nil h)) alone refl)
        ∙ ap (λ n. map (λ K. label K 0) (follow (settle s []) alone n)) (next-alone calm)
        ∙ expands-meet (first (unmet l) demands)

    -- and the choice leaves fewer marks unset
    pub choice-fresh : (n : ℕ) → count s ≤ n → FreshBy n l (choice s l)
    unfolding choice
    choice-fresh n c = go (first-is (adds s alone) (moves s [] 1)) alone-meets
      where
        go : {o : Maybe Move} {p : Maybe Demand} → Found (adds s alone) (moves s [] 1) o → Meets s alone 0 o p → FreshBy n l (choice_of p)
        go f all-met = tt
        go (found i e) (meets m q) =
            unmet-fresh n l (wanted s alone m) (below-mono (count s) n (wanted s alone m) c (wanted-below s wf [] alone 1 m (moves-elim s [] 1 m i)))
            (ap (λ a. met (label alone a) (wanted s alone m)) (sym q) ∙ not-true _ e)

-- ---- over a plan, by the choice k that the code has made
module _ (p : Plan) (l : Label) (k : Maybe Choice) (chosen : k ≡ choice (plan_sheet p) l) where
  pub chosen-fresh : FreshBy 32 l k
  chosen-fresh = rw chosen (choice-fresh (plan_sheet p) l (well-formed (plan_sheet p) p.prepared.well) 32 (lines_fit p))

  pub chosen-expands : clashes (plan_sheet p) l ≡ false → expansions (plan_sheet p) l ≡ expand_by (plan_sheet p) l k
  chosen-expands calm = choice-expands (plan_sheet p) l (well-formed (plan_sheet p) p.prepared.well) calm ∙ ap (expand_by (plan_sheet p) l) (sym chosen)

-- at every call of a walk the marks still unset fall below t, what they are at l
module _ (p : Plan) (t : ℕ) (l : Label) (level : unset_in 32 l ≡ t) (r : Label) where
  pub every-falls : {marks : Label} → just (Every marks) ≡ choice (plan_sheet p) l → r ≡ join l marks → unset_in 32 r < t
  every-falls {marks} e r-is = falls-to 32 t l _ r level (chosen-fresh p l (just (Every marks)) e) r-is

  pub first-falls : {m n : Mark} → just (Either m n) ≡ choice (plan_sheet p) l → r ≡ add l m → unset_in 32 r < t
  first-falls {m} {n} e r-is = falls-to 32 t l _ r level (chosen-fresh p l (just (Either m n)) e).0.1 r-is

  pub second-falls : {m n : Mark} → just (Either m n) ≡ choice (plan_sheet p) l → r ≡ add l n → unset_in 32 r < t
  second-falls {m} {n} e r-is = falls-to 32 t l _ r level (chosen-fresh p l (just (Either m n)) e).1.1 r-is

-- ---- the seeds of all of them
abbrev pub successors_by : Sheet → Label → Maybe Choice → List Label
successors_by s l nothing = seeds s l
successors_by s l (just (Every marks)) = successors s (join l marks)
successors_by s l (just (Either m k)) = successors s (add l m) ++ successors s (add l k)

pub successors-none : (s : Sheet) (l : Label) → expansions s l ≡ [] → successors s l ≡ []
unfolding successors
successors-none s l e = ap (each (seeds s)) e

successors-by : (s : Sheet) (l : Label) (k : Maybe Choice) → expansions s l ≡ expand_by s l k → successors s l ≡ successors_by s l k
unfolding successors
successors-by s l nothing e = ap (each (seeds s)) e ∙ append-nil (seeds s l)
successors-by s l (just (Every marks)) e = ap (each (seeds s)) e
successors-by s l (just (Either m k)) e = ap (each (seeds s)) e ∙ each_append (seeds s) (expansions s (add l m)) (expansions s (add l k))

pub chosen-successors : (p : Plan) (l : Label) (k : Maybe Choice) → k ≡ choice (plan_sheet p) l → clashes (plan_sheet p) l ≡ false
    → successors (plan_sheet p) l ≡ successors_by (plan_sheet p) l k
chosen-successors p l k chosen calm = successors-by _ l k (chosen-expands p l k chosen calm)

-- ---- the first of them that passes
picked-if : (l : Label) (b : Bool) → elim b as (λ _. Maybe Label) [ true ↦ just l | false ↦ nothing ] ≡ then_some b l
picked-if l true = refl
picked-if l false = refl

abbrev pub picked_by : Sheet → (Label → Bool) → Label → Maybe Choice → Maybe Label
picked_by s p l nothing = then_some (p l) l
picked_by s p l (just (Every marks)) = first p (expansions s (join l marks))
picked_by s p l (just (Either m k)) = or_else (first p (expansions s (add l m))) (first p (expansions s (add l k)))

picked-by : (s : Sheet) (p : Label → Bool) (l : Label) (k : Maybe Choice) → expansions s l ≡ expand_by s l k → first p (expansions s l) ≡ picked_by s p l k
picked-by s p l nothing e = ap (first p) e ∙ picked-if l (p l)
picked-by s p l (just (Every marks)) e = ap (first p) e
picked-by s p l (just (Either m k)) e = ap (first p) e ∙ first-append p (expansions s (add l m)) (expansions s (add l k))

pub chosen-picked : (p : Plan) (l : Label) (k : Maybe Choice) → k ≡ choice (plan_sheet p) l → clashes (plan_sheet p) l ≡ false → (q : Label → Bool)
    → first q (expansions (plan_sheet p) l) ≡ picked_by (plan_sheet p) q l k
chosen-picked p l k chosen calm q = picked-by _ q l k (chosen-expands p l k chosen calm)

-- ---- how many they are, modulo 2^64
abbrev pub counted_in : Sheet → Label → ℕ
counted_in s l = length (expansions s l) % 2 ^ 64

abbrev pub counted_by : Sheet → Label → Maybe Choice → ℕ
counted_by s l nothing = 1
counted_by s l (just (Every marks)) = counted_in s (join l marks)
counted_by s l (just (Either m k)) = (counted_in s (add l m) + counted_in s (add l k)) % 2 ^ 64

counted-by : (s : Sheet) (l : Label) (k : Maybe Choice) → expansions s l ≡ expand_by s l k → counted_in s l ≡ counted_by s l k
counted-by s l nothing e = ap (λ ks. length ks % 2 ^ 64) e
counted-by s l (just (Every marks)) e = ap (λ ks. length ks % 2 ^ 64) e
counted-by s l (just (Either m k)) e =
    let xs = expansions s (add l m) in
    let ys = expansions s (add l k) in
    ap (λ ks. length ks % 2 ^ 64) e ∙ ap (λ n. n % 2 ^ 64) (length-append xs ys) ∙ add-mod (length xs) (length ys) (2 ^ 64)

pub chosen-counted : (p : Plan) (l : Label) (k : Maybe Choice) → k ≡ choice (plan_sheet p) l → clashes (plan_sheet p) l ≡ false
    → counted_in (plan_sheet p) l ≡ counted_by (plan_sheet p) l k
chosen-counted p l k chosen calm = counted-by _ l k (chosen-expands p l k chosen calm)
