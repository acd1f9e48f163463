-- The next step of a joint label: what each individual chooses, what the role assertions push, and the settled joint labels by it.
use Rattle.std.proofs.Common.{◌≡◌, ℕ, zero, ◌+◌, ◌<◌, ◌≤◌, Bool, true, false, ◌||◌, List, [], ◌∷◌, map, length, drop, set, suc, sym, refl, ap, ◌∙◌, subst, ⊎_elim, add-one, arith, drop_of_length-le, length-take-le, drop-cons}
use mathlib.Core.Bool.{not as flip}
use borrow.Author.Tests.{not-true}
use Rattle.std.specs.List.{list_any}
use Rattle.std.specs.Prelude.{Option as Maybe, None as nothing, Some as just}
use Rattle.alc.specs.Lists.{any, all, first, each, from, up_to}
use Rattle.alc.specs.Sheet.{Sheet, count, role_assertion}
use Rattle.alc.specs.declared.Label.{Label}
use Rattle.alc.specs.declared.RoleAssertion.{RoleAssertion}
use Rattle.alc.specs.declared.Mark.{Mark}
use Rattle.alc.specs.declared.Mark.TheVariants.{Holds as holds, Fails as fails}
use Rattle.alc.specs.Label.{line_of, blank, has, add, add_all, join, Demand, every, either, clashes, pushed}
use Rattle.alc.specs.Settle as theory
use Rattle.alc.specs.Settle.{label, Move, push, moves_of, moves, who, wanted, adds, meet, closes, next, follow, settle}
use Rattle.alc.proofs.Theorems.Bits.{put-true}
use Rattle.alc.proofs.Theorems.Lists.{cases, any_none, and_left, and_right, all-intro, Found, found, first-is}
use Rattle.alc.proofs.Theorems.Sheet.{WellFormed, well-formed}
use Rattle.alc.proofs.Theorems.Moves.{label-in, Listed, moves-elim, add_all-has}
use Rattle.alc.proofs.Theorems.Steps.{unset_all, DemandBelow, below-mono}
use Rattle.alc.proofs.Theorems.Settle.{Fits, Less, meet-less, wanted-below, who-below, settle-law}
use Rattle.steps.specs.declared.step.Choice.{Choice}
use Rattle.steps.specs.declared.step.Choice.TheVariants.{Every, Either}
use Rattle.tableau.specs.declared.labels.Labels.{Labels}
use Rattle.tableau.specs.declared.joint.JointStep.{JointStep}
use Rattle.tableau.specs.declared.joint.JointStep.TheVariants.{Clashed, Settled, Onward, Split}
use Rattle.plan.specs.declared.Plan.{Plan}
use Rattle.plan.specs.Plan.{plan_sheet}
use Rattle.steps.specs.Choice.{choice_of, choice}
use Rattle.tableau.specs.Joints.{joint_of, Fit, own_step, met_by, step_of, next_of, settle_by}
use Rattle.plan.proofs.Lines.{lines_fit, role-inside}
use Rattle.seeds.proofs.Handing.{add_all-join}
use Rattle.steps.proofs.Chosen.{or_else, first-append}
use Rattle.steps.proofs.Firsts.{or-found, Meets, settled, meets, paired-moves, first-meets}

-- ---- a loop over a list: the first of what is left to look at, from place a on, is the first of all
pub record Passed {A B : Type 0} (p : B → Bool) (f : A → List B) (xs : List A) (a : ℕ) : Type 0 where
  pub rest : first p (each f (drop a xs)) ≡ first p (each f xs)

module _ {A B : Type 0} {p : B → Bool} {f : A → List B} {xs : List A} {a : ℕ} (g : Passed p f xs a) where
  pub pass-end : length xs ≤ a → nothing ≡ first p (each f xs)
  pass-end h = sym (ap (λ (l : List A). first p (each f l)) (drop_of_length-le xs h)) ∙ g.rest

  module _ {x : A} (here : drop a xs ≡ x ∷ drop (suc a) xs) where
    turned : or_else (first p (f x)) (first p (each f (drop (suc a) xs))) ≡ first p (each f xs)
    turned = sym (first-append p (f x) (each f (drop (suc a) xs))) ∙ sym (ap (λ (l : List A). first p (each f l)) here) ∙ g.rest

    pub pass-on : first p (f x) ≡ nothing → Passed p f xs (a + 1)
    pass-on e = rw add-one (record { rest = rw e at turned })

    pub pass-found : (first p (f x) ≡ nothing → ⊥) → first p (f x) ≡ first p (each f xs)
    pass-found e = sym (or-found (first p (f x)) (first p (each f (drop (suc a) xs))) e) ∙ turned

-- ---- steps
module _ (s : Sheet) (J : theory.Joint) where
  -- the first step among the moves ms
  abbrev pub step_in : List Move → JointStep
  step_in ms = step_of s J (first (adds s J) ms)

  -- a step is settled only where no move adds anything
  pub step-none : (o : Maybe Move) → step_of s J o ≡ Settled → o ≡ nothing
  step-none nothing e = refl
  step-none (just m) e = absurd (go (wanted s J m) e)
    where
      go : (d : Demand) → met_by (who m) d ≡ Settled → ⊥
      go (every ms) q = let z : ◌≡◌ {A = ℕ} 0 1 = cc in omega arith
      go (either x y) q = let z : ◌≡◌ {A = ℕ} 0 1 = cc in omega arith

-- std's test of any is the definition's
pub any-is : {A : Type 0} (p : A → Bool) (xs : List A) → list_any p xs ≡ any p xs
any-is p [] = refl
any-is p (x ∷ xs) = ap (λ (b : Bool). p x || b) (any-is p xs)

-- individual a is the a-th
from-at : (a k i : ℕ) → i < k → drop i (from a k) ≡ (a + i) ∷ drop (suc i) (from a k)
from-at a zero i h = absurd (omega arith)
from-at a (suc k) zero h = let e : a ≡ a + 0 = omega arith in ap (λ (x : ℕ). x ∷ from (suc a) k) e
from-at a (suc k) (suc i) h = let e : suc a + i ≡ a + suc i = omega arith in from-at (suc a) k i (omega arith) ∙ ap (λ (x : ℕ). x ∷ drop (suc i) (from (suc a) k)) e

individual-at : (n i : ℕ) → i < n → drop i (up_to n) ≡ i ∷ drop (suc i) (up_to n)
individual-at n i h = let e : 0 + i ≡ i = omega arith in from-at 0 n i h ∙ ap (λ (x : ℕ). x ∷ drop (suc i) (up_to n)) e

pub role-at : (s : Sheet) (e : ℕ) → e < length s.roles → drop e s.roles ≡ role_assertion s e ∷ drop (suc e) s.roles
role-at s e h = drop-cons s.roles e _ h

-- ---- the labels of a joint label as the code has it
-- an array of eight has as many labels as it counts
pub joint-length : (j : Labels) → length j.labels ≡ 8 → length (joint_of j) ≡ j.count
joint-length j e = let h = j.small in length-take-le j.count j.labels (omega arith)

module _ (s : Sheet) (J : theory.Joint) (a : ℕ) where
  -- where none clashes, a's does not
  pub calm-at : a < length J → closes s J ≡ false → clashes s (label J a) ≡ false
  calm-at h e = any_none (clashes s) J e (label J a) (label-in J a h)

-- ---- what an individual chooses
module _ (s : Sheet) (J : theory.Joint) (a : ℕ) where
  -- as a step: none where nothing is chosen
  abbrev own_of : Maybe Choice → JointStep
  own_of nothing = Settled
  own_of (just k) = own_step a k

  -- the first move's step is the first demand's choice
  meets-step : {o : Maybe Move} {p : Maybe Demand} → Meets s J a o p → step_of s J o ≡ own_of (choice_of p)
  meets-step settled = refl
  meets-step (meets m e) = go (wanted s J m)
    where
      go : (d : Demand) → met_by (who m) d ≡ own_of (choice_of (just d))
      go (every ms) = ap (λ (b : ℕ). Onward b (add_all blank ms)) e
      go (either x y) = ap (λ (b : ℕ). Split b x y) e

  -- what a chooses is the first step among its moves
  chooses : own_of (choice s (label J a)) ≡ step_in s J (moves_of s a)
  unfolding choice
  chooses = sym (meets-step (first-meets s J a (paired-moves s J a)))

  own-none : nothing ≡ choice s (label J a) → first (adds s J) (moves_of s a) ≡ nothing
  own-none e = step-none s J (first (adds s J) (moves_of s a)) (sym chooses ∙ ap own_of (sym e))

  own-moves : (k : Choice) → own_step a k ≡ Settled → ⊥
  own-moves (Every marks) q = let z : ◌≡◌ {A = ℕ} 0 1 = cc in omega arith
  own-moves (Either m n) q = let z : ◌≡◌ {A = ℕ} 0 1 = cc in omega arith

  -- a turn of the loop over the individuals
  module _ (g : Passed (adds s J) (moves_of s) (up_to (length J)) a) (h : a < length J) where
    pub own-on : nothing ≡ choice s (label J a) → Passed (adds s J) (moves_of s) (up_to (length J)) (a + 1)
    own-on e = pass-on g (individual-at (length J) a h) (own-none e)

    pub own-found : (k : Choice) → just k ≡ choice s (label J a) → own_step a k ≡ step_in s J (each (moves_of s) (up_to (length J)))
    own-found k e =
        let made : own_step a k ≡ step_in s J (moves_of s a) = ap own_of e ∙ chooses in
        made ∙ ap (step_of s J) (pass-found g (individual-at (length J) a h) (λ q. own-moves k (made ∙ ap (step_of s J) q)))

-- ---- the role assertions of a sheet
-- pushes one by one
pub push-each : (es : List RoleAssertion) → map push es ≡ each (λ e. push e ∷ []) es
push-each [] = refl
push-each (e ∷ es) = ap {B = List Move} (λ r. push e ∷ r) (push-each es)

-- where role assertion e stands and leads
pub record Inside (s : Sheet) (j : Labels) (e : ℕ) : Type 0 where
  pub source : (role_assertion s e).source < j.count
  pub target : (role_assertion s e).target < j.count

pub push-inside : (p : Plan) (j : Labels) (e : ℕ) → Fit (plan_sheet p) j → e < length (plan_sheet p).roles → Inside (plan_sheet p) j e
push-inside p j e fit b =
    let g = role-inside (plan_sheet p) p.prepared.well e b in
    record { source = omega (arith, fit.each-one); target = omega (arith, fit.each-one) }

-- ---- what a role assertion pushes
abbrev words : ℕ → ℕ → Label
words h f = record { holding = h; failing = f }

-- marks that are there add nothing
add_same : (l : Label) (m : Mark) → has l m ≡ true → add l m ≡ l
add_same l (holds i) e = ap (λ (w : ℕ). words w l.failing) (put-true l.holding i e)
add_same l (fails i) e = ap (λ (w : ℕ). words l.holding w) (put-true l.failing i e)

add_all-same : (l : Label) (ms : List Mark) → all (has l) ms ≡ true → add_all l ms ≡ l
add_all-same l [] e = refl
add_all-same l (m ∷ ms) e =
    ap (λ (k : Label). add_all k ms) (add_same l m (and_left (has l m) (all (has l) ms) e)) ∙ add_all-same l ms (and_right (has l m) (all (has l) ms) e)

-- as the code does it: nothing where joining changes nothing
module _ (s : Sheet) (J : theory.Joint) (e : ℕ) where
  abbrev pub ahead : Label
  ahead = label J (role_assertion s e).target

  abbrev pub pushes : List Mark
  pushes = pushed s (role_assertion s e).role (label J (role_assertion s e).source)

  module _ {marks more : Label} (m : marks ≡ add_all blank pushes) (q : more ≡ join ahead marks) where
    found-by : (b : Bool) → all (has ahead) pushes ≡ b
        → first (adds s J) (push (role_assertion s e) ∷ []) ≡ elim b as (λ _. Maybe Move) [ true ↦ nothing | false ↦ just (push (role_assertion s e)) ]
    found-by true t = ap (λ (w : Bool). elim w as (λ _. Maybe Move) [ true ↦ just (push (role_assertion s e)) | false ↦ nothing ]) (ap flip t)
    found-by false t = ap (λ (w : Bool). elim w as (λ _. Maybe Move) [ true ↦ just (push (role_assertion s e)) | false ↦ nothing ]) (ap flip t)

    more-is : more ≡ add_all ahead pushes
    more-is = q ∙ ap (join ahead) m ∙ add_all-join ahead pushes

    pub pushed_none : more ≡ ahead → Settled ≡ step_in s J (push (role_assertion s e) ∷ [])
    pushed_none h =
        sym (ap (step_of s J) (found-by true (all-intro (has ahead) pushes (λ x i. ap (λ (k : Label). has k x) (sym h ∙ more-is) ∙ add_all-has ahead pushes x i))))

    pub pushed-some : (more ≡ ahead → ⊥) → Onward (role_assertion s e).target marks ≡ step_in s J (push (role_assertion s e) ∷ [])
    pushed-some n =
        ⊎_elim
        (λ t. absurd (n (more-is ∙ add_all-same ahead pushes t)))
        (λ t. ap (Onward (role_assertion s e).target) m ∙ sym (ap (step_of s J) (found-by false t)))
        (cases (all (has ahead) pushes))

-- ---- the settled joint labels by the next step
-- what a step adds is of lines below n, for one of so many individuals, and leaves fewer of their marks unset
abbrev pub Fresh : ℕ → theory.Joint → ℕ → Mark → Type 0
Fresh n J a m = (line_of m < n) × (unset_all n (set J a (add (label J a) m)) < unset_all n J)

abbrev pub FreshBy : ℕ → ℕ → theory.Joint → JointStep → Type 0
FreshBy n size J Clashed = Unit {0}
FreshBy n size J Settled = Unit {0}
FreshBy n size J (Onward a marks) = (a < size) × (unset_all n (set J a (join (label J a) marks)) < unset_all n J)
FreshBy n size J (Split a m k) = (a < size) × Fresh n J a m × Fresh n J a k

module _ (s : Sheet) (J : theory.Joint) where
  -- the cases of the next step, theory's and the code's
  pub data View : Type 0 where
    is-clashed : next s s.roles J ≡ theory.clashed → next_of s J ≡ Clashed → View
    is-settled : closes s J ≡ false → next s s.roles J ≡ theory.settled → next_of s J ≡ Settled → View
    is-step : (m : Move) → Listed s s.roles (length J) m → adds s J m ≡ true
        → next s s.roles J ≡ meet J (who m) (wanted s J m) → next_of s J ≡ met_by (who m) (wanted s J m) → View

  view : View
  unfolding next next_of
  view = go (closes s J) refl (first (adds s J) (moves s s.roles (length J))) refl (first-is (adds s J) (moves s s.roles (length J)))
    where
      go : (b : Bool) → closes s J ≡ b → (o : Maybe Move) → first (adds s J) (moves s s.roles (length J)) ≡ o
          → Found (adds s J) (moves s s.roles (length J)) o → View
      go true e o q f = is-clashed (rw (e, next)) (rw (e, next_of))
      go false e nothing q f = is-settled e (rw (e, next, q)) (rw (e, next_of, q))
      go false e (just m) q (found i a) = is-step m (moves-elim s s.roles (length J) m i) a (rw (e, next, q)) (rw (e, next_of, q))

  -- a clash comes first
  pub next-clashed : closes s J ≡ true → Clashed ≡ next_of s J
  unfolding next_of
  next-clashed e = rw (e, next_of)

  -- the individuals' own steps, then what is pushed
  module _ (calm : closes s J ≡ false) where
    abbrev owned : Maybe Move
    owned = first (adds s J) (each (moves_of s) (up_to (length J)))

    abbrev shoved : Maybe Move
    shoved = first (adds s J) (map push s.roles)

    next-calm : step_of s J (or_else owned shoved) ≡ next_of s J
    unfolding next_of moves
    next-calm = rw (calm, next_of) (ap (step_of s J) (sym (first-append (adds s J) (each (moves_of s) (up_to (length J))) (map push s.roles))))

    pub next-own : (step_of s J owned ≡ Settled → ⊥) → step_of s J owned ≡ next_of s J
    next-own h = ap (step_of s J) (sym (or-found owned shoved (λ e. h (ap (step_of s J) e)))) ∙ next-calm

    pub next-pushed : step_of s J owned ≡ Settled → step_of s J shoved ≡ next_of s J
    next-pushed h = ap (λ (o : Maybe Move). step_of s J (or_else o shoved)) (sym (step-none s J owned h)) ∙ next-calm

  -- a settled joint label does not clash
  pub settled-calm : Settled ≡ next_of s J → closes s J ≡ false
  settled-calm e =
      ⊎_elim (λ c. let z : ◌≡◌ {A = ℕ} 0 1 = cc (next-clashed c) in absurd (omega arith)) (λ c. c) (cases (closes s J))

  -- what follows by a demand, theory's joint labels and the code's
  follow-by : (a : ℕ) (d : Demand) → follow (settle s s.roles) J (meet J a d) ≡ settle_by s J (met_by a d)
  follow-by a (every ms) = ap (λ (k : Label). settle s s.roles (set J a k)) (sym (add_all-join (label J a) ms))
  follow-by a (either m n) = refl

  fresh-by : (n a : ℕ) (d : Demand) → a < length J → DemandBelow n d → Less n J a d → FreshBy n (length J) J (met_by a d)
  fresh-by n a (every ms) i b h = rw (add_all-join (label J a) ms) (i, h)
  fresh-by n a (either m k) i b h = (i, (b.0, h.0), (b.1, h.1))

  module _ (wf : WellFormed s) (fits : Fits s.roles (length J)) where
    -- the settled joint labels are those of the joint labels that follow
    pub joint-settles : settle s s.roles J ≡ settle_by s J (next_of s J)
    joint-settles =
        settle-law s wf s.roles (length J) fits J refl
        ∙ elim view [
          | is-clashed e q ↦ rw (e, q)
          | is-settled c e q ↦ rw (e, q)
          | is-step m i a e q ↦ rw (e, q) (follow-by (who m) (wanted s J m))
        ]

    -- which have fewer marks unset
    pub joint-fresh : (n : ℕ) → count s ≤ n → FreshBy n (length J) J (next_of s J)
    joint-fresh n le =
        elim view [
          | is-clashed e q ↦ rw q tt
          | is-settled c e q ↦ rw q tt
          | is-step m i a e q ↦
              let w = who-below s wf s.roles (length J) fits m i in
              let b = below-mono (count s) n (wanted s J m) le (wanted-below s wf s.roles J (length J) m i) in
              rw q (fresh-by n (who m) (wanted s J m) w b (meet-less n J (who m) (wanted s J m) w b (not-true _ a)))
        ]

-- ---- over a plan, by the step k that the code has made
module _ (p : Plan) (j : Labels) (fit : Fit (plan_sheet p) j) (long : length (joint_of j) ≡ j.count)
    (k : JointStep) (made : k ≡ next_of (plan_sheet p) (joint_of j)) where
  -- the role assertions' targets have labels
  labelled : Fits (plan_sheet p).roles (length (joint_of j))
  labelled e i = omega (arith, ((well-formed (plan_sheet p) p.prepared.well).roles e i).1, fit.each-one)

  pub stepped_fresh : FreshBy 32 j.count (joint_of j) k
  stepped_fresh =
      subst (λ (n : ℕ). FreshBy 32 n (joint_of j) k) long
      (rw made (joint-fresh (plan_sheet p) (joint_of j) (well-formed (plan_sheet p) p.prepared.well) labelled 32 (lines_fit p)))

  pub stepped-settles : settle (plan_sheet p) (plan_sheet p).roles (joint_of j) ≡ settle_by (plan_sheet p) (joint_of j) k
  stepped-settles = joint-settles (plan_sheet p) (joint_of j) (well-formed (plan_sheet p) p.prepared.well) labelled ∙ ap (settle_by (plan_sheet p) (joint_of j)) (sym made)

-- r is j with f of its label at a, as the code makes it
module _ (j r : Labels) (a : ℕ) (f : Label → Label) (l : Label)
    (e : l ≡ f (label (joint_of j) a)) (w : (joint_of r ≡ set (joint_of j) a l) × (r.count ≡ j.count)) where
  pub with-is : joint_of r ≡ set (joint_of j) a (f (label (joint_of j) a))
  with-is = w.0 ∙ ap (set (joint_of j) a) e

  pub with-fits : (s : Sheet) → Fit s j → Fit s r
  with-fits s g = record { each-one = w.1 ∙ g.each-one }

  -- a measure t that falls
  pub with-falls : (n t : ℕ) → unset_all n (joint_of j) ≡ t
      → unset_all n (set (joint_of j) a (f (label (joint_of j) a))) < unset_all n (joint_of j) → unset_all n (joint_of r) < t
  with-falls n t q h = rw (with-is, ← q) h
