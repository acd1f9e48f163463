-- Theorem C: which seeds are satisfiable, and that a sheet has a finite interpretation exactly where a joint label with satisfiable seeds is found.
use Rattle.std.specs.Prelude.{ℕ, zero, suc, ◌<◌, max, ◌+◌, false, ◌&&◌, ◌↔◌, replicate}
use Rattle.std.proofs.Math.Bool.{true}
use Rattle.std.proofs.Math.Path.{◌≡◌, refl}
use Rattle.std.proofs.Common.{sym, ◌∙◌, subst, ⊎_elim, length-set, arith}
use mathlib.Core.List.Memᴰ
use mathlib.Core.List.{List, [], ◌∷◌, map}
use Rattle.std.proofs.Math.ListN.{length, length-replicate}
use Rattle.alc.specs.Lists.{each, all, nothing, Maybe, just, ◌∈◌, first}
use Rattle.alc.specs.Sheet.{ClassAssertion, RoleAssertion, count, Sheet}
use Rattle.alc.specs.Meaning.{meets_roles, meets_classes, meets, meets_rules, truth, Interpretation}
use Rattle.alc.specs.Label.{TrueAt, clashes, line_of, blank, mark_true, Label, holds, has}
use Rattle.alc.specs.Settle.{label, settle, Joint, mark_at}
use Rattle.alc.specs.Seeds.{bound, reach, Ask, among, seeds, seed_survives, fine, asks, SeedSatisfiable, expansions, survivors, successors, include_all}
use Rattle.alc.specs.Seeds.{universe}
use Rattle.alc.specs.Judge.{entries, SatisfiableWith, start, Entry, EntriesTrue, enter, first_fine, settled_joints}
use Rattle.alc.specs.Model.{chosen, model_seeds, or_blank, element_of}
use Rattle.alc.proofs.Theorems.Lists.{tests_same, each-elim, all-elim, first-is, and_left, and_right, clashing, here, Found, and_both, all-intro, there}
use Rattle.alc.proofs.Theorems.Lists.{each-intro, missing, found, any_none}
use Rattle.alc.proofs.Theorems.Sheet.{WellFormed}
use Rattle.alc.proofs.Theorems.Meaning.{roles-elim, classes-elim}
use Rattle.alc.proofs.Theorems.Label.{has-blank}
use Rattle.alc.proofs.Theorems.Moves.{label-in, add_all-has, label-mark, label-of}
use Rattle.alc.proofs.Theorems.Steps.{Settled}
use Rattle.alc.proofs.Theorems.Settle.{settle-finds, Extends, extends-trans, Fits, mark-extends}
use Rattle.alc.proofs.Theorems.Keeps.{mark-true, AllTrue, settle-keeps}
use Rattle.alc.proofs.Theorems.Seeds.{among_in, seeds-in, blank-asks, among-true}
use Rattle.alc.proofs.Theorems.Witness.{asked-true}
use Rattle.alc.proofs.Theorems.Expand.{expand-keeps, expand-finds}
use Rattle.alc.proofs.Theorems.Family.{family-true, family-rules, family-roles, family, family-element}
use Rattle.alc.proofs.Theorems.Survive.{Closed, survivors-good, survivor-satisfiable, satisfiable-survives}
use Rattle.alc.proofs.Theorems.Bound.{seed-in-universe}
use Rattle.alc.proofs.Theorems.Reach.{ClosedBy, include_all-all, closed-by-successors, grown-in, include_all-grown, successors-known, reach-closed}
use Rattle.alc.proofs.Theorems.Reach.{grown-refl, again, reach-all, Grows}

-- the entries are of individuals (or the unnamed element, 0) and lines of the sheet
abbrev pub EntriesFit : Sheet → List Entry → Type 0
EntriesFit s xs = (x : Entry) → x ∈ xs → (x.individual < max 1 s.individuals) × (line_of x.mark < count s)

-- ---- where the class assertions are entered
enter-extends : (xs : List Entry) (J : Joint) → Extends J (enter xs J)
enter-extends [] J = record { size = refl; more = λ a m e. e }
enter-extends (x ∷ xs) J =
    extends-trans J (mark_at J x.individual (x.mark ∷ [])) _ (mark-extends J x.individual (x.mark ∷ []))
    (enter-extends xs (mark_at J x.individual (x.mark ∷ [])))

enter-has : (xs : List Entry) (J : Joint) (x : Entry) → x ∈ xs → x.individual < length J → has (label (enter xs J) x.individual) x.mark ≡ true
enter-has [] J x h b = absurd (Memᴰ.not-nil h)
enter-has (d ∷ xs) J x h b =
    let K = mark_at J d.individual (d.mark ∷ []) in
    ⊎_elim
    (λ (q : x ≡ d).
    let b' : d.individual < length J = subst (λ (y : Entry). y.individual < length J) q b in
    let now : has (label K d.individual) d.mark ≡ true = rw (label-mark J d.individual (d.mark ∷ []) b')
    (add_all-has (label J d.individual) (d.mark ∷ []) d.mark here) in
    subst (λ (y : Entry). has (label (enter xs K) y.individual) y.mark ≡ true) (sym q) ((enter-extends xs K).more d.individual d.mark now))
    (λ m. enter-has xs K x m (rw (length-set J d.individual) b))
    (Memᴰ.cases_cons h)

-- the class assertions are entries
class-entry : (s : Sheet) (xs : List Entry) (c : ClassAssertion) → c ∈ s.classes
    → record { individual = c.individual; mark = holds c.class } ∈ entries s xs
class-entry s xs c h = Memᴰ.append_left xs (Memᴰ.map (λ (c : ClassAssertion). record { individual = c.individual; mark = holds c.class }) h)

entries-all {ℓ} : (P : Entry → Type ℓ) (s : Sheet) (xs : List Entry)
    → ((c : ClassAssertion) → c ∈ s.classes → P (record { individual = c.individual; mark = holds c.class }))
    → ((x : Entry) → x ∈ xs → P x) → (x : Entry) → x ∈ entries s xs → P x
entries-all P s xs p q x h =
    ⊎_elim
    (λ m. let (c, c-in, e) = Memᴰ.of_map (λ (c : ClassAssertion). record { individual = c.individual; mark = holds c.class }) s.classes m in
    subst P e (p c c-in))
    (λ m. q x m)
    (Memᴰ.append_cases (map (λ (c : ClassAssertion). record { individual = c.individual; mark = holds c.class }) s.classes) h)

label-replicate : (n a : ℕ) → label (replicate n blank) a ≡ blank
label-replicate zero a = refl
label-replicate (suc n) zero = refl
label-replicate (suc n) (suc a) = label-replicate n a

module _ (s : Sheet) (xs : List Entry) where
  pub start-length : length (start s xs) ≡ max 1 s.individuals
  unfolding start
  start-length = (enter-extends (entries s xs) (replicate (max 1 s.individuals) blank)).size ∙ length-replicate (max 1 s.individuals) blank

  start_has : (x : Entry) → x ∈ entries s xs → x.individual < max 1 s.individuals → has (label (start s xs) x.individual) x.mark ≡ true
  unfolding start
  start_has x h b =
      enter-has (entries s xs) (replicate (max 1 s.individuals) blank) x h
      (omega (arith, length-replicate {A = Label} (max 1 s.individuals) blank))

-- ---- the empty list, to begin with
pub nothing_yet : (s : Sheet) → Grows s [] []
nothing_yet s = grown-refl s [] tt (λ l h. absurd (Memᴰ.not-nil h))

-- the seeds of clash-free labels are in the universe
pub seeds-known : (s : Sheet) (k q : Label) → clashes s k ≡ false → q ∈ seeds s k → q ∈ universe s
seeds-known s k q c h = let (a, a_in, e) = Memᴰ.of_map (λ (a : Ask). a.seed) (asks s k) h in Memᴰ.cast (sym e) (seed-in-universe s k c a a_in)

module _ (s : Sheet) (wf : WellFormed s) where
  -- ---- the test for satisfiable seeds is right
  pub seed-sound : (l : Label) → seed_survives s l ≡ true → SeedSatisfiable s l
  unfolding seed_survives
  seed-sound l e =
      let C = reach (successors s) (bound s) 0 (l ∷ []) in
      survivor-satisfiable s (survivors s C) (survivors-good s C) wf l (among-true l (survivors s C) e)

  pub seed-complete : (l : Label) → l ∈ universe s → SeedSatisfiable s l → seed_survives s l ≡ true
  unfolding seed_survives
  seed-complete l u sat =
      let C = reach (successors s) (bound s) 0 (l ∷ []) in
      let g₀ : Grows s (l ∷ []) (l ∷ []) = grown-refl s (l ∷ []) ((λ m. Memᴰ.not-nil m), tt) (λ k m. Memᴰ.cast (Memᴰ.eq_of_singleton m) u) in
      let (g, cl) = reach-closed s (successors s) (successors-known s) (bound s) 0 (l ∷ []) g₀ (λ j j< j<C q i. absurd (omega arith)) (omega arith) in
      among_in l (survivors s C) (satisfiable-survives s wf C (closed-by-successors s C cl) l (grown-in s (l ∷ []) C g l here) sat)

  -- a seed is left over exactly if it is satisfiable
  pub seed-test : (l : Label) → l ∈ universe s → (seed_survives s l ≡ true) ↔ SeedSatisfiable s l
  seed-test l u = (seed-sound l, seed-complete l u)

  -- for an engine that strikes out over one list for all seeds: what survives in any closed list is what is satisfiable
  pub survives-is : (D : List Label) → Closed s D → (l : Label) → l ∈ D → l ∈ universe s → among l (survivors s D) ≡ seed_survives s l
  survives-is D cl l h u =
      tests_same (among l (survivors s D)) (seed_survives s l)
      (λ e. seed-complete l u (survivor-satisfiable s (survivors s D) (survivors-good s D) wf l (among-true l (survivors s D) e)))
      (λ e. among_in l (survivors s D) (satisfiable-survives s wf D cl l h (seed-sound l e)))

  -- the seeds of a label that is true somewhere are satisfiable
  true-fine : (I : Interpretation) → meets_rules s I ≡ true → (k : Label) (x : ℕ) → clashes s k ≡ false → TrueAt s I k x → fine s k ≡ true
  unfolding fine
  true-fine I mr k x c t = all-intro (seed_survives s) (seeds s k) (λ q h.
      let (a, a_in, e) = Memᴰ.of_map (λ (a : Ask). a.seed) (asks s k) h in
      let (y, y<, u) = asked-true s wf I k x t a a_in in
      rw (← e) (seed-complete a.seed (seed-in-universe s k c a a_in) (record { interpretation = I; meets = mr; element = y; inside = y<; true-there = u })))

  fine-elim : (k : Label) → fine s k ≡ true → (q : Label) → q ∈ seeds s k → seed_survives s q ≡ true
  unfolding fine
  fine-elim k e = all-elim (seed_survives s) (seeds s k) e

  -- a satisfiable seed has an expansion whose seeds are satisfiable
  pub chosen_is : (l : Label) → seed_survives s l ≡ true → (chosen s l ∈ expansions s l) × (fine s (chosen s l) ≡ true)
  unfolding chosen
  chosen_is l e = go (first (fine s) (expansions s l)) (first-is (fine s) (expansions s l))
    where
      go : (o : Maybe Label) → Found (fine s) (expansions s l) o → (or_blank o ∈ expansions s l) × (fine s (or_blank o) ≡ true)
      go nothing (missing n) =
          let sat = seed-sound l e in
          let (k, k-in, t) = expand-keeps s wf sat.interpretation sat.meets l sat.element sat.inside sat.true-there in
          let (quiet, more) = expand-finds s l k k-in in
          clashing (fine s k) (true-fine sat.interpretation sat.meets k sat.element quiet.clear t) (n k k-in)
      go (just k) (found i f) = (i, f)

  -- the seeds of the chosen expansion are among those of every expansion; a blank one, if none was fine, has none
  pub chosen-next : (l q : Label) → q ∈ seeds s (chosen s l) → q ∈ successors s l
  unfolding chosen successors
  chosen-next l q h = go (first (fine s) (expansions s l)) (first-is (fine s) (expansions s l)) h
    where
      go : (o : Maybe Label) → Found (fine s) (expansions s l) o → q ∈ seeds s (or_blank o) → q ∈ each (seeds s) (expansions s l)
      go nothing f i = let (a, a_in, e) = Memᴰ.of_map (λ (a : Ask). a.seed) (asks s blank) i in absurd (blank-asks s a a_in)
      go (just k) (found k-in t) i = each-intro (seeds s) (expansions s l) k-in i

  -- ---- one half: the model that is written
  module _ (xs : List Entry) (fit : EntriesFit s xs) (K : Joint) (K-in : K ∈ settled_joints s xs) (ok : all (fine s) K ≡ true) where
    pub done : Settled s s.roles K
    unfolding settled_joints
    done = (settle-finds s s.roles (start s xs) K K-in).0

    pub more : Extends (start s xs) K
    unfolding settled_joints
    more = (settle-finds s s.roles (start s xs) K K-in).1

    pub pos : 0 < length K
    pos = omega (arith, more.size, start-length s xs)

    pub fits : (e : RoleAssertion) → e ∈ s.roles → (e.source < length K) × (e.target < length K)
    fits e h = let (a, b) = wf.roles e h in omega (arith, more.size, start-length s xs)

    abbrev pub B : List Label
    B = model_seeds s K

    B-satisfiable : (l : Label) → l ∈ B → seed_survives s l ≡ true
    unfolding model_seeds
    B-satisfiable =
        reach-all (λ l. seed_survives s l ≡ true) (λ l. seeds s (chosen s l)) (λ l e q i. fine-elim (chosen s l) (chosen_is l e).1 q i)
        (bound s) 0 (include_all [] (each (seeds s) K))
        (include_all-all (λ l. seed_survives s l ≡ true) [] (each (seeds s) K) (λ l h. absurd (Memᴰ.not-nil h))
        (λ q h. let (l, l-in, i) = each-elim (seeds s) K h in fine-elim l (all-elim (fine s) K ok l l-in) q i))

    B-grown : Grows s (include_all [] (each (seeds s) K)) B × ClosedBy (λ l. seeds s (chosen s l)) B
        × ((q : Label) → q ∈ each (seeds s) K → q ∈ include_all [] (each (seeds s) K))
    unfolding model_seeds
    B-grown =
        let (g, all_in) = include_all-grown s [] (each (seeds s) K) (nothing_yet s) (λ q h.
        let (l, l-in, i) = each-elim (seeds s) K h in seeds-known s l q (any_none (clashes s) K done.clear l l-in) i) in
        let (g₁, cl) = reach-closed s (λ l. seeds s (chosen s l)) (λ l q i. successors-known s l q (chosen-next l q i)) (bound s) 0
        (include_all [] (each (seeds s) K))
        (again s [] (include_all [] (each (seeds s) K)) g) (λ j j< j<C q i. absurd (omega arith)) (omega arith) in
        (g₁, cl, all_in)

    pub ch-in : (l : Label) → l ∈ B → chosen s l ∈ expansions s l
    ch-in l h = (chosen_is l (B-satisfiable l h)).0

    pub ch-closed : (l : Label) → l ∈ B → (q : Ask) → q ∈ asks s (chosen s l) → q.seed ∈ B
    ch-closed l h q i = B-grown.1 l h q.seed (seeds-in s (chosen s l) q i)

    pub first-asked : (a : ℕ) → a < length K → (q : Ask) → q ∈ asks s (label K a) → q.seed ∈ B
    first-asked a h q i =
        grown-in s (include_all [] (each (seeds s) K)) B B-grown.0 q.seed
        (B-grown.2 q.seed (each-intro (seeds s) K (label-in K a h) (seeds-in s (label K a) q i)))

    abbrev pub written : Interpretation
    written = family s wf s.roles K pos done fits B (chosen s) ch-in ch-closed first-asked

    written_entry : (x : Entry) → x ∈ entries s xs → x.individual < max 1 s.individuals → line_of x.mark < count s
        → mark_true s written x.mark (element_of (length K + length B) x.individual) ≡ true
    written_entry x h a b =
        let x< : x.individual < length K = omega (arith, more.size, start-length s xs) in
        rw (family-element s wf s.roles K pos done fits B (chosen s) ch-in ch-closed first-asked x.individual x<)
        (family-true s wf s.roles K pos done fits B (chosen s) ch-in ch-closed first-asked x.individual x<
        x.mark b (more.more x.individual x.mark (start_has s xs x h a)))

    written-classes : meets_classes s written ≡ true
    unfolding meets_classes
    written-classes = all-intro (λ (c : ClassAssertion). truth s written c.class (element_of (length K + length B) c.individual)) s.classes (λ c h.
        let (a, b) = wf.classes c h in written_entry (record { individual = c.individual; mark = holds c.class }) (class-entry s xs c h) (omega arith) b)

    written-roles : meets_roles s written ≡ true
    unfolding meets_roles
    written-roles = all-intro (λ (e : RoleAssertion). written.in_role e.role (element_of (length K + length B) e.source)
        (element_of (length K + length B) e.target)) s.roles
        (family-roles s wf s.roles K pos done fits B (chosen s) ch-in ch-closed first-asked)

    pub written-meets : meets s written ≡ true
    written-meets =
        and_both (meets_rules s written && meets_classes s written) _
        (and_both (meets_rules s written) _ (family-rules s wf s.roles K pos done fits B (chosen s) ch-in ch-closed first-asked) written-classes)
        written-roles

    pub written-entries : EntriesTrue s written xs
    written-entries x h =
        let (a, b) = fit x h in
        written_entry x (Memᴰ.append_right (map (λ (c : ClassAssertion). record { individual = c.individual; mark = holds c.class }) s.classes) h) a b

  pub first-in : (xs : List Entry) (K : Joint) → first_fine s xs ≡ just K → (K ∈ settled_joints s xs) × (all (fine s) K ≡ true)
  unfolding first_fine
  first-in xs K e = go (first (all (fine s)) (settled_joints s xs)) e (first-is (all (fine s)) (settled_joints s xs))
    where
      go : (o : Maybe Joint) → o ≡ just K → Found (all (fine s)) (settled_joints s xs) o → (K ∈ settled_joints s xs) × (all (fine s) K ≡ true)
      go nothing q f = absurd (let z : ◌≡◌ {A = ℕ} 0 1 = cc in omega arith)
      go (just L) q (found i t) =
          let p : K ≡ L = cc in
          (Memᴰ.cast p i, rw p t)

  -- Theorem C, one half
  pub found-satisfiable : (xs : List Entry) → EntriesFit s xs → (K : Joint) → first_fine s xs ≡ just K → SatisfiableWith s xs
  found-satisfiable xs fit K e =
      let (K-in, ok) = first-in xs K e in
      (written xs fit K K-in ok, written-meets xs fit K K-in ok, written-entries xs fit K K-in ok)

  -- ---- the other half
  enter-true : (I : Interpretation) (mr : meets_rules s I ≡ true)
      (edges : (e : RoleAssertion) → e ∈ s.roles → I.in_role e.role (I.denotes e.source) (I.denotes e.target) ≡ true)
      → (xs : List Entry) → EntriesTrue s I xs → (J : Joint) → AllTrue s I I.denotes J → AllTrue s I I.denotes (enter xs J)
  enter-true I mr edges [] h J t = t
  enter-true I mr edges (x ∷ xs) h J t =
      enter-true I mr edges xs (λ d i. h d (there i)) (mark_at J x.individual (x.mark ∷ []))
      (mark-true s wf I mr s.roles I.denotes I.denoted edges J x.individual (x.mark ∷ []) t
      (λ m i. rw (Memᴰ.eq_of_singleton i) (h x here)))

  start-true : (xs : List Entry) (I : Interpretation) → meets_rules s I ≡ true → meets_classes s I ≡ true
      → ((e : RoleAssertion) → e ∈ s.roles → I.in_role e.role (I.denotes e.source) (I.denotes e.target) ≡ true)
      → EntriesTrue s I xs → AllTrue s I I.denotes (start s xs)
  unfolding start
  start-true xs I rules classes edges more =
      enter-true I rules edges (entries s xs)
      (entries-all (λ x. mark_true s I x.mark (I.denotes x.individual) ≡ true) s xs (classes-elim s I classes) more)
      (replicate (max 1 s.individuals) blank)
      (λ a k b e. clashing (has blank k) (rw (label-replicate (max 1 s.individuals) a) at e) (has-blank k))

  -- Theorem C, the other half
  pub satisfiable-found : (xs : List Entry) → SatisfiableWith s xs → (K : Joint) × (first_fine s xs ≡ just K)
  unfolding first_fine settled_joints
  satisfiable-found xs (I, m, more) =
      let rules : meets_rules s I ≡ true = search (and_left, and_right) in
      let classes : meets_classes s I ≡ true = search (and_left, and_right) in
      let roles : meets_roles s I ≡ true = search (and_left, and_right) in
      let edges = roles-elim s I roles in
      let fits : Fits s.roles (length (start s xs)) = λ e h. omega (arith, start-length s xs, (wf.roles e h).1) in
      let (K, K-in, t) = settle-keeps s wf I rules s.roles I.denotes I.denoted edges (length (start s xs)) fits (start s xs) refl
      (start-true xs I rules classes edges more) in
      let (done, ext) = settle-finds s s.roles (start s xs) K K-in in
      let ok : all (fine s) K ≡ true = all-intro (fine s) K (λ l l-in.
      let (a, a<, e) = label-of K l l-in in
      true-fine I rules l (I.denotes a) (any_none (clashes s) K done.clear l l-in) (subst (λ (x : Label). TrueAt s I x (I.denotes a)) e (t a))) in
      go (first (all (fine s)) (settle s s.roles (start s xs))) (first-is (all (fine s)) (settle s s.roles (start s xs))) K K-in ok
    where
      go : (o : Maybe Joint) → Found (all (fine s)) (settle s s.roles (start s xs)) o
          → (K : Joint) → K ∈ settle s s.roles (start s xs) → all (fine s) K ≡ true → (J : Joint) × (o ≡ just J)
      go nothing (missing n) K h e = clashing (all (fine s) K) e (n K h)
      go (just J) f K h e = (J, refl)
