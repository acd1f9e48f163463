-- The model's seeds brought to the front of the records: what exchanging two records keeps, what one seed more at the front is,
-- the loops that bring the seeds of a label and of a joint label, and the walk over the chosen expansions.
use Prim.Native.Nat.{ℕ, zero, suc, ◌+◌, ◌-◌, ◌≤◌, ◌<◌}
use mathlib.Core.Bool.{Bool, true, false, cond}
use mathlib.Core.Path.{◌≡◌, refl, sym, ◌∙◌, ap, subst}
use mathlib.Core.Logic.{⊎_elim}
use mathlib.Core.List.Memᴰ
use mathlib.Core.List.{List, [], ◌∷◌, ◌++◌, map, map-append}
use lib.ListN.{length, take, drop, get_or, set, length-set, drop_of_length-le}
use lib.Seq.{drop-cons, get_or-set_same, get_or-set_other, take-suc-set, take-set-le}
use lib.Dec.{eqb}
use borrow.Author.Tests.{eq-eqb, ne_eqb, lt-ltb, le-ltb}
use native.Mathlib.Numerals.{add-one}
use native.Mathlib.Omega.{arith}
use Rattle.std.specs.Prelude.{Option as Maybe, None as nothing, Some as just}
use Rattle.std.specs.Option.{unwrap_or}
use Rattle.std.specs.List.{swap}
use Rattle.std.proofs.lemmas.List.Edits.{swap_is}
use Rattle.alc.specs.Lists.{◌∈◌, Distinct, each, first}
use Rattle.alc.specs.Sheet.{Sheet}
use Rattle.alc.specs.declared.Label.{Label}
use Rattle.alc.specs.Label.{blank}
use Rattle.alc.specs.Settle as theory
use Rattle.alc.specs.Settle.{label}
use Rattle.alc.specs.declared.Ask.{Ask}
use Rattle.alc.specs.Seeds.{asks, bound, expansions, fine, include, include_all, reach, seeds, seed_survives, served, successors, universe}
use Rattle.alc.specs.Model.{or_blank, chosen, model_seeds, label_at}
use Rattle.alc.proofs.Theorems.Lists.{cases, each-elim, here, same?, there}
use Rattle.alc.proofs.Theorems.Moves.{label-of}
use Rattle.alc.proofs.Theorems.Reach.{include-step, include_all-append}
use Rattle.alc.proofs.Theorems.Counting.{pigeon}
use Rattle.alc.proofs.Theorems.Bound.{length-universe}
use Rattle.alc.proofs.Theorems.Sheet.{WellFormed}
use Rattle.alc.proofs.Theorems.Decides.{chosen-next}
use Rattle.tableau.specs.Records.{word_of, label_of, recorded, found_at}
use Rattle.tableau.specs.Walks.{Lent, standing}
use Rattle.engine.specs.Ledger.{Known}
use Rattle.edges.specs.Keys.{SeedsIn}
use Rattle.order.specs.Sound.{Sound, Shuffled}
use Rattle.tableau.proofs.Buffers.{distinct-place, found-label, in-found}
use Rattle.engine.proofs.Ledgers.{recorded-at, length-recorded, recorded-in, standing-in, stand-fine}

-- ---- two places exchanged
abbrev exchanged : List ℕ → ℕ → ℕ → List ℕ
exchanged b i j = set (set b i (get_or b j 0)) j (get_or b i 0)

-- where the word at place k was before
abbrev origin : ℕ → ℕ → ℕ → ℕ
origin i j k = cond (eqb k j) i (cond (eqb k i) j k)

module _ (i j : ℕ) where
  origin-second : origin i j j ≡ i
  origin-second = rw (eq-eqb j j refl)

  origin-first : origin i j i ≡ j
  origin-first = ⊎_elim (λ (e : i ≡ j). rw (eq-eqb i j e) e) (λ (n : i ≡ j → ⊥). rw (ne_eqb i j n, eq-eqb i i refl)) (same? i j)

  origin-other : (k : ℕ) → (k ≡ i → ⊥) → (k ≡ j → ⊥) → origin i j k ≡ k
  origin-other k n m = rw (ne_eqb k j m, ne_eqb k i n)

  -- by cases on the place
  origin-cases : (P : ℕ → Type 0) → P i → P j → ((k : ℕ) → (k ≡ i → ⊥) → (k ≡ j → ⊥) → P k) → (k : ℕ) → P k
  origin-cases P a b c k = ⊎_elim (λ e. subst P (sym e) a) (λ n. ⊎_elim (λ e. subst P (sym e) b) (λ m. c k n m) (same? k j)) (same? k i)

  origin-twice : (k : ℕ) → origin i j (origin i j k) ≡ k
  origin-twice = origin-cases (λ k. origin i j (origin i j k) ≡ k)
      (ap (origin i j) origin-first ∙ origin-second)
      (ap (origin i j) origin-second ∙ origin-first)
      (λ k n m. ap (origin i j) (origin-other k n m) ∙ origin-other k n m)

  origin-below : (n : ℕ) → i < n → j < n → (k : ℕ) → k < n → origin i j k < n
  origin-below n i< j< = origin-cases (λ k. k < n → origin i j k < n)
      (λ h. rw origin-first j<)
      (λ h. rw origin-second i<)
      (λ k a b h. rw (origin-other k a b) h)

  length_exchanged : (b : List ℕ) → length (exchanged b i j) ≡ length b
  length_exchanged b = length-set (set b i (get_or b j 0)) j (get_or b i 0) ∙ length-set b i (get_or b j 0)

  module _ (b : List ℕ) (i< : i < length b) (j< : j < length b) where
    exchanged-at : (k : ℕ) → get_or (exchanged b i j) k 0 ≡ get_or b (origin i j k) 0
    exchanged-at k =
        let c = set b i (get_or b j 0) in
        ⊎_elim
        (λ (e : k ≡ j). ap (λ (x : ℕ). get_or (set c j (get_or b i 0)) x 0) e
        ∙ get_or-set_same c j (get_or b i 0) 0 (omega (arith, length-set b i (get_or b j 0)))
        ∙ ap (λ (x : ℕ). get_or b x 0) (sym origin-second ∙ ap (origin i j) (sym e)))
        (λ (n : k ≡ j → ⊥). get_or-set_other c j k (get_or b i 0) 0 n
        ∙ ⊎_elim
        (λ (e : k ≡ i). ap (λ (x : ℕ). get_or c x 0) e ∙ get_or-set_same b i (get_or b j 0) 0 i< ∙ ap (λ (x : ℕ). get_or b x 0) (sym origin-first ∙ ap (origin i j) (sym e)))
        (λ (m : k ≡ i → ⊥). get_or-set_other b i k (get_or b j 0) 0 m ∙ ap (λ (x : ℕ). get_or b x 0) (sym (origin-other k m n)))
        (same? k i))
        (same? k j)

-- ---- shuffled records
-- a list is distinct where no two places have the same label
places-distinct : (C : List Label) → ((i j : ℕ) → i < length C → j < length C → label C i ≡ label C j → i ≡ j) → Distinct C
places-distinct [] h = tt
places-distinct (l ∷ C) h = (
  λ m. let (a, a<, e) = label-of C l m in let q : suc a ≡ 0 = h (suc a) 0 (omega arith) (omega arith) e in omega arith,
  places-distinct C (λ i j i< j< e. let q : suc i ≡ suc j = h (suc i) (suc j) (omega arith) (omega arith) e in omega arith),
)

-- one place for each record
one_place : (used : ℕ) (recs : List ℕ) → used ≤ length recs → Distinct (recorded used recs) → (i j : ℕ) → i < used → j < used → label_of (get_or recs i 0) ≡ label_of (get_or recs j 0) → i ≡ j
one_place used recs enough distinct i j i< j< e =
    let size = length-recorded used recs enough in
    distinct-place (recorded used recs) distinct i j (omega arith) (omega arith) (recorded-at used recs i i< ∙ e ∙ sym (recorded-at used recs j j<))

module _ {used : ℕ} {recs marks : List ℕ} where
  pub shuffled-none : Lent used recs marks → Shuffled used recs marks recs marks
  shuffled-none lent = record { size = refl; marked = refl; lent = lent; recorded-same = λ l. (λ h. h, λ h. h); standing-same = λ l. (λ h. h, λ h. h) }

  pub shuffled-more : {recs₁ marks₁ recs₂ marks₂ : List ℕ} → Shuffled used recs marks recs₁ marks₁ → Shuffled used recs₁ marks₁ recs₂ marks₂ → Shuffled used recs marks recs₂ marks₂
  shuffled-more g h = record {
    size = h.size ∙ g.size;
    marked = h.marked ∙ g.marked;
    lent = h.lent;
    recorded-same = λ l. (λ m. (g.recorded-same l).0 ((h.recorded-same l).0 m), λ m. (h.recorded-same l).1 ((g.recorded-same l).1 m));
    standing-same = λ l. (λ m. (g.standing-same l).0 ((h.standing-same l).0 m), λ m. (h.standing-same l).1 ((g.standing-same l).1 m));
  }

  -- right records stay right
  pub sound-shuffled : {s : Sheet} {recs' marks' : List ℕ} → Shuffled used recs marks recs' marks' → Sound s used recs marks → Sound s used recs' marks'
  sound-shuffled {s} {recs'} {marks'} g sound = record {
    lent = g.lent;
    known = record { distinct = g.lent.distinct; known = λ l h. sound.known.known l ((g.recorded-same l).0 h) };
    closed = λ l h k k-in q q-in. (g.recorded-same q.seed).1 (sound.closed l ((g.recorded-same l).0 h) k k-in q q-in);
    right = λ i i<.
        let l = label_of (get_or recs' i 0) in (
          λ z. let (k, k<, y, e) = (standing-in used recs marks l).0 ((g.standing-same l).0 ((standing-in used recs' marks' l).1 (i, i<, z, refl))) in
              subst (λ (x : Label). seed_survives s x ≡ true) e ((sound.right k k<).0 y),
          λ t. let (k, k<, e) = (recorded-in used recs sound.lent.enough l).0 ((g.recorded-same l).0 ((recorded-in used recs' g.lent.enough l).1 (i, i<, refl))) in
              let y : get_or marks k 0 ≡ 0 = (sound.right k k<).1 (subst (λ (x : Label). seed_survives s x ≡ true) (sym e) t) in
              let (n, n<, z, d) = (standing-in used recs' marks' l).0 ((g.standing-same l).1 ((standing-in used recs marks l).1 (k, k<, y, e))) in
              subst (λ (x : ℕ). get_or marks' x 0 ≡ 0) (one_place used recs' g.lent.enough g.lent.distinct n i n< i< d) z,
        );
  }

-- exchanging two records, and their marks, shuffles them
module _ (used : ℕ) (recs marks : List ℕ) (lent : Lent used recs marks) (i j : ℕ) (i< : i < used) (j< : j < used) where
  abbrev was : ℕ → ℕ
  was = origin i j

  was-below : (k : ℕ) → k < used → was k < used
  was-below = origin-below i j used i< j<

  record-was : (k : ℕ) → get_or (exchanged recs i j) k 0 ≡ get_or recs (was k) 0
  record-was = exchanged-at i j recs (omega (arith, lent.enough)) (omega (arith, lent.enough))

  mark_was : (k : ℕ) → get_or (exchanged marks i j) k 0 ≡ get_or marks (was k) 0
  mark_was = exchanged-at i j marks (omega (arith, lent.marked)) (omega (arith, lent.marked))

  -- and the other way round
  record-now : (k : ℕ) → get_or (exchanged recs i j) (was k) 0 ≡ get_or recs k 0
  record-now k = record-was (was k) ∙ ap (λ (x : ℕ). get_or recs x 0) (origin-twice i j k)

  mark-now : (k : ℕ) → get_or (exchanged marks i j) (was k) 0 ≡ get_or marks k 0
  mark-now k = mark_was (was k) ∙ ap (λ (x : ℕ). get_or marks x 0) (origin-twice i j k)

  enough' : used ≤ length (exchanged recs i j)
  enough' = omega (arith, lent.enough, length_exchanged i j recs)

  shuffled-one : Shuffled used recs marks (exchanged recs i j) (exchanged marks i j)
  shuffled-one = record {
    size = length_exchanged i j recs;
    marked = length_exchanged i j marks;
    lent = record {
      enough = enough';
      marked = omega (arith, lent.marked, length_exchanged i j marks);
      distinct = places-distinct (recorded used (exchanged recs i j)) (λ a b a< b< e.
          let size = length-recorded used (exchanged recs i j) enough' in
          let a< : a < used = omega arith in
          let b< : b < used = omega arith in
          let same : was a ≡ was b =
          one_place used recs lent.enough lent.distinct (was a) (was b) (was-below a a<) (was-below b b<)
          (ap label_of (sym (record-was a)) ∙ sym (recorded-at used (exchanged recs i j) a a<) ∙ e ∙ recorded-at used (exchanged recs i j) b b< ∙ ap label_of (record-was b)) in
          sym (origin-twice i j a) ∙ ap was same ∙ origin-twice i j b);
    };
    recorded-same = λ l. (
      λ h. let (k, k<, e) = (recorded-in used (exchanged recs i j) enough' l).0 h in
          (recorded-in used recs lent.enough l).1 (was k, was-below k k<, ap label_of (sym (record-was k)) ∙ e),
      λ h. let (k, k<, e) = (recorded-in used recs lent.enough l).0 h in
          (recorded-in used (exchanged recs i j) enough' l).1 (was k, was-below k k<, ap label_of (record-now k) ∙ e),
    );
    standing-same = λ l. (
      λ h. let (k, k<, z, e) = (standing-in used (exchanged recs i j) (exchanged marks i j) l).0 h in
          (standing-in used recs marks l).1 (was k, was-below k k<, sym (mark_was k) ∙ z, ap label_of (sym (record-was k)) ∙ e),
      λ h. let (k, k<, z, e) = (standing-in used recs marks l).0 h in
          (standing-in used (exchanged recs i j) (exchanged marks i j) l).1 (was k, was-below k k<, mark-now k ∙ z, ap label_of (record-now k) ∙ e),
    );
  }

-- ---- one seed is brought to the front
-- the records are shuffled, and C stands in front
abbrev pub Brought : ℕ → List ℕ → List ℕ → List Label → ℕ → List ℕ → List ℕ → Type 0
Brought used recs marks C front recs' marks' = Shuffled used recs marks recs' marks' × (front ≤ used) × (recorded front recs' ≡ C)

module _ (used : ℕ) (recs marks : List ℕ) (lent : Lent used recs marks) (front : ℕ) (front≤ : front ≤ used) (l : Label) (h : l.holding < 4294967296) (l-in : l ∈ recorded used recs) where
  abbrev place : ℕ
  place = found_at recs used (word_of l)

  pub bring-found : place < used
  bring-found = in-found recs used lent.enough l l-in

  -- it is there
  bring-same : place < front → recorded front recs ≡ include (recorded front recs) l
  bring-same p< =
      ⊎_elim
      (λ t. sym t.1)
      (λ t. absurd (t.0 ((recorded-in front recs (omega (arith, lent.enough)) l).1 (place, p<, found-label recs used lent.enough l h bring-found))))
      (include-step (recorded front recs) l)

  -- it comes from behind
  bring-next : front ≤ place → recorded (front + 1) (exchanged recs place front) ≡ include (recorded front recs) l
  bring-next p≥ =
      ⊎_elim
      (λ t. absurd (let (k, k<, e) = (recorded-in front recs (omega (arith, lent.enough)) l).0 t.0 in
      let same : k ≡ place = one_place used recs lent.enough lent.distinct k place (omega arith) bring-found (e ∙ sym (found-label recs used lent.enough l h bring-found)) in
      omega arith))
      (λ t. rw (add-one front) (ap (map label_of) (
      take-suc-set (set recs place (get_or recs front 0)) front (get_or recs place 0) (omega (arith, bring-found, lent.enough, length-set recs place (get_or recs front 0)))
      ∙ ap (λ (xs : List ℕ). xs ++ (get_or recs place 0 ∷ [])) (take-set-le front recs place (get_or recs front 0) p≥))
      ∙ map-append label_of (take front recs) (get_or recs place 0 ∷ [])
      ∙ ap (λ (k : Label). recorded front recs ++ (k ∷ [])) (found-label recs used lent.enough l h bring-found)
      ∙ sym t.1))
      (include-step (recorded front recs) l)

  pub bring-there : place < front → Brought used recs marks (include (recorded front recs) l) front recs marks
  bring-there p< = (shuffled-none lent, front≤, bring-same p<)

  pub bring-new : (at : ℕ) → place ≡ at → front ≤ at → Brought used recs marks (include (recorded front recs) l) (front + 1) (swap recs at front) (swap marks at front)
  bring-new at e p≥ =
      let inside : at < used = omega (arith, bring-found) in
      rw (← swap_is recs at front 0 (omega (arith, lent.enough)) (omega (arith, lent.enough)), ← swap_is marks at front 0 (omega (arith, lent.marked)) (omega (arith, lent.marked)), ← e)
      (shuffled-one used recs marks lent place front bring-found (omega (arith, bring-found)), omega (arith, bring-found), bring-next (omega arith))

-- by other names
pub brought-as : {used : ℕ} {recs marks : List ℕ} {C D : List Label} {front front' : ℕ} {recs₁ marks₁ recs₂ marks₂ : List ℕ}
    → Brought used recs marks C front recs₁ marks₁ → recs₂ ≡ recs₁ → marks₂ ≡ marks₁ → front' ≡ front → D ≡ C → Brought used recs marks D front' recs₂ marks₂
brought-as b x y z e = rw (x, y, z, e) b

-- ---- the loops: what `onward` makes of the front is the whole
pub record Bringing (used : ℕ) (recs marks : List ℕ) (whole : List Label) (onward : List Label → List Label) (front : ℕ) (recs' marks' : List ℕ) : Type 0 where
  pub shuffled : Shuffled used recs marks recs' marks'
  pub within : front ≤ used
  pub rest : onward (recorded front recs') ≡ whole

pub bringing : {used : ℕ} {recs marks : List ℕ} {whole : List Label} {onward : List Label → List Label} (front : ℕ)
    → Lent used recs marks → front ≤ used → onward (recorded front recs) ≡ whole → Bringing used recs marks whole onward front recs marks
bringing front lent h e = record { shuffled = shuffled-none lent; within = h; rest = e }

module _ {used : ℕ} {recs marks : List ℕ} {whole : List Label} {onward : List Label → List Label} {front : ℕ} {recs' marks' : List ℕ} (g : Bringing used recs marks whole onward front recs' marks') where
  -- what was recorded is so still
  pub still-in : (l : Label) → l ∈ recorded used recs → l ∈ recorded used recs'
  still-in l h = (g.shuffled.recorded-same l).1 h

  pub bringing-on : {C : List Label} (next : List Label → List Label) {front' : ℕ} {recs₂ marks₂ : List ℕ} → Brought used recs' marks' C front' recs₂ marks₂ → next C ≡ onward (recorded front recs')
      → Bringing used recs marks whole next front' recs₂ marks₂
  bringing-on next b e = record { shuffled = shuffled-more g.shuffled b.0; within = b.1; rest = ap next b.2 ∙ e ∙ g.rest }

  pub bringing-done : onward (recorded front recs') ≡ recorded front recs' → Brought used recs marks whole front recs' marks'
  bringing-done e = (g.shuffled, g.within, sym e ∙ g.rest)

-- ---- the seeds of a settled label, in the order in which it asks
abbrev asks_onward : List Ask → List Label → List Label
asks_onward rest C = include_all C (map (λ (q : Ask). q.seed) rest)

pub record BringingSeeds (used : ℕ) (recs marks : List ℕ) (whole : List Label) (rest : List Ask) (front : ℕ) (recs' marks' : List ℕ) : Type 0 where
  pub asked : (q : Ask) → q ∈ rest → q.seed ∈ recorded used recs
  pub loop : Bringing used recs marks whole (asks_onward rest) front recs' marks'

pub seeds-start : (s : Sheet) (l : Label) (rest : List Ask) → rest ≡ asks s l → (used start : ℕ) (recs marks : List ℕ) → Lent used recs marks → start ≤ used → SeedsIn s l (recorded used recs)
    → BringingSeeds used recs marks (include_all (recorded start recs) (seeds s l)) rest start recs marks
seeds-start s l rest is used start recs marks lent start≤ seeds-in = record {
  asked = λ q i. seeds-in q.seed (Memᴰ.map (λ (k : Ask). k.seed) (subst (λ (qs : List Ask). q ∈ qs) is i));
  loop = bringing start lent start≤ (ap (λ (qs : List Ask). asks_onward qs (recorded start recs)) is);
}

module _ {used : ℕ} {recs marks : List ℕ} {whole : List Label} {rest : List Ask} {front : ℕ} {recs' marks' : List ℕ} (g : BringingSeeds used recs marks whole rest front recs' marks') where
  pub seeds-done : rest ≡ [] → Brought used recs marks whole front recs' marks'
  seeds-done e = bringing-done g.loop (ap (λ (qs : List Ask). asks_onward qs (recorded front recs')) e)

  module _ (q : Ask) (others : List Ask) (is : rest ≡ q ∷ others) where
    -- the seed that is asked for next is recorded
    pub seed-in : q.seed ∈ recorded used recs'
    seed-in = still-in g.loop q.seed (g.asked q (subst (λ (qs : List Ask). q ∈ qs) (sym is) here))

    pub seeds-on : {front' : ℕ} {recs₂ marks₂ : List ℕ} → Brought used recs' marks' (include (recorded front recs') q.seed) front' recs₂ marks₂
        → BringingSeeds used recs marks whole others front' recs₂ marks₂
    seeds-on b = record {
      asked = λ k i. g.asked k (subst (λ (qs : List Ask). k ∈ qs) (sym is) (there i));
      loop = bringing-on g.loop (asks_onward others) b (ap (λ (qs : List Ask). asks_onward qs (recorded front recs')) (sym is));
    }

abbrev pub joint_onward : Sheet → theory.Joint → ℕ → List Label → List Label
joint_onward s J a C = include_all C (each (seeds s) (drop a J))

pub joint-end : (s : Sheet) (J : theory.Joint) (a : ℕ) (C : List Label) → length J ≤ a → joint_onward s J a C ≡ C
joint-end s J a C h = ap (λ (K : theory.Joint). include_all C (each (seeds s) K)) (drop_of_length-le J h)

pub joint-turn : (s : Sheet) (J : theory.Joint) (a : ℕ) (C : List Label) → a < length J → joint_onward s J (a + 1) (include_all C (seeds s (label J a))) ≡ joint_onward s J a C
joint-turn s J a C h =
    rw (add-one a) (sym (include_all-append C (seeds s (label J a)) (each (seeds s) (drop (suc a) J)))
    ∙ ap (λ (K : theory.Joint). include_all C (each (seeds s) K)) (sym (drop-cons J a blank h)))

-- ---- the chosen expansion
first_cong : {A : Type 0} (p q : A → Bool) (l : List A) → ((x : A) → x ∈ l → p x ≡ q x) → first p l ≡ first q l
first_cong p q [] h = refl
first_cong p q (x ∷ l) h =
    let rest = first_cong p q l (λ y i. h y (there i)) in
    ⊎_elim
    (λ (e : q x ≡ true). rw (h x here ∙ e, e, first))
    (λ (e : q x ≡ false). rw (h x here ∙ e, e, first) rest)
    (cases (q x))

or-blank : (o : Maybe Label) → unwrap_or o blank ≡ or_blank o
or-blank nothing = refl
or-blank (just k) = refl

module _ (s : Sheet) (used : ℕ) (recs marks : List ℕ) (sound : Sound s used recs marks) (l : Label) (l-in : l ∈ recorded used recs) where
  closed-seeds : (k : Label) → k ∈ expansions s l → SeedsIn s k (recorded used recs)
  closed-seeds k k-in q i = let (a, a_in, e) = Memᴰ.of_map (λ (a : Ask). a.seed) (asks s k) i in Memᴰ.cast (sym e) (sound.closed l l-in k k-in a a_in)

  -- what is found by the marks is what is chosen
  pub picked-chosen : unwrap_or (first (served s (standing used recs marks)) (expansions s l)) blank ≡ chosen s l
  unfolding chosen
  picked-chosen =
      let A = standing used recs marks in
      or-blank (first (served s A) (expansions s l))
      ∙ ap or_blank (first_cong (served s A) (fine s) (expansions s l) (λ k k-in.
      stand-fine s used recs marks sound.lent.enough sound.right k (closed-seeds k k-in)))

  -- and what it asks for is recorded
  pub chosen-recorded : WellFormed s → SeedsIn s (chosen s l) (recorded used recs)
  unfolding successors
  chosen-recorded wf q i =
      let (k, k-in, j) = each-elim (seeds s) (expansions s l) (chosen-next s wf l q i) in closed-seeds k k-in q j

-- ---- the walk over the chosen expansions
-- what one element of the model asks for
abbrev pub next : Sheet → Label → List Label
next s l = seeds s (chosen s l)

-- so many places are left to look at
abbrev pub walk_onward : Sheet → ℕ → List Label → List Label
walk_onward s i = reach (next s) (bound s - i) i

reach-end : (after : Label → List Label) (f i : ℕ) (C : List Label) → length C ≤ i → reach after f i C ≡ C
reach-end after zero i C h = refl
reach-end after (suc f) i C h = rw (le-ltb i (length C) h, reach)

pub walk_start : (s : Sheet) (J : theory.Joint) → walk_onward s 0 (include_all [] (each (seeds s) J)) ≡ model_seeds s J
unfolding model_seeds
walk_start s J = let e : bound s - 0 ≡ bound s = omega arith in ap (λ (f : ℕ). reach (next s) f 0 (include_all [] (each (seeds s) J))) e

-- there are at most e·2^(e-1) records
known-bound : (s : Sheet) (C : List Label) → Known s C → length C ≤ bound s
known-bound s C known = omega (arith, pigeon C (universe s) known.distinct known.known, length-universe s)

module _ (s : Sheet) (used : ℕ) (recs marks : List ℕ) (sound : Sound s used recs marks) (front : ℕ) (within : front ≤ used) (i : ℕ) where
  size : length (recorded front recs) ≡ front
  size = length-recorded front recs (omega (arith, sound.lent.enough))

  pub walk_end : front ≤ i → walk_onward s i (recorded front recs) ≡ recorded front recs
  walk_end h = reach-end (next s) (bound s - i) i (recorded front recs) (omega (arith, size))

  module _ (h : i < front) where
    -- the record at place i
    pub walk-in : label_of (get_or recs i 0) ∈ recorded used recs
    walk-in = (recorded-in used recs sound.lent.enough (label_of (get_or recs i 0))).1 (i, omega arith, refl)

    pub walk_turn : walk_onward s (i + 1) (include_all (recorded front recs) (next s (label_of (get_or recs i 0)))) ≡ walk_onward s i (recorded front recs)
    walk_turn =
        let room : used ≤ bound s = omega (arith, known-bound s (recorded used recs) sound.known, length-recorded used recs sound.lent.enough) in
        let fuel : bound s - i ≡ suc (bound s - (i + 1)) = omega arith in
        rw (fuel, lt-ltb i (length (recorded front recs)) (omega (arith, size)), reach, recorded-at front recs i h, add-one i)

-- ---- the label of an element
module _ (J : theory.Joint) (B : List Label) (ch : Label → Label) (x : ℕ) where
  pub label-individual : x < length J → label J x ≡ label_at J B ch x
  unfolding label_at
  label-individual h = rw (lt-ltb x (length J) h)

  pub label-seed : (n : ℕ) → n ≡ length J → n ≤ x → ch (label B (x - n)) ≡ label_at J B ch x
  unfolding label_at
  label-seed n e h = rw (e, le-ltb x (length J) (omega arith))
