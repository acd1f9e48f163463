-- The loops of the engine: one record struck out, one pass, pass after pass; closing; the loops over the labels of a joint label; and where the work begins.
use Prim.Native.Nat.{ℕ, zero, suc, ◌+◌, ◌-◌, ◌≤◌, ◌<◌, max}
use mathlib.Core.Bool.{Bool, true, false, ◌&&◌, ◌||◌}
use mathlib.Core.Path.{◌≡◌, refl, sym, ◌∙◌, ap, subst}
use mathlib.Core.Logic.{◌⊎◌, inl, inr, ⊎_elim}
use mathlib.Core.List.{List, [], ◌∷◌, append-nil, map}
use lib.ListN.{length, get_or, set, drop, replicate}
use lib.Seq.{drop-cons}
use native.Mathlib.Numerals.{add-one}
use Rattle.std.proofs.Math.Bool.{or-false, or-true}
use native.Mathlib.Omega.{arith}
use borrow.Author.Tests.{eq-eqb, le-ltb, lt-ltb, ne_eqb}
use Rattle.std.specs.Prelude.{Option as Maybe, Some as just, Ok, Err, is_some}
use Rattle.std.specs.List.{list_all}
use Rattle.alc.specs.Lists.{all, any, each, first}
use Rattle.alc.specs.declared.ClassAssertion.{ClassAssertion}
use Rattle.alc.specs.Sheet.{Sheet, class_assertion, well_formed}
use Rattle.alc.specs.declared.Label.{Label}
use Rattle.alc.specs.declared.Mark.TheVariants.{Holds as holds}
use Rattle.alc.specs.Label.{blank}
use Rattle.alc.specs.Settle as theory
use Rattle.alc.specs.Settle.{label}
use Rattle.alc.specs.Seeds.{bound, expansions, good, include_all, reach, seeds, served, successors}
use Rattle.alc.specs.Judge.{Entry, enter, start}
use Rattle.alc.proofs.Theorems.Reach.{Grows, grown-bound, grown-refl, include_all-append, include_all-grown, successors-known}
use Rattle.alc.proofs.Theorems.Lists.{cases, clashing, same?}
use Rattle.plan.proofs.Lines.{class-inside}
use Rattle.tableau.specs.declared.labels.Labels.{Labels}
use Rattle.tableau.specs.declared.records.Full.{Full}
use Rattle.tableau.specs.Records.{GrownTo, label_of, recorded}
use Rattle.tableau.specs.Walks.{standing}
use Rattle.tableau.specs.Joints.{joint_of, Fit}
use Rattle.tableau.proofs.Buffers.{grown-none, include_all-length}
use Rattle.engine.specs.Ledger.{Known, Pass, Stable, Strike, Struck, none, one, stands, strike_by, struck_at}
use Rattle.engine.proofs.Ledgers.{grown-known, grown-longer, length-recorded, reach-grown, recorded-at, standing-fewer, struck-size}

-- ---- one record
-- a first one is found exactly if one passes
pub first-some : {A : Type 0} (p : A → Bool) (l : List A) → is_some (first p l) ≡ any p l
first-some p [] = refl
first-some {A} p (x ∷ l) =
    elim (p x) as (λ b. is_some (elim b as (λ _. Maybe A) [ true ↦ just x | false ↦ first p l ]) ≡ (b || any p l)) [ true ↦ refl | false ↦ first-some p l ]

module _ (s : Sheet) (used : ℕ) (recs m : List ℕ) (i : ℕ) where
  -- it has such an expansion exactly if one is picked, as the code picks it
  pub picked : {l : Label} {o : Maybe Label} {b : Bool} → l ≡ label_of (get_or recs i 0) → o ≡ first (served s (standing used recs m)) (expansions s l)
      → b ≡ is_some o → stands s used recs m i ≡ b
  picked {l} e p q =
      ap (good s (standing used recs m)) (sym e) ∙ sym (first-some (served s (standing used recs m)) (expansions s l)) ∙ ap is_some (sym p) ∙ sym q

  -- a record that stands without such an expansion is struck out, and nothing else is
  pub strikes : get_or m i 0 ≡ 0 → stands s used recs m i ≡ false → struck_at s used recs m i ≡ record { marks = set m i 1; changed = true }
  unfolding struck_at
  strikes z bad = rw (eq-eqb (get_or m i 0) 0 z, bad, strike_by)

  pub spares : (get_or m i 0 ≡ 0 → stands s used recs m i ≡ true) → struck_at s used recs m i ≡ record { marks = m; changed = false }
  unfolding struck_at
  spares h =
      ⊎_elim
      (λ (z : get_or m i 0 ≡ 0). rw (eq-eqb (get_or m i 0) 0 z, h z, strike_by))
      (λ (z : get_or m i 0 ≡ 0 → ⊥). rw (ne_eqb (get_or m i 0) 0 z, strike_by))
      (same? (get_or m i 0) 0)

  -- it is struck out, or it is not to be
  struck-or-spared : ((get_or m i 0 ≡ 0) × (stands s used recs m i ≡ false)) ⊎ (get_or m i 0 ≡ 0 → stands s used recs m i ≡ true)
  struck-or-spared =
      ⊎_elim
      (λ z. ⊎_elim (λ t. inr (λ _. t)) (λ t. inl (z, t)) (cases (stands s used recs m i)))
      (λ z. inr (λ e. absurd (z e)))
      (same? (get_or m i 0) 0)

-- ---- one pass, the last record first: those from i on are looked at
-- what striking makes is told once
told : {t : Strike} {m n : List ℕ} {b c : Bool} → t ≡ record { marks = m; changed = b } → t ≡ record { marks = n; changed = c } → (m ≡ n) × (b ≡ c)
told e f = (ap (λ (t : Strike). t.marks) (sym e ∙ f), ap (λ (t : Strike). t.changed) (sym e ∙ f))

pub record Striking (s : Sheet) (used start : ℕ) (recs m now : List ℕ) (changed : Bool) (i : ℕ) : Type 0 where
  pub struck : Struck s used start recs m now
  pub quiet : changed ≡ false → (now ≡ m) × Stable s used i recs m
  pub fewer : changed ≡ true → length (standing used recs now) < length (standing used recs m)

module _ {s : Sheet} {used start : ℕ} {recs m : List ℕ} where
  pub striking : Striking s used start recs m m false used
  striking = record { struck = none; quiet = λ e. (refl, λ j a b z. absurd (omega arith)); fewer = λ e. clashing false e refl }

  module _ {now : List ℕ} {changed : Bool} {i : ℕ} (g : Striking s used start recs m now changed i) where
    not_more : length (standing used recs now) ≤ length (standing used recs m)
    not_more =
        ⊎_elim
        (λ (e : changed ≡ true). omega (arith, g.fewer e))
        (λ (e : changed ≡ false). rw (g.quiet e).0 (omega arith))
        (cases changed)

    pub strike-on : start < i → i ≤ used → used ≤ length m → (after : List ℕ) (r : Bool)
        → struck_at s used recs now (i - 1) ≡ record { marks = after; changed = r } → Striking s used start recs m after (changed || r) (i - 1)
    strike-on h inside fits after r e =
        let j = i - 1 in
        ⊎_elim
        (λ (z, bad).
        let (d, t) = told (strikes s used recs now j z bad) e in
        rw (← d, ← t, or-true) (record {
          struck = one j g.struck (omega arith) (omega arith) z bad;
          quiet = λ e. clashing true refl e;
          fewer = λ _. omega (arith, not_more, standing-fewer used recs now j (omega arith) (omega (arith, struck-size g.struck)) z);
        }))
        (λ (t : get_or now j 0 ≡ 0 → stands s used recs now j ≡ true).
        let (d, f) = told (spares s used recs now j t) e in
        let here : now ≡ m → get_or m j 0 ≡ 0 → stands s used recs m j ≡ true = λ d. subst (λ (n : List ℕ). get_or n j 0 ≡ 0 → stands s used recs n j ≡ true) d t in
        rw (← d, ← f, or-false) (record {
          struck = g.struck;
          quiet = λ e.
              let (d, rest) = g.quiet e in (
                d,
                λ k a b z. ⊎_elim
                    (λ (w : k ≡ j). subst (λ (x : ℕ). stands s used recs m x ≡ true) (sym w) (here d (subst (λ (x : ℕ). get_or m x 0 ≡ 0) w z)))
                    (λ w. rest k (omega arith) b z)
                    (same? k j),
              );
          fewer = g.fewer;
        }))
        (struck-or-spared s used recs now j)

  -- ---- pass after pass
  pub struck-on : {now after : List ℕ} → Struck s used start recs m now → Struck s used start recs now after → Struck s used start recs m after
  struck-on g none = g
  struck-on g (one i h a b z bad) = one i (struck-on g h) a b z bad

module _ {s : Sheet} {used start : ℕ} {recs m now : List ℕ} {changed : Bool} (g : Pass s used start recs m now changed) where
  pub pass-stable : changed ≡ false → Stable s used start recs now
  pass-stable e = let (d, stable) = g.quiet e in subst (λ (n : List ℕ). Stable s used start recs n) (sym d) stable

-- ---- filling a buffer: what is left to do with the records so far makes the whole
pub record Filling (whole : List Label) (before : List ℕ) (left : List Label → List Label) (used : ℕ) (buf : List ℕ) : Type 0 where
  pub size : length buf ≡ length before
  pub fits : used ≤ length buf
  pub rest : left (recorded used buf) ≡ whole

module _ {whole : List Label} {before : List ℕ} {left : List Label → List Label} {used : ℕ} {buf : List ℕ} (g : Filling whole before left used buf) where
  pub filled : left (recorded used buf) ≡ recorded used buf → GrownTo whole before (Ok used) buf
  filled e = rw (← (sym e ∙ g.rest)) (record { size = g.size; holds = (grown-none used buf g.fits).holds })

  module _ {D : List Label} {after : List ℕ} where
    pub fill_on : (left' : List Label → List Label) → left' D ≡ whole → {n : ℕ} → GrownTo D buf (Ok n) after → Filling whole before left' n after
    fill_on left' e t = record { size = t.size ∙ g.size; fits = t.holds.1; rest = ap left' t.holds.2 ∙ e }

    pub fill-full : length D ≤ length whole → {e : Full} → GrownTo D buf (Err e) after → GrownTo whole before (Err e) after
    fill-full h t = record { size = t.size ∙ g.size; holds = omega (arith, t.holds) }

-- ---- closing: the records from place i on are to be looked at
reach-done : (after : Label → List Label) (f i : ℕ) (C : List Label) → length C ≤ i → reach after f i C ≡ C
reach-done after zero i C h = refl
reach-done after (suc f) i C h = rw (le-ltb i (length C) h, reach)

reach-next : (after : Label → List Label) (f i : ℕ) (C : List Label) → i < length C → reach after (suc f) i C ≡ reach after f (suc i) (include_all C (after (label C i)))
reach-next after f i C h = rw (lt-ltb i (length C) h, reach)

pub record Closing (s : Sheet) (whole : List Label) (before : List ℕ) (i used : ℕ) (buf : List ℕ) : Type 0 where
  pub known : Known s (recorded used buf)
  pub fuel : ℕ
  pub enough : bound s ≤ i + fuel
  pub filling : Filling whole before (reach (successors s) fuel i) used buf

module _ {s : Sheet} {whole : List Label} {before : List ℕ} {i used : ℕ} {buf : List ℕ} (g : Closing s whole before i used buf) where
  pub closed : used ≤ i → GrownTo whole before (Ok used) buf
  closed h = filled g.filling (reach-done (successors s) g.fuel i (recorded used buf) (omega (arith, length-recorded used buf g.filling.fits)))

  module _ (h : i < used) where
    -- what the record at place i adds
    abbrev grown_by : List Label
    grown_by = include_all (recorded used buf) (successors s (label_of (get_or buf i 0)))

    so_far : Grows s (recorded used buf) (recorded used buf)
    so_far = grown-refl s (recorded used buf) g.known.distinct g.known.known

    grown-so : Grows s (recorded used buf) grown_by
    grown-so = (include_all-grown s (recorded used buf) (successors s (label_of (get_or buf i 0))) so_far (successors-known s (label_of (get_or buf i 0)))).0

    -- it is not the last step
    next : (f : ℕ) × (bound s ≤ i + 1 + f) × (reach (successors s) f (i + 1) grown_by ≡ whole)
    next = go g.fuel g.enough g.filling.rest
      where
        some : i < length (recorded used buf)
        some = omega (arith, length-recorded used buf g.filling.fits)

        few : length (recorded used buf) ≤ bound s
        few = grown-bound s (recorded used buf) (recorded used buf) so_far

        go : (f : ℕ) → bound s ≤ i + f → reach (successors s) f i (recorded used buf) ≡ whole
            → (f : ℕ) × (bound s ≤ i + 1 + f) × (reach (successors s) f (i + 1) grown_by ≡ whole)
        go zero b e = absurd (omega (arith, some, few))
        go (suc f) b e = (
          f,
          omega arith,
          rw (add-one i, ← recorded-at used buf i h) (sym (reach-next (successors s) f i (recorded used buf) some) ∙ e),
        )

    pub close-on : {n : ℕ} {after : List ℕ} → GrownTo grown_by buf (Ok n) after → Closing s whole before (i + 1) n after
    close-on t =
        let (f, b, e) = next in
        record { known = subst (Known s) (sym t.holds.2) (grown-known s grown-so); fuel = f; enough = b; filling = fill_on g.filling (reach (successors s) f (i + 1)) e t }

    pub close-full : {e : Full} {after : List ℕ} → GrownTo grown_by buf (Err e) after → GrownTo whole before (Err e) after
    close-full t =
        let (f, b, e) = next in
        fill-full g.filling (rw (← e) (grown-longer s (reach-grown s f (i + 1) grown_by (grown-known s grown-so)))) t

-- the seeds of those from a on
abbrev gathering : Sheet → theory.Joint → ℕ → List Label → List Label
gathering s J a C = include_all C (each (seeds s) (drop a J))

pub record Gathering (s : Sheet) (J : theory.Joint) (whole : List Label) (before : List ℕ) (a used : ℕ) (buf : List ℕ) : Type 0 where
  pub filling : Filling whole before (gathering s J a) used buf

module _ {s : Sheet} {J : theory.Joint} {whole : List Label} {before : List ℕ} {a used : ℕ} {buf : List ℕ} (g : Gathering s J whole before a used buf) where
  module _ (h : a < length J) where
    gather-turn : gathering s J (a + 1) (include_all (recorded used buf) (seeds s (label J a))) ≡ whole
    gather-turn =
        rw (add-one a)
        (sym (include_all-append (recorded used buf) (seeds s (label J a)) (each (seeds s) (drop (suc a) J)))
        ∙ ap (λ (K : theory.Joint). include_all (recorded used buf) (each (seeds s) K)) (sym (drop-cons J a blank h))
        ∙ g.filling.rest)

    pub gather-on : {n : ℕ} {after : List ℕ} → GrownTo (include_all (recorded used buf) (seeds s (label J a))) buf (Ok n) after → Gathering s J whole before (a + 1) n after
    gather-on t = record { filling = fill_on g.filling (gathering s J (a + 1)) gather-turn t }

    pub gather-full : {e : Full} {after : List ℕ} → GrownTo (include_all (recorded used buf) (seeds s (label J a))) buf (Err e) after → GrownTo whole before (Err e) after
    gather-full = fill-full g.filling (rw (← gather-turn) (include_all-length (include_all (recorded used buf) (seeds s (label J a))) (each (seeds s) (drop (a + 1) J))))

-- std's test of all is the theory's
pub all-is : {A : Type 0} (p : A → Bool) (l : List A) → list_all p l ≡ all p l
all-is p [] = refl
all-is p (x ∷ l) = ap (λ (b : Bool). p x && b) (all-is p l)

-- ---- where the work begins
-- a class assertion, as it is entered
abbrev entered_as : ClassAssertion → Entry
entered_as c = record { individual = c.individual; mark = holds c.class }

-- the class assertions from i on are to be entered
pub record Entering (s : Sheet) (j : Labels) (i : ℕ) : Type 0 where
  pub fit : Fit s j
  pub rest : enter (map entered_as (drop i s.classes)) (joint_of j) ≡ start s []

pub entering : {s : Sheet} {j : Labels} → (joint_of j ≡ replicate (max 1 s.individuals) blank) × (j.count ≡ max 1 s.individuals) → Entering s j 0
unfolding start
entering (e, c) = record { fit = record { each-one = c }; rest = rw (e, append-nil) refl }

-- where its individual is
pub enter-at : {s : Sheet} {j : Labels} {i : ℕ} → Entering s j i → well_formed s ≡ true → i < length s.classes → (class_assertion s i).individual < j.count
enter-at {s} {j} {i} g w h = omega (arith, (class-inside s w i h).0, g.fit.each-one)
