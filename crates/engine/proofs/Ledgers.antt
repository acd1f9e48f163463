-- The ledger stays right: which records stand, that what was struck out is what is not satisfiable, what one more joint label adds, and how many records that makes.
use Prim.Native.Nat.{ℕ, zero, suc, ◌≤◌, ◌<◌}
use mathlib.Core.Bool.{Bool, true, false}
use mathlib.Core.Path.{◌≡◌, refl, sym, ◌∙◌, ap, subst}
use mathlib.Core.Logic.{◌↔◌, ⊎_elim}
use mathlib.Core.List.Memᴰ
use mathlib.Core.List.{List, [], ◌∷◌, ◌++◌}
use lib.ListN.{length, get_or, take, set, length-append, length-map, length-set, get_or-map}
use lib.Seq.{length-take-le, get_or-take, get_or-set_same, get_or-set_other}
use lib.Dec.{eqb, ltb}
use borrow.Author.Tests.{eqb-true, eq-eqb}
use native.Mathlib.Decide.{dec_lt}
use native.Mathlib.Omega.{arith}
use Rattle.std.specs.Prelude.{Ok, Err}
use Rattle.alc.specs.Lists.{◌∈◌, filter, up_to, all, each, first, up_to_first}
use Rattle.alc.specs.Sheet.{Sheet}
use Rattle.alc.specs.declared.Label.{Label}
use Rattle.alc.specs.Label.{clashes}
use Rattle.alc.specs.Settle.{Joint, label, closes}
use Rattle.alc.specs.declared.Ask.{Ask}
use Rattle.alc.specs.Seeds.{SeedSatisfiable, among, asks, bound, expansions, fine, good, include_all, reach, seeds, seed_survives, served, successors}
use Rattle.alc.specs.Judge.{Entry, Reached, at_once, considered, later, records_needed}
use Rattle.alc.proofs.Theorems.Lists.{cases, clashing, same?, all-cong, tests_same, any_none, each-elim, each-intro, here, filter-elim, filter-intro, filter_same, up_to-elim, up_to-intro}
use Rattle.alc.proofs.Theorems.Counting.{filter-filter, pigeon}
use Rattle.alc.proofs.Theorems.Sheet.{WellFormed}
use Rattle.alc.proofs.Theorems.Moves.{label-in, label-of}
use Rattle.alc.proofs.Theorems.Seeds.{among_in, among-true, seeds-in}
use Rattle.alc.proofs.Theorems.Survive.{Closed, strike-keeps, survivor-satisfiable}
use Rattle.alc.proofs.Theorems.Decides.{seed-complete, seed-sound, seeds-known}
use Rattle.alc.proofs.Theorems.Reach.{ClosedBy, Grows, again, closed-by-successors, grown-at, grown-in, grown-refl, grown-trans, include_all-all, include_all-grown, reach-all, reach-closed, successors-known}
use Rattle.alc.proofs.Theorems.Records.{records-are, records-distinct}
use Rattle.tableau.specs.Records.{GrownTo, label_of, recorded}
use Rattle.tableau.specs.Walks.{Lent, standing}
use Rattle.engine.specs.Ledger.{Known, Ledger, Struck, none, one, Stable, stands}
use Rattle.engine.specs.Verdicts.{JudgedAll, Kept, ToldAll, TooMany, Weighed}
use Rattle.engine.specs.declared.judge.Judged.{Judged}
use Rattle.engine.specs.declared.judge.Judged.TheVariants.{Going, Fine}
use Rattle.tableau.specs.declared.labels.Labels.{Labels}
use Rattle.tableau.specs.declared.records.Full.{Full}
use Rattle.tableau.specs.Joints.{joint_of, Fit}

-- ---- which labels are recorded, and which of them stand
-- fewer pass where a member that passed does not any more
filter-fewer : {A : Type 0} (p q : A → Bool) → ((x : A) → q x ≡ true → p x ≡ true) → (l : List A) (x : A) → x ∈ l → p x ≡ true → q x ≡ false → length (filter q l) < length (filter p l)
filter-fewer {A} p q h l x i a b =
    let e = filter-filter q p h l in
    ⊎_elim
    (λ (t : filter q (filter p l) ≡ filter p l).
    let j : x ∈ filter q (filter p l) = subst (λ (k : List A). x ∈ k) (sym t) (filter-intro p l i a) in
    clashing (q x) (filter-elim q (filter p l) j).1 b)
    (λ (t : length (filter q (filter p l)) < length (filter p l)). subst (λ (k : List A). length k < length (filter p l)) e t)
    (filter_same q (filter p l))

module _ (used : ℕ) (recs : List ℕ) where
  pub recorded-at : (i : ℕ) → i < used → label (recorded used recs) i ≡ label_of (get_or recs i 0)
  recorded-at i h = get_or-map label_of (take used recs) i 0 ∙ ap label_of (get_or-take used recs i 0 h)

  pub length-recorded : used ≤ length recs → length (recorded used recs) ≡ used
  length-recorded h = length-map (take used recs) label_of ∙ length-take-le used recs h

  pub recorded-in : used ≤ length recs → (l : Label) → (l ∈ recorded used recs) ↔ ((i : ℕ) × (i < used) × (label_of (get_or recs i 0) ≡ l))
  recorded-in enough l = (
    λ h. let (i, i<, e) = label-of (recorded used recs) l h in
        let b : i < used = omega (arith, length-recorded enough) in
        (i, b, sym (recorded-at i b) ∙ e),
    λ (i, i<, e). Memᴰ.cast (sym e ∙ sym (recorded-at i i<)) (label-in (recorded used recs) i (omega (arith, length-recorded enough))),
  )

  pub standing-in : (m : List ℕ) (l : Label) → (l ∈ standing used recs m) ↔ ((i : ℕ) × (i < used) × (get_or m i 0 ≡ 0) × (label_of (get_or recs i 0) ≡ l))
  unfolding standing
  standing-in m l = (
    λ h. let (i, i-in, e) = Memᴰ.of_map (λ i. label_of (get_or recs i 0)) (filter (λ i. eqb (get_or m i 0) 0) (up_to used)) h in
        let (j, z) = filter-elim (λ i. eqb (get_or m i 0) 0) (up_to used) i-in in
        (i, up_to-elim used i j, eqb-true (get_or m i 0) 0 z, e),
    λ (i, i<, z, e). Memᴰ.cast (sym e)
        (Memᴰ.map (λ i. label_of (get_or recs i 0)) (filter-intro (λ i. eqb (get_or m i 0) 0) (up_to used) (up_to-intro used i i<) (eq-eqb (get_or m i 0) 0 z))),
  )

  -- fewer stand where one more is struck out
  pub standing-fewer : (m : List ℕ) (i : ℕ) → i < used → i < length m → get_or m i 0 ≡ 0 → length (standing used recs (set m i 1)) < length (standing used recs m)
  unfolding standing
  standing-fewer m i i< b z =
      let f : ℕ → Label = λ j. label_of (get_or recs j 0) in
      let p : ℕ → Bool = λ j. eqb (get_or m j 0) 0 in
      let q : ℕ → Bool = λ j. eqb (get_or (set m i 1) j 0) 0 in
      let out : q i ≡ false = ap (λ (x : ℕ). eqb x 0) (get_or-set_same m i 1 0 b) in
      let less : length (filter q (up_to used)) < length (filter p (up_to used)) =
      filter-fewer p q
      (λ j t. ⊎_elim (λ (d : j ≡ i). clashing (q j) t (ap q d ∙ out)) (λ d. ap (λ (x : ℕ). eqb x 0) (sym (get_or-set_other m i j 1 0 d)) ∙ t) (same? j i))
      (up_to used) i (up_to-intro used i i<) (eq-eqb (get_or m i 0) 0 z) out in
      omega (arith, length-map (filter q (up_to used)) f, length-map (filter p (up_to used)) f)

-- ---- striking out, in whatever order
-- the marks of the first `used` records are right: those that stand are the satisfiable ones
abbrev pub Right : Sheet → ℕ → List ℕ → List ℕ → Type 0
Right s used recs m = (i : ℕ) → i < used → (get_or m i 0 ≡ 0) ↔ (seed_survives s (label_of (get_or recs i 0)) ≡ true)

module _ {s : Sheet} {used start : ℕ} {recs m : List ℕ} where
  pub struck-size : {m' : List ℕ} → Struck s used start recs m m' → length m' ≡ length m
  struck-size none = refl
  struck-size (one {m'} i before a b z bad) = length-set m' i 1 ∙ struck-size before

  pub struck-old : {m' : List ℕ} → Struck s used start recs m m' → (i : ℕ) → i < start → get_or m' i 0 ≡ get_or m i 0
  struck-old none i h = refl
  struck-old (one {m'} j before a b z bad) i h = get_or-set_other m' j i 1 0 (λ e. omega arith) ∙ struck-old before i h

module _ (s : Sheet) (wf : WellFormed s) (used start : ℕ) (recs : List ℕ) (enough : used ≤ length recs) (closed : Closed s (recorded used recs)) where
  -- all satisfiable records stand
  abbrev Spared : List ℕ → Type 0
  Spared m = (i : ℕ) → i < used → SeedSatisfiable s (label_of (get_or recs i 0)) → get_or m i 0 ≡ 0

  -- and so they have an expansion all of whose seeds stand
  spared-stand : (m : List ℕ) → Spared m → (i : ℕ) → i < used → SeedSatisfiable s (label_of (get_or recs i 0)) → stands s used recs m i ≡ true
  spared-stand m spared i i< sat =
      let A = standing used recs m in
      let l = label_of (get_or recs i 0) in
      (filter-elim (good s A) A (strike-keeps s wf (recorded used recs) closed A
      (λ k k-in k-sat.
      let (j, j<, e) = (recorded-in used recs enough k).0 k-in in
      (standing-in used recs m k).1 (j, j<, spared j j< (subst (SeedSatisfiable s) (sym e) k-sat), e))
      l ((recorded-in used recs enough l).1 (i, i<, refl)) sat)).1

  -- no satisfiable record is ever struck out
  struck-spares : {m m' : List ℕ} → Spared m → Struck s used start recs m m' → Spared m'
  struck-spares spared none = spared
  struck-spares spared (one {m'} i before a b z bad) =
      let rest : Spared m' = struck-spares spared before in λ j j< sat.
      ⊎_elim
      (λ (d : j ≡ i). clashing (stands s used recs m' j) (spared-stand m' rest j j< sat) (ap (stands s used recs m') d ∙ bad))
      (λ d. get_or-set_other m' i j 1 0 d ∙ rest j j< sat)
      (same? j i)

  -- the marks are right in the end, where those of the old records were right and the new ones stood
  pub strike-right : Known s (recorded used recs) → {m m' : List ℕ} → Right s start recs m → ((i : ℕ) → start ≤ i → i < used → get_or m i 0 ≡ 0)
      → Struck s used start recs m m' → Stable s used start recs m' → Right s used recs m'
  strike-right known {m} {m'} right new struck stable i i< =
      let A = standing used recs m' in
      let complete : (j : ℕ) → j < used → SeedSatisfiable s (label_of (get_or recs j 0)) → seed_survives s (label_of (get_or recs j 0)) ≡ true = λ j j<.
      let l = label_of (get_or recs j 0) in
      seed-complete s wf l (known.known l ((recorded-in used recs enough l).1 (j, j<, refl))) in
      let spared : Spared m' =
      struck-spares (λ j j< sat. elim (dec_lt j start) [ yes b ↦ (right j b).1 (complete j j< sat) | no b ↦ new j (omega arith) j< ]) struck in
      let all-good : (l : Label) → l ∈ A → good s A l ≡ true = λ l h.
      let (j, j<, z, e) = (standing-in used recs m' l).0 h in
      subst (λ (k : Label). good s A k ≡ true) e (elim (dec_lt j start) [
        | yes b ↦ spared-stand m' spared j j< (seed-sound s wf (label_of (get_or recs j 0)) ((right j b).0 (sym (struck-old struck j b) ∙ z)))
        | no b ↦ stable j (omega arith) j< z
      ]) in
      let l = label_of (get_or recs i 0) in
      (λ z. complete i i< (survivor-satisfiable s A all-good wf l ((standing-in used recs m' l).1 (i, i<, z, refl))), λ e. spared i i< (seed-sound s wf l e))

-- ---- what stands is what is fine
module _ (s : Sheet) (used : ℕ) (recs m : List ℕ) (enough : used ≤ length recs) (right : Right s used recs m) where
  pub among-standing : (q : Label) → q ∈ recorded used recs → among q (standing used recs m) ≡ seed_survives s q
  among-standing q h =
      let A = standing used recs m in
      tests_same (among q A) (seed_survives s q)
      (λ e. let (i, i<, z, d) = (standing-in used recs m q).0 (among-true q A e) in subst (λ (k : Label). seed_survives s k ≡ true) d ((right i i<).0 z))
      (λ e. let (i, i<, d) = (recorded-in used recs enough q).0 h in
      among_in q A ((standing-in used recs m q).1 (i, i<, (right i i<).1 (subst (λ (k : Label). seed_survives s k ≡ true) (sym d) e), d)))

  pub stand-fine : (k : Label) → ((q : Label) → q ∈ seeds s k → q ∈ recorded used recs) → served s (standing used recs m) k ≡ fine s k
  unfolding fine
  stand-fine k h = all-cong (λ q. among q (standing used recs m)) (seed_survives s) (seeds s k) (λ q i. among-standing q (h q i))

  pub all-stand-fine : (J : Joint) → ((q : Label) → q ∈ each (seeds s) J → q ∈ recorded used recs) → all (served s (standing used recs m)) J ≡ all (fine s) J
  all-stand-fine J h = all-cong (served s (standing used recs m)) (fine s) J (λ k k-in. stand-fine k (λ q i. h q (each-intro (seeds s) J k-in i)))

-- ---- more joint labels reach more
pub reached-more : (s : Sheet) (Js Ks : List Joint) → ((J : Joint) → J ∈ Js → J ∈ Ks) → {l : Label} → Reached s Js l → Reached s Ks l
reached-more s Js Ks h (at_once J J-in k k-in q q-in e) = at_once J (h J J-in) k k-in q q-in e
reached-more s Js Ks h (later m r k k-in q q-in e) = later m (reached-more s Js Ks h r) k k-in q q-in e

pub too-many-more : (s : Sheet) (Js Ks : List Joint) (room : ℕ) → ((J : Joint) → J ∈ Js → J ∈ Ks) → TooMany s Js room → TooMany s Ks room
too-many-more s Js Ks room h t = record { some = t.some; distinct = t.distinct; reached = λ l i. reached-more s Js Ks h (t.reached l i); more = t.more }

-- ---- one joint label more: its seeds behind the records C, and then all that is reached from place i on
abbrev pub begun : Sheet → Joint → List Label → List Label
begun s J C = include_all C (each (seeds s) J)

abbrev pub closing : Sheet → Joint → ℕ → List Label → List Label
closing s J i C = reach (successors s) (bound s) i (begun s J C)

module _ (s : Sheet) where
  known-again : (C : List Label) → Known s C → Grows s C C
  known-again C known = grown-refl s C known.distinct known.known

  pub grown-known : {C D : List Label} → Grows s C D → Known s D
  grown-known g = record { distinct = g.distinct; known = g.known }

  pub grown-longer : {C D : List Label} → Grows s C D → length C ≤ length D
  grown-longer {C} g = rw g.is (omega (arith, length-append C g.rest))

  pub begun-grown : (J : Joint) → closes s J ≡ false → (C : List Label) → Known s C → Grows s C (begun s J C) × ((q : Label) → q ∈ each (seeds s) J → q ∈ begun s J C)
  begun-grown J clear C known = include_all-grown s C (each (seeds s) J) (known-again C known) (λ q h.
      let (k, k-in, i) = each-elim (seeds s) J h in seeds-known s k q (any_none (clashes s) J clear k k-in) i)

  pub reach-grown : (f i : ℕ) (C : List Label) → Known s C → Grows s C (reach (successors s) f i C)
  reach-grown zero i C known = known-again C known
  reach-grown (suc f) i C known =
      let D = include_all C (successors s (label C i)) in
      let (g, _) = include_all-grown s C (successors s (label C i)) (known-again C known) (successors-known s (label C i)) in
      ⊎_elim
      (λ (e : ltb i (length C) ≡ true). rw (e, reach) (grown-trans s C D (reach (successors s) f (suc i) D) g (reach-grown f (suc i) D (grown-known g))))
      (λ (e : ltb i (length C) ≡ false). rw (e, reach) (known-again C known))
      (cases (ltb i (length C)))

  -- who asks for what comes after a seed
  successors-elim : (l q : Label) → q ∈ successors s l → (k : Label) × (k ∈ expansions s l) × (a : Ask) × (a ∈ asks s k) × (q ≡ a.seed)
  unfolding successors
  successors-elim l q h =
      let (k, k-in, i) = each-elim (seeds s) (expansions s l) h in
      let (a, a_in, e) = Memᴰ.of_map (λ (a : Ask). a.seed) (asks s k) i in
      (k, k-in, a, a_in, sym e)

  closed-successors : (C : List Label) → Closed s C → ClosedBy (successors s) C
  closed-successors C closed l h q i = let (k, k-in, a, a_in, e) = successors-elim l q i in Memᴰ.cast e (closed l h k k-in a a_in)

  -- all that is reached is closed
  pub reached-closed : (Js : List Joint) (C : List Label) → ((l : Label) → (l ∈ C) ↔ Reached s Js l) → Closed s C
  reached-closed Js C reached l h k k-in q q-in = (reached q.seed).1 (later l ((reached l).0 h) k k-in q q-in refl)

-- the records C, which were reached from Js, have become E with the joint label J
pub record Extended (s : Sheet) (Js : List Joint) (J : Joint) (C E : List Label) : Type 0 where
  pub grown : Grows s C E
  pub closed : Closed s E
  pub asked : (q : Label) → q ∈ each (seeds s) J → q ∈ E
  pub reached : (l : Label) → (l ∈ E) ↔ Reached s (Js ++ (J ∷ [])) l

module _ (s : Sheet) (Js : List Joint) (J : Joint) (C : List Label) (reached : (l : Label) → (l ∈ C) ↔ Reached s Js l) where
  pub begun-reached : (l : Label) → l ∈ begun s J C → Reached s (Js ++ (J ∷ [])) l
  begun-reached = include_all-all (Reached s (Js ++ (J ∷ []))) C (each (seeds s) J)
      (λ l h. reached-more s Js (Js ++ (J ∷ [])) (λ K i. Memᴰ.append_left (J ∷ []) i) ((reached l).0 h))
      (λ l h.
      let (k, k-in, i) = each-elim (seeds s) J h in
      let (q, q-in, e) = Memᴰ.of_map (λ (q : Ask). q.seed) (asks s k) i in
      at_once J (Memᴰ.append_right Js here) k k-in q q-in (sym e))

  pub closing-reached : (i : ℕ) (l : Label) → l ∈ closing s J i C → Reached s (Js ++ (J ∷ [])) l
  closing-reached i = reach-all (Reached s (Js ++ (J ∷ []))) (successors s)
      (λ m r l h. let (k, k-in, q, q-in, e) = successors-elim s m l h in later m r k k-in q q-in e)
      (bound s) i (begun s J C) begun-reached

  -- from the first new place on, e·2^(e-1) steps are enough
  pub closing-next : Known s C → closes s J ≡ false → Extended s Js J C (closing s J (length C) C)
  closing-next known clear =
      let D = begun s J C in
      let E = closing s J (length C) C in
      let (g, asked) = begun-grown s J clear C known in
      let (h, closed) = reach-closed s (successors s) (successors-known s) (bound s) (length C) D (again s C D g)
      (λ j j< j<D q q-in. grown-in s C D g q
      (closed-successors s C (reached-closed s Js C reached) (label C j) (label-in C j j<) q (subst (λ (k : Label). q ∈ successors s k) (grown-at s C D g j j<) q-in))) (omega arith) in
      let all : Grows s C E = grown-trans s C D E g h in
      let shut : Closed s E = closed-by-successors s E closed in
      let seed-in : (q : Label) → q ∈ each (seeds s) J → q ∈ E = λ q i. grown-in s D E h q (asked q i) in
      record { grown = all; closed = shut; asked = seed-in; reached = λ l. (closing-reached (length C) l, inside E all shut seed-in l) }
    where
      inside : (E : List Label) → Grows s C E → Closed s E → ((q : Label) → q ∈ each (seeds s) J → q ∈ E) → (l : Label) → Reached s (Js ++ (J ∷ [])) l → l ∈ E
      inside E g closed asked l (at_once K K-in k k-in q q-in e) =
          ⊎_elim
          (λ i. grown-in s C E g l ((reached l).1 (at_once K i k k-in q q-in e)))
          (λ i. Memᴰ.cast e (asked q.seed (each-intro (seeds s) J (subst (λ (L : Joint). k ∈ L) (Memᴰ.eq_of_singleton i) k-in) (seeds-in s k q q-in))))
          (Memᴰ.append_cases Js K-in)
      inside E g closed asked l (later m r k k-in q q-in e) = Memᴰ.cast e (closed m (inside E g closed asked m r) k k-in q q-in)

-- ---- a list of one joint label: it is looked up, and it is fine or it is not
module _ {A : Type 0} (p : A → Bool) (x : A) where
  pub up_to_first-one : up_to_first p (x ∷ []) ≡ x ∷ []
  up_to_first-one = go (p x)
    where
      go : (b : Bool) → (x ∷ elim b as (λ _. List A) [ true ↦ [] | false ↦ [] ]) ≡ x ∷ []
      go true = refl
      go false = refl

-- ---- the ledger with one joint label more
module _ (s : Sheet) (Js : List Joint) (j : Labels) (clear : closes s (joint_of j) ≡ false) (used : ℕ) (recs marks : List ℕ) (known : Known s (recorded used recs))
    (ledger : Ledger s Js used recs marks) where
  abbrev with_j : List Joint
  with_j = Js ++ (joint_of j ∷ [])

  -- what the records become, once the seeds of j and all they reach are put behind them
  pub ledger-grown : Extended s Js (joint_of j) (recorded used recs) (closing s (joint_of j) used (recorded used recs))
  ledger-grown =
      let C = recorded used recs in
      subst (λ (i : ℕ). Extended s Js (joint_of j) C (closing s (joint_of j) i C)) (length-recorded used recs ledger.lent.enough)
      (closing-next s Js (joint_of j) C ledger.reached known clear)

  -- where they outnumber the room, what is reached does
  pub begun-many : (room : ℕ) → room < length (begun s (joint_of j) (recorded used recs)) → TooMany s with_j room
  begun-many room h = record {
    some = begun s (joint_of j) (recorded used recs);
    distinct = (begun-grown s (joint_of j) clear (recorded used recs) known).0.distinct;
    reached = begun-reached s Js (joint_of j) (recorded used recs) ledger.reached;
    more = h;
  }

  pub closing-many : (room : ℕ) → room < length (closing s (joint_of j) used (recorded used recs)) → TooMany s with_j room
  closing-many room h = record {
    some = closing s (joint_of j) used (recorded used recs);
    distinct = ledger-grown.grown.distinct;
    reached = λ l. (ledger-grown.reached l).0;
    more = h;
  }

  module _ (wf : WellFormed s) (n : ℕ) (recs' : List ℕ) (is : recorded n recs' ≡ closing s (joint_of j) used (recorded used recs)) (enough : n ≤ length recs')
      (marked : n ≤ length marks) where
    next : Extended s Js (joint_of j) (recorded used recs) (recorded n recs')
    next = subst (λ (E : List Label). Extended s Js (joint_of j) (recorded used recs) E) (sym is) ledger-grown

    -- the old records are where they were
    next-old : (i : ℕ) → i < used → label_of (get_or recs' i 0) ≡ label_of (get_or recs i 0)
    next-old i h =
        let b : i < length (recorded used recs) = omega (arith, length-recorded used recs ledger.lent.enough) in
        let c : i < n = omega (arith, length-recorded n recs' enough, grown-longer s next.grown) in
        sym (recorded-at n recs' i c) ∙ grown-at s (recorded used recs) (recorded n recs') next.grown i b ∙ recorded-at used recs i h

    module _ {r : Judged} {m' : List ℕ} (w : Weighed s j used n recs' marks r m') where
      -- the ledger once the new records are weighed
      pub ledger-next : Ledger s with_j n recs' m'
      ledger-next = record {
        lent = record { enough = enough; marked = omega (arith, struck-size w.struck, w.size); distinct = next.grown.distinct };
        reached = next.reached;
        right = strike-right s wf n used recs' enough next.closed (grown-known s next.grown)
            (λ i h. subst (λ (l : Label). (get_or w.cleared i 0 ≡ 0) ↔ (seed_survives s l ≡ true)) (sym (next-old i h))
            (subst (λ (z : ℕ). (z ≡ 0) ↔ (seed_survives s (label_of (get_or recs i 0)) ≡ true)) (sym (w.old i h)) (ledger.right i h)))
            w.new w.struck w.stable;
      }

      -- and the verdict
      pub told-next : ToldAll s Js (joint_of j ∷ []) (Ok r) recs' m'
      told-next = go (all (served s (standing n recs' m')) (joint_of j)) w.told (sym (all-stand-fine s n recs' m' enough ledger-next.right (joint_of j) next.asked))
        where
          go : (b : Bool) → r ≡ elim b as (λ _. Judged) [ true ↦ Fine n j | false ↦ Going n ] → all (fine s) (joint_of j) ≡ b
              → ToldAll s Js (joint_of j ∷ []) (Ok r) recs' m'
          go true e f = rw (e, up_to_first-one (all (fine s)) (joint_of j)) (ledger-next, rw (f, first))
          go false e f = rw (e, up_to_first-one (all (fine s)) (joint_of j)) (ledger-next, rw (f, first))

-- ---- a settled joint label is judged: its seeds are put behind the records, then all they reach, and these are weighed
module _ (s : Sheet) (j : Labels) (fit : Fit s j) (clear : closes s (joint_of j) ≡ false) (used : ℕ) (before marks : List ℕ) (known : Known s (recorded used before))
    (lent : Lent used before marks) (room : length before ≤ length marks) where
  -- there is no room
  abbrev Crowded : List ℕ → Full → Type 0
  Crowded after e = JudgedAll s (joint_of j ∷ []) used before marks (Err e) after marks

  judged-full : (e : Full) (after : List ℕ) → length after ≡ length before
      → ((Js : List Joint) → Ledger s Js used before marks → TooMany s (Js ++ (joint_of j ∷ [])) (length after)) → Crowded after e
  judged-full e after size many = record {
    kept = record { size = size; marked = refl; lent = tt; known = tt; fit = tt };
    told = λ Js ledger. rw (up_to_first-one (all (fine s)) (joint_of j)) (many Js ledger);
  }

  -- for its seeds
  pub begun-full : (e : Full) (after : List ℕ) → GrownTo (begun s (joint_of j) (recorded used before)) before (Err e) after → Crowded after e
  begun-full e after g = judged-full e after g.size (λ Js ledger. begun-many s Js j clear used before marks known ledger (length after) g.holds)

  module _ (k : ℕ) (mid : List ℕ) (g : GrownTo (begun s (joint_of j) (recorded used before)) before (Ok k) mid) where
    -- what closing asks for
    pub begun-ready : (used ≤ k) × (k ≤ length mid) × Known s (recorded k mid)
    begun-ready =
        let grown = (begun-grown s (joint_of j) clear (recorded used before) known).0 in
        let (size, fits, is) = g.holds in (
          omega (arith, grown-longer s grown, length-recorded used before lent.enough),
          fits,
          subst (Known s) (sym is) (grown-known s grown),
        )

    abbrev reached_from : List Label
    reached_from = reach (successors s) (bound s) used (recorded k mid)

    all_grown : Grows s (recorded k mid) reached_from
    all_grown = reach-grown s (bound s) used (recorded k mid) begun-ready.2

    -- it is what the ledger's laws speak of
    all-is : reached_from ≡ closing s (joint_of j) used (recorded used before)
    all-is = ap (reach (successors s) (bound s) used) g.holds.2

    -- for all that is reached
    pub closing-full : (e : Full) (after : List ℕ) → GrownTo reached_from mid (Err e) after → Crowded after e
    closing-full e after h =
        judged-full e after (h.size ∙ g.size)
        (λ Js ledger. closing-many s Js j clear used before marks known ledger (length after) (subst (λ (E : List Label). length after < length E) all-is h.holds))

    module _ (n : ℕ) (after : List ℕ) (h : GrownTo reached_from mid (Ok n) after) where
      all_known : Known s (recorded n after)
      all_known = subst (Known s) (sym h.holds.2) (grown-known s all_grown)

      -- what weighing asks for
      pub closing-ready : (used ≤ n) × Lent n after marks
      closing-ready =
          let (a, b, _) = begun-ready in
          let (size, fits, is) = h.holds in
          let longer : k ≤ n = omega (arith, grown-longer s all_grown, length-recorded k mid b) in
          (omega arith, record { enough = fits; marked = omega (arith, h.size, g.size); distinct = all_known.distinct })

      -- there is room, and all that is new was weighed
      pub judged-weighed : WellFormed s → (r : Judged) (m' : List ℕ) → Weighed s j used n after marks r m'
          → JudgedAll s (joint_of j ∷ []) used before marks (Ok r) after m'
      judged-weighed wf r m' w = record {
        kept = go (all (served s (standing n after m')) (joint_of j)) w.told;
        told = λ Js ledger. told-next s Js j clear used before marks known ledger wf n after (h.holds.2 ∙ all-is) now.enough now.marked w;
      }
        where
          now : Lent n after marks
          now = closing-ready.1

          size : length m' ≡ length marks
          size = struck-size w.struck ∙ w.size

          still : Lent n after m'
          still = record { enough = now.enough; marked = omega (arith, now.marked, size); distinct = now.distinct }

          go : (b : Bool) → r ≡ elim b as (λ _. Judged) [ true ↦ Fine n j | false ↦ Going n ] → Kept s before marks (Ok r) after m'
          go true e = rw e (record { size = h.size ∙ g.size; marked = size; lent = still; known = all_known; fit = fit })
          go false e = rw e (record { size = h.size ∙ g.size; marked = size; lent = still; known = all_known; fit = tt })

-- ---- the first and the last ledger
nothing-reached : (s : Sheet) (l : Label) → Reached s [] l → ⊥
nothing-reached s l (at_once J J-in k k-in q q-in e) = Memᴰ.not-nil J-in
nothing-reached s l (later m r k k-in q q-in e) = nothing-reached s m r

pub known-none : (s : Sheet) → Known s []
known-none s = record { distinct = tt; known = λ l h. absurd (Memᴰ.not-nil h) }

pub ledger-none : (s : Sheet) (recs marks : List ℕ) → Ledger s [] 0 recs marks
ledger-none s recs marks = record {
  lent = record { enough = omega arith; marked = omega arith; distinct = (known-none s).distinct };
  reached = λ l. (λ h. absurd (Memᴰ.not-nil h), λ r. absurd (nothing-reached s l r));
  right = λ i h. absurd (omega arith);
}

module _ (s : Sheet) (xs : List Entry) where
  pub ledger-needed : (n : ℕ) (recs marks : List ℕ) → Ledger s (considered s xs) n recs marks → n ≡ length (records_needed s xs)
  ledger-needed n recs marks g =
      let C = recorded n recs in
      let D = records_needed s xs in
      omega (
        arith,
        length-recorded n recs g.lent.enough,
        pigeon C D g.lent.distinct (λ l h. (records-are s xs l).1 ((g.reached l).0 h)),
        pigeon D C (records-distinct s xs) (λ l h. (g.reached l).1 ((records-are s xs l).0 h)),
      )

  pub too-many-needed : (room : ℕ) → TooMany s (considered s xs) room → room < length (records_needed s xs)
  too-many-needed room t = omega (arith, pigeon t.some (records_needed s xs) t.distinct (λ l h. (records-are s xs l).1 (t.reached l h)))
