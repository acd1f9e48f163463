-- Judging joint labels one after the other: marks that are cleared in part, and the settled joint labels of a start by its next step.
use Prim.Native.Nat.{ℕ, ◌+◌, ◌-◌, ◌≤◌, ◌<◌}
use mathlib.Core.Bool.{Bool, true, false}
use mathlib.Core.Path.{◌≡◌, refl, sym, ◌∙◌, ap}
use mathlib.Core.Logic.{⊎_elim}
use mathlib.Core.List.Memᴰ
use mathlib.Core.List.{List, [], ◌∷◌, ◌++◌, append_assoc, append-nil}
use lib.ListN.{length, get_or, take, set, replicate, length-replicate, get_or-replicate, get_or-append}
use lib.Seq.{length-take-le, get_or-take, get_or-append-add}
use borrow.Rule.Slice.PartMut.{mid_of, post_of, put_mid, same_len_mid, mid_len}
use native.Mathlib.Omega.{arith}
use Rattle.std.specs.Prelude.{Option as Maybe, None as nothing, Some as just, Result, Ok, Err}
use Rattle.alc.specs.Lists.{all, first, up_to_first}
use Rattle.alc.specs.Sheet.{Sheet}
use Rattle.alc.specs.declared.Label.{Label}
use Rattle.alc.specs.declared.Mark.{Mark}
use Rattle.alc.specs.Label.{add, join}
use Rattle.alc.specs.Settle as theory
use Rattle.alc.specs.Settle.{label, settle}
use Rattle.alc.specs.Seeds.{fine, served}
use Rattle.alc.proofs.Theorems.Lists.{cases}
use Rattle.alc.proofs.Theorems.Steps.{unset_all}
use Rattle.engine.specs.declared.judge.Judged.{Judged}
use Rattle.engine.specs.declared.judge.Judged.TheVariants.{Going, Fine}
use Rattle.plan.specs.declared.Plan.{Plan}
use Rattle.plan.specs.Plan.{plan_sheet}
use Rattle.tableau.specs.declared.joint.JointStep.{JointStep}
use Rattle.tableau.specs.declared.joint.JointStep.TheVariants.{Onward, Split}
use Rattle.tableau.specs.declared.labels.Labels.{Labels}
use Rattle.tableau.specs.declared.records.Full.{Full}
use Rattle.tableau.specs.Records.{recorded}
use Rattle.tableau.specs.Walks.{Lent, standing}
use Rattle.tableau.specs.Joints.{joint_of, Fit, next_of, settle_by}
use Rattle.engine.specs.Ledger.{Known, Stable, Struck}
use Rattle.engine.specs.Verdicts.{JudgedAll, ToldAll, Weighed}
use Rattle.steps.proofs.Chosen.{or_else, first-append}
use Rattle.tableau.proofs.Jointly.{FreshBy, joint-length, stepped_fresh, stepped-settles, with-falls, with-fits, with-is}
use Rattle.engine.proofs.Ledgers.{too-many-more}

-- ---- the marks of the records from `start` to `used` are cleared, in the part that was lent for it
module _ {start used : ℕ} {recs m mid : List ℕ} (inside : start ≤ used) (lent : Lent used recs m)
    (zeros : mid ≡ replicate (length (mid_of start (used - start) m)) 0) where
  abbrev behind : List ℕ
  behind = post_of start (used - start) m

  abbrev width : ℕ
  width = length (mid_of start (used - start) m)

  abbrev pub cleared : List ℕ
  cleared = put_mid start (used - start) m mid

  cleared-size : length cleared ≡ length m
  cleared-size = same_len_mid start (used - start) m mid (ap (λ (l : List ℕ). length l) zeros ∙ length-replicate width 0)

  front : length (take start m) ≡ start
  front = length-take-le start m (omega (arith, lent.marked))

  -- the marks before the part are as they were
  cleared-old : (i : ℕ) → i < start → get_or cleared i 0 ≡ get_or m i 0
  cleared-old i h = get_or-append (take start m) (mid ++ behind) 0 i (omega (arith, front)) ∙ get_or-take start m i 0 h

  -- those in it are 0
  cleared-new : (i : ℕ) → start ≤ i → i < used → get_or cleared i 0 ≡ 0
  cleared-new i h g =
      let at : length (take start m) + (i - start) ≡ i = omega (arith, front) in
      let b : i - start < width = omega (arith, mid_len start used m lent.marked) in
      ap (λ (j : ℕ). get_or cleared j 0) (sym at)
      ∙ get_or-append-add (take start m) (mid ++ behind) (i - start) 0
      ∙ ap (λ (l : List ℕ). get_or (l ++ behind) (i - start) 0) zeros
      ∙ get_or-append (replicate width 0) behind 0 (i - start) (omega (arith, length-replicate {A = ℕ} width 0))
      ∙ get_or-replicate width (i - start) 0 0 b

  -- they were struck out until nothing changed, and b says whether the joint label is fine
  pub weighed : (s : Sheet) (j : Labels) (m' : List ℕ) → Struck s used start recs cleared m' × Stable s used start recs m'
      → (b : Bool) → b ≡ all (served s (standing used recs m')) (joint_of j)
      → Weighed s j start used recs m (elim b [ true ↦ Fine used j | false ↦ Going used ]) m'
  weighed s j m' (struck, stable) b e = record {
    cleared = cleared;
    size = cleared-size;
    old = cleared-old;
    new = cleared-new;
    struck = struck;
    stable = stable;
    told = ap (λ (t : Bool). elim t as (λ _. Judged) [ true ↦ Fine used j | false ↦ Going used ]) e;
  }

-- ---- the first that passes, over two lists
module _ {A : Type 0} where
  -- nothing follows one that was found
  abbrev pub unless_found : Maybe A → List A → List A
  unless_found nothing ys = ys
  unless_found (just x) ys = []

  module _ (p : A → Bool) where
    -- up to the first of both
    pub up_to_first-append : (xs ys : List A) → up_to_first p (xs ++ ys) ≡ up_to_first p xs ++ unless_found (first p xs) (up_to_first p ys)
    up_to_first-append [] ys = refl
    up_to_first-append (x ∷ xs) ys =
        ⊎_elim
        (λ (e : p x ≡ true). rw (e, first, up_to_first))
        (λ (e : p x ≡ false). rw (e, first, up_to_first) (ap {B = List A} (λ r. x ∷ r) (up_to_first-append xs ys)))
        (cases (p x))

-- ---- the joint labels of a start
module _ (s : Sheet) where
  abbrev pub up_to : List theory.Joint → List theory.Joint
  up_to = up_to_first (all (fine s))

  abbrev pub found : List theory.Joint → Maybe theory.Joint
  found = first (all (fine s))

  -- none of the first is fine: the others are judged after them
  told-both : (Js Ks Ls : List theory.Joint) → found Ks ≡ nothing → (r : Result Judged Full) (recs marks : List ℕ) → ToldAll s (Js ++ up_to Ks) Ls r recs marks
      → ToldAll s Js (Ks ++ Ls) r recs marks
  told-both Js Ks Ls none r recs marks h = go r h
    where
      listed : Js ++ up_to (Ks ++ Ls) ≡ (Js ++ up_to Ks) ++ up_to Ls
      listed =
          ap (λ (l : List theory.Joint). Js ++ l) (up_to_first-append (all (fine s)) Ks Ls ∙ ap (λ (o : Maybe theory.Joint). up_to Ks ++ unless_found o (up_to Ls)) none)
          ∙ sym (append_assoc Js (up_to Ks) (up_to Ls))

      left : found (Ks ++ Ls) ≡ found Ls
      left = first-append (all (fine s)) Ks Ls ∙ ap (λ (o : Maybe theory.Joint). or_else o (found Ls)) none

      go : (r : Result Judged Full) → ToldAll s (Js ++ up_to Ks) Ls r recs marks → ToldAll s Js (Ks ++ Ls) r recs marks
      go (Err e) k = rw listed k
      go (Ok (Going n)) k = rw (listed, left) k
      go (Ok (Fine n j)) k = rw (listed, left) k

  -- there is no room for the first: the others do not count
  told-full : (Js Ks Ls : List theory.Joint) (e : Full) (recs marks : List ℕ) → ToldAll s Js Ks (Err e) recs marks → ToldAll s Js (Ks ++ Ls) (Err e) recs marks
  told-full Js Ks Ls e recs marks k =
      rw (up_to_first-append (all (fine s)) Ks Ls, ← append_assoc Js (up_to Ks) (unless_found (found Ks) (up_to Ls)))
      (too-many-more s (Js ++ up_to Ks) ((Js ++ up_to Ks) ++ unless_found (found Ks) (up_to Ls)) (length recs)
      (λ K i. Memᴰ.append_left (unless_found (found Ks) (up_to Ls)) i) k)

  -- nor where one of them is fine
  told-fine : (Js Ks Ls : List theory.Joint) (n : ℕ) (j : Labels) (recs marks : List ℕ) → ToldAll s Js Ks (Ok (Fine n j)) recs marks
      → ToldAll s Js (Ks ++ Ls) (Ok (Fine n j)) recs marks
  told-fine Js Ks Ls n j recs marks (k, e) = rw (up_to_first-append (all (fine s)) Ks Ls, first-append (all (fine s)) Ks Ls, e, append-nil) (k, refl)

module _ (s : Sheet) (used : ℕ) (before marks : List ℕ) where
  -- there are none
  pub judged-none : Lent used before marks → Known s (recorded used before) → JudgedAll s [] used before marks (Ok (Going used)) before marks
  judged-none lent known = record {
    kept = record { size = refl; marked = refl; lent = lent; known = known; fit = tt };
    told = λ Js ledger. rw append-nil (ledger, refl);
  }

  -- those of Ks and then of Ls
  module _ (Ks Ls : List theory.Joint) where
    -- there is no room for those of Ks
    pub judged-full : {e : Full} {after marks' : List ℕ} → JudgedAll s Ks used before marks (Err e) after marks' → JudgedAll s (Ks ++ Ls) used before marks (Err e) after marks'
    judged-full {e} {after} {marks'} k = record { kept = k.kept; told = λ Js ledger. told-full s Js Ks Ls e after marks' (k.told Js ledger) }

    -- one of Ks is fine
    pub judged-fine : {n : ℕ} {j : Labels} {after marks' : List ℕ} → JudgedAll s Ks used before marks (Ok (Fine n j)) after marks'
        → JudgedAll s (Ks ++ Ls) used before marks (Ok (Fine n j)) after marks'
    judged-fine {n} {j} {after} {marks'} k = record { kept = k.kept; told = λ Js ledger. told-fine s Js Ks Ls n j after marks' (k.told Js ledger) }

    -- none of Ks is fine, and then those of Ls were judged
    pub judged-both : {n : ℕ} {mid marks₁ : List ℕ} → JudgedAll s Ks used before marks (Ok (Going n)) mid marks₁
        → {r : Result Judged Full} {after marks' : List ℕ} → JudgedAll s Ls n mid marks₁ r after marks' → JudgedAll s (Ks ++ Ls) used before marks r after marks'
    judged-both k {r} {after} {marks'} l = record {
      kept = record { size = l.kept.size ∙ k.kept.size; marked = l.kept.marked ∙ k.kept.marked; lent = l.kept.lent; known = l.kept.known; fit = l.kept.fit };
      told = λ Js ledger. let (now, none) = k.told Js ledger in told-both s Js Ks Ls none r after marks' (l.told (Js ++ up_to s Ks) now);
    }

-- none of Ks is fine: what judging others asks for
pub going-ready : {s : Sheet} {Ks : List theory.Joint} {used n : ℕ} {before marks mid marks₁ : List ℕ} → JudgedAll s Ks used before marks (Ok (Going n)) mid marks₁
    → length before ≤ length marks → (Lent n mid marks₁ × (length mid ≤ length marks₁)) × Known s (recorded n mid)
going-ready k room = ((k.kept.lent, omega (arith, k.kept.size, k.kept.marked)), k.kept.known)

-- ---- a joint label that the code has made from j: f of its label at a, so that it is K
pub record Branch (s : Sheet) (K : theory.Joint) (t : ℕ) (r : Labels) : Type 0 where
  pub is : joint_of r ≡ K
  pub fits : Fit s r
  pub less : unset_all 32 (joint_of r) < t

-- so it is, and fewer of its marks are unset
branch : {s : Sheet} {j : Labels} {t : ℕ} → Fit s j → unset_all 32 (joint_of j) ≡ t → (r : Labels) (a : ℕ) (f : Label → Label)
    → unset_all 32 (set (joint_of j) a (f (label (joint_of j) a))) < unset_all 32 (joint_of j) → {l : Label} → l ≡ f (label (joint_of j) a)
    → (joint_of r ≡ set (joint_of j) a l) × (r.count ≡ j.count) → Branch s (set (joint_of j) a (f (label (joint_of j) a))) t r
branch {s} {j} {t} fit now r a f fewer {l} e w = record { is = with-is j r a f l e w; fits = with-fits j r a f l e w s fit; less = with-falls j r a f l e w 32 t now fewer }

-- ---- the next step k of a joint label: what it adds is new, and the settled joint labels are those of what follows
pub record Stepped (s : Sheet) (j : Labels) (k : JointStep) : Type 0 where
  pub fit : Fit s j
  pub fresh : FreshBy 32 j.count (joint_of j) k
  pub settles : settle s s.roles (joint_of j) ≡ settle_by s (joint_of j) k

pub stepped : (p : Plan) (j : Labels) → length j.labels ≡ 8 → Fit (plan_sheet p) j → {k : JointStep} → k ≡ next_of (plan_sheet p) (joint_of j)
    → Stepped (plan_sheet p) j k
stepped p j sized fit {k} e = record {
  fit = fit;
  fresh = stepped_fresh p j fit (joint-length j sized) k e;
  settles = stepped-settles p j fit (joint-length j sized) k e;
}

-- marks are added to the label at a
pub onward : {s : Sheet} {j : Labels} {a : ℕ} {more : Label} → Stepped s j (Onward a more) → {t : ℕ} → unset_all 32 (joint_of j) ≡ t → (r : Labels) {k l : Label}
    → k ≡ label (joint_of j) a → l ≡ join k more → (joint_of r ≡ set (joint_of j) a l) × (r.count ≡ j.count) → Branch s (set (joint_of j) a (join (label (joint_of j) a) more)) t r
onward {s} {j} {a} {more} g now r d e w = branch g.fit now r a (λ (l : Label). join l more) g.fresh.1 (e ∙ ap (λ (l : Label). join l more) d) w

-- one of two marks is
module _ {s : Sheet} {j : Labels} {a : ℕ} {m n : Mark} (g : Stepped s j (Split a m n)) {t : ℕ} (now : unset_all 32 (joint_of j) ≡ t) (r : Labels)
    {k l : Label} (d : k ≡ label (joint_of j) a) where
  -- the first
  pub split-first : l ≡ add k m → (joint_of r ≡ set (joint_of j) a l) × (r.count ≡ j.count) → Branch s (set (joint_of j) a (add (label (joint_of j) a) m)) t r
  split-first e w = branch g.fit now r a (λ (l : Label). add l m) g.fresh.1.1 (e ∙ ap (λ (l : Label). add l m) d) w

  -- the second
  pub split-second : l ≡ add k n → (joint_of r ≡ set (joint_of j) a l) × (r.count ≡ j.count) → Branch s (set (joint_of j) a (add (label (joint_of j) a) n)) t r
  split-second e w = branch g.fit now r a (λ (l : Label). add l n) g.fresh.2.1 (e ∙ ap (λ (l : Label). add l n) d) w
