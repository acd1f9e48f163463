-- What the verdict on joint labels says, whatever joint labels were judged before. Definitions only.
use Rattle.std.specs.Prelude.{ℕ, ◌≤◌, ◌<◌, true, false, ◌≡◌, List, ◌++◌, length, get_or, Result, Ok, Err, IfOk}
use Rattle.std.specs.Prelude.{None as nothing, Some as just}
use Rattle.alc.specs.Lists.{◌∈◌, Distinct, all, first, up_to_first}
use Rattle.alc.specs.Sheet.{Sheet}
use Rattle.alc.specs.declared.Label.{Label}
use Rattle.alc.specs.Settle as theory
use Rattle.alc.specs.Seeds.{fine, served}
use Rattle.alc.specs.Judge.{Reached}
use Rattle.engine.specs.declared.judge.Judged.{Judged}
use Rattle.engine.specs.declared.judge.Judged.TheVariants.{Going, Fine}
use Rattle.tableau.specs.declared.labels.Labels.{Labels}
use Rattle.tableau.specs.declared.records.Full.{Full}
use Rattle.tableau.specs.Records.{recorded}
use Rattle.tableau.specs.Walks.{Lent, standing}
use Rattle.tableau.specs.Joints.{joint_of, Fit}
use Rattle.engine.specs.Ledger.{Known, Struck, Stable, Ledger}

-- the seeds reached from Js outnumber the room
pub record TooMany (s : Sheet) (Js : List theory.Joint) (room : ℕ) : Type 0 where
  pub some : List Label
  pub distinct : Distinct some
  pub reached : (l : Label) → l ∈ some → Reached s Js l
  pub more : room < length some

-- the records from `start` on were struck out until nothing changed, and the seeds of j were looked up
pub record Weighed (s : Sheet) (j : Labels) (start used : ℕ) (recs m : List ℕ) (r : Judged) (m' : List ℕ) : Type 0 where
  pub cleared : List ℕ
  pub size : length cleared ≡ length m
  pub old : (i : ℕ) → i < start → get_or cleared i 0 ≡ get_or m i 0
  pub new : (i : ℕ) → start ≤ i → i < used → get_or cleared i 0 ≡ 0
  pub struck : Struck s used start recs cleared m'
  pub stable : Stable s used start recs m'
  pub told : r ≡ elim (all (served s (standing used recs m')) (joint_of j)) [ true ↦ Fine used j | false ↦ Going used ]

-- how many records are used
abbrev pub used_by : Judged → ℕ
used_by (Going n) = n
used_by (Fine n j) = n

-- the joint label that is fine, where one is, has a label for each individual
abbrev pub FitsFine : Sheet → Judged → Type 0
FitsFine s (Going n) = Unit {0}
FitsFine s (Fine n j) = Fit s j

-- what holds of the buffers and of a joint label that is fine, whatever was judged before
pub record Kept (s : Sheet) (before marks : List ℕ) (r : Result Judged Full) (after marks' : List ℕ) : Type 0 where
  pub size : length after ≡ length before
  pub marked : length marks' ≡ length marks
  pub lent : IfOk r (λ v. Lent (used_by v) after marks')
  pub known : IfOk r (λ v. Known s (recorded (used_by v) after))
  pub fit : IfOk r (FitsFine s)

-- of the joint labels Ks, judged behind Js: the first that is fine, or none; or there is no room
abbrev pub ToldAll : Sheet → List theory.Joint → List theory.Joint → Result Judged Full → List ℕ → List ℕ → Type 0
ToldAll s Js Ks (Err e) recs marks = TooMany s (Js ++ up_to_first (all (fine s)) Ks) (length recs)
ToldAll s Js Ks (Ok (Going n)) recs marks = Ledger s (Js ++ up_to_first (all (fine s)) Ks) n recs marks × (first (all (fine s)) Ks ≡ nothing)
ToldAll s Js Ks (Ok (Fine n j)) recs marks = Ledger s (Js ++ up_to_first (all (fine s)) Ks) n recs marks × (first (all (fine s)) Ks ≡ just (joint_of j))

pub record JudgedAll (s : Sheet) (Ks : List theory.Joint) (used : ℕ) (before marks : List ℕ) (r : Result Judged Full) (after marks' : List ℕ) : Type 0 where
  pub kept : Kept s before marks r after marks'
  pub told : (Js : List theory.Joint) → Ledger s Js used before marks → ToldAll s Js Ks r after marks'
