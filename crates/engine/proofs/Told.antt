-- What a verdict on a start says of the sheet: the records needed, and the first settled joint label that is fine. Whatever is asked besides the class assertions.
use Prim.Native.Nat.{ℕ, ◌≤◌, ◌<◌}
use mathlib.Core.Path.{◌≡◌, subst}
use mathlib.Core.List.{List, []}
use lib.ListN.{length}
use native.Mathlib.Omega.{arith}
use Rattle.std.specs.Prelude.{None as nothing, Some as just, Result, Ok, Err}
use Rattle.alc.specs.Sheet.{Sheet}
use Rattle.alc.specs.Settle as theory
use Rattle.alc.specs.Settle.{settle}
use Rattle.alc.specs.Judge.{Entry, first_fine, records_needed, settled_joints, start}
use Rattle.tableau.specs.declared.labels.Labels.{Labels}
use Rattle.tableau.specs.declared.records.Full.{Full}
use Rattle.tableau.specs.Joints.{joint_of}
use Rattle.engine.specs.declared.judge.Judged.{Judged}
use Rattle.engine.specs.declared.judge.Judged.TheVariants.{Going, Fine}
use Rattle.engine.specs.Verdicts.{JudgedAll, ToldAll}
use Rattle.engine.proofs.Ledgers.{ledger-needed, ledger-none, too-many-needed}

-- the verdict r on the joint labels that J leads to, where J is the start with xs
abbrev Verdict : Sheet → theory.Joint → List ℕ → List ℕ → Result Judged Full → List ℕ → List ℕ → Type 0
Verdict s J before marks r after marks' = JudgedAll s (settle s s.roles J) 0 before marks r after marks'

module _ {s : Sheet} {J : theory.Joint} {before marks after marks' : List ℕ} where
  -- what it tells of the settled joint labels
  pub told-by : {r : Result Judged Full} → Verdict s J before marks r after marks' → (xs : List Entry) → J ≡ start s xs → ToldAll s [] (settled_joints s xs) r after marks'
  unfolding settled_joints
  told-by {r} judged xs begin = subst (λ (K : theory.Joint). ToldAll s [] (settle s s.roles K) r after marks') begin (judged.told [] (ledger-none s before marks))

  -- there is no room
  pub needs-more : {e : Full} → Verdict s J before marks (Err e) after marks' → (xs : List Entry) → J ≡ start s xs → length before < length (records_needed s xs)
  needs-more judged xs begin = omega (arith, too-many-needed s xs (length after) (told-by judged xs begin), judged.kept.size)

  -- there is
  pub lent-enough : {v : Judged} → Verdict s J before marks (Ok v) after marks' → (xs : List Entry) → J ≡ start s xs → length (records_needed s xs) ≤ length before
  lent-enough {v = Going n} judged xs begin = omega (arith, ledger-needed s xs n after marks' (told-by judged xs begin).0, judged.kept.lent.enough, judged.kept.size)
  lent-enough {v = Fine n j} judged xs begin = omega (arith, ledger-needed s xs n after marks' (told-by judged xs begin).0, judged.kept.lent.enough, judged.kept.size)

  -- none is fine
  pub none-fine : {n : ℕ} → Verdict s J before marks (Ok (Going n)) after marks' → (xs : List Entry) → J ≡ start s xs → first_fine s xs ≡ nothing
  unfolding first_fine
  none-fine judged xs begin = (told-by judged xs begin).1

  -- one is
  pub found_first : {n : ℕ} {j : Labels} → Verdict s J before marks (Ok (Fine n j)) after marks' → (xs : List Entry) → J ≡ start s xs → first_fine s xs ≡ just (joint_of j)
  unfolding first_fine
  found_first judged xs begin = (told-by judged xs begin).1
