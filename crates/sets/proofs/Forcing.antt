-- Judging a set: what is asked besides is entered behind the class assertions, and each verdict on such a start says whether any joint label is fine.
use Rattle.std.specs.Prelude.{ℕ, ◌≤◌, ◌<◌, max, Bool, true, false, ◌≡◌, refl, List, [], ◌∷◌, ◌++◌, map, length, set, replicate, Ok, Err}
use Rattle.std.specs.Prelude.{Option as Maybe, None as nothing, Some as just}
use Rattle.std.proofs.Common.{◌∙◌, ap}
use Rattle.std.proofs.lemmas.Bool.{le-ltb, lt-ltb}
use Rattle.alc.specs.declared.ClassAssertion.{ClassAssertion}
use Rattle.alc.specs.Sheet.{Sheet}
use Rattle.alc.specs.declared.Label.{Label}
use Rattle.alc.specs.declared.Mark.TheVariants.{Holds as holds, Fails as fails}
use Rattle.alc.specs.Label.{add, blank}
use Rattle.alc.specs.Settle as theory
use Rattle.alc.specs.Settle.{mark_at, label, settle}
use Rattle.alc.specs.Judge.{Entry, enter, first_fine, records_needed, start}
use Rattle.alc.specs.Causes.{denial, is_nothing}
use Rattle.tableau.specs.declared.labels.Labels.{Labels}
use Rattle.tableau.specs.declared.records.Full.{Full}
use Rattle.tableau.specs.Joints.{joint_of, Fit}
use Rattle.tableau.proofs.Jointly.{with-fits, with-is}
use Rattle.engine.specs.declared.judge.Judged.{Judged}
use Rattle.engine.specs.declared.judge.Judged.TheVariants.{Going, Fine}
use Rattle.engine.specs.Verdicts.{JudgedAll}
use Rattle.engine.proofs.Told.{needs-more, lent-enough, none-fine, found_first}
use Rattle.sets.specs.Sets.{judged_by}

-- ---- where the work begins
-- entries that come behind others are entered after them
enter-last : (before xs : List Entry) (J : theory.Joint) → enter xs (enter (before ++ []) J) ≡ enter (before ++ xs) J
enter-last [] xs J = refl
enter-last (x ∷ before) xs J = enter-last before xs (mark_at J x.individual (x.mark ∷ []))

-- what is asked besides comes behind the class assertions
start-entered : (s : Sheet) (xs : List Entry) → enter xs (start s []) ≡ start s xs
unfolding start
start-entered s xs =
    enter-last (map (λ (c : ClassAssertion). record { individual = c.individual; mark = holds c.class }) s.classes) xs (replicate (max 1 s.individuals) blank)

-- the class fails at the port, as the code adds it to the class assertions
pub denied-begins : (s : Sheet) (port class : ℕ) → (j r : Labels) → (joint_of j ≡ start s []) × Fit s j
    → (l : Label) → l ≡ add (label (joint_of j) port) (fails class) → (joint_of r ≡ set (joint_of j) port l) × (r.count ≡ j.count)
    → (joint_of r ≡ start s (denial port class)) × Fit s r
denied-begins s port class j r (begin, fit) l e w =
    let f : Label → Label = λ k. add k (fails class) in (
      with-is j r port f l e w ∙ ap (enter (denial port class)) begin ∙ start-entered s (denial port class),
      with-fits j r port f l e w s fit,
    )

-- ---- the verdict from where the work begins
module _ (s : Sheet) (xs : List Entry) (room : ℕ) where
  -- there is no room to tell
  judged-full : {e : Full} → room < length (records_needed s xs) → Err e ≡ judged_by s xs room
  unfolding judged_by
  judged-full h = rw (lt-ltb room (length (records_needed s xs)) h, judged_by)

  -- there is room, and the first settled joint label that is fine tells
  judged-told : length (records_needed s xs) ≤ room → (o : Maybe theory.Joint) → first_fine s xs ≡ o → Ok (is_nothing o) ≡ judged_by s xs room
  unfolding judged_by
  judged-told h o e = rw (le-ltb room (length (records_needed s xs)) h, judged_by, e)

-- as the code tells it: whether none is fine
abbrev pub none_fine : Judged → Bool
none_fine (Going n) = true
none_fine (Fine n j) = false

module _ {s : Sheet} {J : theory.Joint} {before marks after marks' : List ℕ} (xs : List Entry) (begin : J ≡ start s xs) where
  pub verdict-full : {e : Full} → JudgedAll s (settle s s.roles J) 0 before marks (Err e) after marks' → Err e ≡ judged_by s xs (length before)
  verdict-full judged = judged-full s xs (length before) (needs-more judged xs begin)

  pub verdict-told : (v : Judged) → JudgedAll s (settle s s.roles J) 0 before marks (Ok v) after marks' → Ok (none_fine v) ≡ judged_by s xs (length before)
  verdict-told (Going n) judged = judged-told s xs (length before) (lent-enough judged xs begin) nothing (none-fine judged xs begin)
  verdict-told (Fine n j) judged = judged-told s xs (length before) (lent-enough judged xs begin) (just (joint_of j)) (found_first judged xs begin)
