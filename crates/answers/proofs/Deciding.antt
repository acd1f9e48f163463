-- What the desk decides: the model's seeds hold all that its elements ask for, its words are put or their length is told, and each verdict is the sheet's answer.
use Rattle.std.specs.Prelude.{Ok, Err}
use Prim.Native.Nat.{ℕ, ◌+◌, ◌*◌, ◌≤◌, ◌<◌}
use mathlib.Core.Path.{◌≡◌, refl, sym, ◌∙◌, ap, subst}
use mathlib.Core.List.Memᴰ
use mathlib.Core.List.{List, [], ◌++◌}
use lib.ListN.{length, drop}
use native.Mathlib.Omega.{arith}
use Rattle.alc.specs.Lists.{all, each}
use Rattle.alc.specs.Sheet.{Sheet}
use Rattle.alc.specs.declared.Label.{Label}
use Rattle.alc.specs.Settle.{settle}
use Rattle.alc.specs.Settle as theory
use Rattle.alc.specs.declared.Ask.{Ask}
use Rattle.alc.specs.Seeds.{asks, bound, fine, include_all, seeds}
use Rattle.alc.specs.Judge.{at_once, considered, settled_joints, start}
use Rattle.alc.specs.Model as model
use Rattle.alc.specs.Model.{chosen, model_edges, model_seeds, model_words, satisfy_answer, told}
use Rattle.alc.proofs.Theorems.Lists.{each-elim, each-intro, up_to_first-found}
use Rattle.alc.proofs.Theorems.Sheet.{WellFormed}
use Rattle.alc.proofs.Theorems.Reach.{again, grown-in, include_all-grown, reach-closed, successors-known}
use Rattle.alc.proofs.Theorems.Decides.{chosen-next, nothing_yet}
use Rattle.alc.proofs.Theorems.Answers.{reply-short, reply-told}
use Rattle.tableau.specs.declared.labels.Labels.{Labels}
use Rattle.tableau.specs.declared.records.Full.{Full}
use Rattle.tableau.specs.Joints.{joint_of, Fit}
use Rattle.tableau.specs.Records.{recorded}
use Rattle.engine.specs.declared.judge.Judged.TheVariants.{Going, Fine}
use Rattle.engine.specs.Ledger.{Known}
use Rattle.engine.specs.Verdicts.{JudgedAll}
use Rattle.engine.proofs.Ledgers.{reached-closed}
use Rattle.engine.proofs.Told.{found_first, lent-enough, needs-more, none-fine, told-by}
use Rattle.order.specs.Sound.{AllSeedsIn, Complete, Shuffled, Sound}
use Rattle.model.specs.Laid.{Ready, words_of}
use Rattle.order.proofs.Orders.{sound-shuffled}
use Rattle.model.proofs.Worded.{seeds-length, words_are, words-length}
use Rattle.answers.specs.declared.Answer.{Answer}
use Rattle.answers.specs.declared.Answer.TheVariants.{Model, LongModel, Unsatisfiable, OutOfSpace}
use Rattle.answers.specs.Answers.{Put, Decided}

-- ---- the model is ready to be written
-- the model's seeds hold all that its elements ask for, where the seeds of J are recorded
model-complete : (s : Sheet) → WellFormed s → (J : theory.Joint) (C : List Label) → Known s C → AllSeedsIn s J C → Complete s J (model_seeds s J)
unfolding model_seeds
model-complete s wf J C known recorded-all =
    let next : Label → List Label = λ l. seeds s (chosen s l) in
    let D = include_all [] (each (seeds s) J) in
    let (g, asked) = include_all-grown s [] (each (seeds s) J) (nothing_yet s) (λ q h.
    let (k, k-in, i) = each-elim (seeds s) J h in known.known q (recorded-all k k-in q i)) in
    let (h, closed) = reach-closed s next (λ l q i. successors-known s l q (chosen-next s wf l q i)) (bound s) 0 D (again s [] D g) (λ j j< j<D q i. absurd (omega arith)) (omega arith) in
    record { asked = λ k k-in q i. grown-in s D _ h q (asked q (each-intro (seeds s) J k-in i)); onward = closed }

-- the records are brought into the model's order
pub model-ready : (s : Sheet) → WellFormed s → (j : Labels) → Fit s j → {used seeds : ℕ} {recs marks recs' marks' : List ℕ} → Sound s used recs marks
    → AllSeedsIn s (joint_of j) (recorded used recs) → used ≤ 4096
    → Shuffled used recs marks recs' marks' × (seeds ≤ used) × (recorded seeds recs' ≡ model_seeds s (joint_of j)) → Ready s j used seeds recs' marks'
model-ready s wf j fit {used} {seeds} {recs} sound recorded-all few (shuffled, front, is) = record {
  sound = sound-shuffled shuffled sound;
  fit = fit;
  front = front;
  few = few;
  complete = subst (λ (B : List Label). Complete s (joint_of j) B) (sym is) (model-complete s wf (joint_of j) (recorded used recs) sound.known recorded-all);
}

-- what is written then are the model's words
module _ {s : Sheet} {j : Labels} {used seeds : ℕ} {recs marks : List ℕ} (r : Ready s j used seeds recs marks) (is : recorded seeds recs ≡ model_seeds s (joint_of j)) where
  pub model-words : words_of s (joint_of j) (recorded seeds recs) ≡ model_words s (joint_of j)
  model-words = ap (words_of s (joint_of j)) is ∙ words_are s (joint_of j)

  pub model-length : length (joint_of j) ≡ j.count → (elements edges : ℕ) → elements ≡ j.count + seeds
      → edges ≡ length (model_edges s (joint_of j) (recorded seeds recs) (chosen s)) → 2 + elements + 3 * edges ≡ length (model_words s (joint_of j))
  model-length long elements edges n e =
      omega (arith, n, e, long, seeds-length r long, words-length s (joint_of j) (recorded seeds recs), ap length model-words)

-- ---- the words are put, or their length is told
module _ (ws before : List ℕ) (n : ℕ) (e : n ≡ length ws) where
  pub put-words : n ≤ length before → {xs after : List ℕ} {m : ℕ} → after ≡ xs ++ drop m before → xs ≡ ws → m ≡ n → Put ws before (Model n) after
  put-words b h same m = record { fits = λ _. (ap Model e, h ∙ λ i. same i ++ drop ((m ∙ e) i) before); long = λ c. absurd (omega arith) }

  pub put-length : length before < n → Put ws before (LongModel n) before
  put-length b = record { fits = λ c. absurd (omega arith); long = λ _. (ap LongModel e, refl) }

-- ---- the verdict is the sheet's answer
module _ {before : List ℕ} {a : model.Finding} where
  decided-put : {r : Answer} {after : List ℕ} (ws : List ℕ) → a ≡ record { number = 10; out = ws } → Put ws before r after → Decided a before r after
  decided-put ws e p = rw e (record { ten = λ _. p; twelve = λ q. absurd (omega arith); thirteen = λ q. absurd (omega arith) })

  decided-none : a ≡ record { number = 12; out = [] } → Decided a before Unsatisfiable before
  decided-none e = rw e (record { ten = λ q. absurd (omega arith); twelve = λ _. (refl, refl); thirteen = λ q. absurd (omega arith) })

  decided-full : a ≡ record { number = 13; out = [] } → Decided a before OutOfSpace before
  decided-full e = rw e (record { ten = λ q. absurd (omega arith); twelve = λ q. absurd (omega arith); thirteen = λ _. (refl, refl) })

module _ {s : Sheet} {J : theory.Joint} {before marks after marks' : List ℕ} (begin : J ≡ start s []) where
  -- there is no room
  pub answer-full : {e : Full} → JudgedAll s (settle s s.roles J) 0 before marks (Err e) after marks' → (out : List ℕ) → Decided (satisfy_answer s (length before)) out OutOfSpace out
  answer-full judged out = decided-full (reply-short s (length before) (needs-more judged [] begin))

  -- none is fine
  pub answer-none : {n : ℕ} → JudgedAll s (settle s s.roles J) 0 before marks (Ok (Going n)) after marks' → (out : List ℕ) → Decided (satisfy_answer s (length before)) out Unsatisfiable out
  answer-none judged out = decided-none (reply-told s (length before) (lent-enough judged [] begin) ∙ ap (told s) (none-fine judged [] begin))

  -- one is fine
  module _ {n : ℕ} {j : Labels} (judged : JudgedAll s (settle s s.roles J) 0 before marks (Ok (Fine n j)) after marks') where
    pub found-sound : Sound s n after marks'
    found-sound =
        let (ledger, _) = told-by judged [] begin in record {
          lent = ledger.lent;
          known = judged.kept.known;
          closed = reached-closed s (considered s []) (recorded n after) ledger.reached;
          right = ledger.right;
        }

    pub found-asked : AllSeedsIn s (joint_of j) (recorded n after)
    found-asked k k-in q i =
        let (ledger, one) = told-by judged [] begin in
        let (a, a_in, same) = Memᴰ.of_map (λ (a : Ask). a.seed) (asks s k) i in
        (ledger.reached q).1 (at_once (joint_of j) (up_to_first-found (all (fine s)) (settled_joints s []) (joint_of j) one) k k-in a a_in (sym same))

    pub answer-model : (out : List ℕ) (a : Answer) (out' : List ℕ) → Put (model_words s (joint_of j)) out a out' → Decided (satisfy_answer s (length before)) out a out'
    answer-model out a out' p =
        decided-put (model_words s (joint_of j)) (reply-told s (length before) (lent-enough judged [] begin) ∙ ap (told s) (found_first judged [] begin)) p
