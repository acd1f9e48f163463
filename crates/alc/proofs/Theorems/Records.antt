-- The records needed are the seeds that are reached, each once, and at most e·2^(e-1); from which joint labels; and that the model's seeds are among them.
use Rattle.std.specs.Prelude.{ℕ, ◌≤◌, ◌<◌, true, false, ◌≡◌, refl, ◌↔◌, length}
use Rattle.std.proofs.Common.{sym, ⊎_elim, arith}
use mathlib.Core.List.Memᴰ
use mathlib.Core.List.{List, [], ◌∷◌, ◌++◌}
use Rattle.alc.specs.Lists.{all, ◌∈◌, Distinct, each, just}
use Rattle.alc.specs.Sheet.{Sheet}
use Rattle.alc.specs.Label.{Label, clashes}
use Rattle.alc.specs.Settle.{Joint}
use Rattle.alc.specs.Seeds.{SeedSatisfiable, seed_survives, seeds, bound, fine, asks, successors, Ask, include_all, expansions, universe}
use Rattle.alc.specs.Judge.{start, Entry, later, Reached, at_once, settled_joints, records_needed, considered, first_fine, AllSatisfiable}
use Rattle.alc.specs.Model.{chosen, model_seeds}
use Rattle.alc.specs.Promises.{LookedAt, MoreSeeds}
use Rattle.alc.proofs.Theorems.Lists.{each-elim, up_to_first-in, up_to_first-is, up_to_first-found, each-intro, any_none, all-elim, all-intro, cases, clashing}
use Rattle.alc.proofs.Theorems.Counting.{pigeon}
use Rattle.alc.proofs.Theorems.Sheet.{WellFormed}
use Rattle.alc.proofs.Theorems.Settle.{settle-finds}
use Rattle.alc.proofs.Theorems.Seeds.{seeds-in}
use Rattle.alc.proofs.Theorems.Expand.{expand-finds}
use Rattle.alc.proofs.Theorems.Bound.{seed-in-universe}
use Rattle.alc.proofs.Theorems.Reach.{successors-known, grown-in, again, ClosedBy, grown-bound, include_all-all, reach-closed, Grows, reach-all}
use Rattle.alc.proofs.Theorems.Reach.{closed-by-successors, include_all-grown}
use Rattle.alc.proofs.Theorems.Decides.{seeds-known, nothing_yet, seed-test, chosen-next}

module _ (s : Sheet) (xs : List Entry) where
  -- the labels of a settled joint label do not clash
  settled-clear : (J : Joint) → J ∈ settled_joints s xs → (k : Label) → k ∈ J → clashes s k ≡ false
  unfolding settled_joints
  settled-clear J J-in = let (done, ext) = settle-finds s s.roles (start s xs) J J-in in any_none (clashes s) J done.clear

  abbrev begun : List Label
  begun = include_all [] (each (each (seeds s)) (considered s xs))

  facts : Grows s begun (records_needed s xs) × ClosedBy (successors s) (records_needed s xs)
      × ((q : Label) → q ∈ each (each (seeds s)) (considered s xs) → q ∈ begun)
  unfolding records_needed
  facts =
      let (g, all_in) = include_all-grown s [] (each (each (seeds s)) (considered s xs)) (nothing_yet s) (λ q h.
      let (J, J-in, i) = each-elim (each (seeds s)) (considered s xs) h in
      let (l, l-in, k) = each-elim (seeds s) J i in
      seeds-known s l q (settled-clear J (up_to_first-in (all (fine s)) (settled_joints s xs) J J-in) l l-in) k) in
      let (g₁, cl) = reach-closed s (successors s) (successors-known s) (bound s) 0 begun (again s [] begun g) (λ j j< j<C q i. absurd (omega arith))
      (omega arith) in
      (g₁, cl, all_in)

  pub records-bound : length (records_needed s xs) ≤ bound s
  records-bound = grown-bound s begun (records_needed s xs) facts.0

  pub records-distinct : Distinct (records_needed s xs)
  records-distinct = facts.0.distinct

  all-reached : (l : Label) → l ∈ records_needed s xs → Reached s (considered s xs) l
  unfolding records_needed successors
  all-reached =
      reach-all (Reached s (considered s xs)) (successors s)
      (λ m r q h.
      let (k, k-in, i) = each-elim (seeds s) (expansions s m) h in
      let (a, a_in, e) = Memᴰ.of_map (λ (a : Ask). a.seed) (asks s k) i in
      later m r k k-in a a_in (sym e))
      (bound s) 0 begun
      (include_all-all (Reached s (considered s xs)) [] (each (each (seeds s)) (considered s xs)) (λ l h. absurd (Memᴰ.not-nil h)) (λ q h.
      let (J, J-in, i) = each-elim (each (seeds s)) (considered s xs) h in
      let (k, k-in, j) = each-elim (seeds s) J i in
      let (a, a_in, e) = Memᴰ.of_map (λ (a : Ask). a.seed) (asks s k) j in
      at_once J J-in k k-in a a_in (sym e)))

  reached-all : (l : Label) → Reached s (considered s xs) l → l ∈ records_needed s xs
  reached-all l (at_once J J-in k k-in q q-in e) =
      Memᴰ.cast e (grown-in s begun (records_needed s xs) facts.0 q.seed
      (facts.2 q.seed (each-intro (each (seeds s)) (considered s xs) J-in (each-intro (seeds s) J k-in (seeds-in s k q q-in)))))
  reached-all l (later m r k k-in q q-in e) = Memᴰ.cast e (closed-by-successors s (records_needed s xs) facts.1 m (reached-all m r) k k-in q q-in)

  pub records-are : (l : Label) → (l ∈ records_needed s xs) ↔ Reached s (considered s xs) l
  records-are l = (all-reached l, reached-all l)

  -- what is reached from the settled joint labels is in the universe
  reached-known : (l : Label) → Reached s (settled_joints s xs) l → l ∈ universe s
  reached-known l (at_once J J-in k k-in q q-in e) = Memᴰ.cast e (seed-in-universe s k (settled-clear J J-in k k-in) q q-in)
  reached-known l (later m r k k-in q q-in e) = let (quiet, more) = expand-finds s m k k-in in Memᴰ.cast e (seed-in-universe s k quiet.clear q q-in)

  pub reached-seed-test : WellFormed s → (l : Label) → Reached s (settled_joints s xs) l → (seed_survives s l ≡ true) ↔ SeedSatisfiable s l
  reached-seed-test wf l r = seed-test s wf l (reached-known l r)

  -- a settled joint label passes exactly if all its seeds are satisfiable
  fine-is : WellFormed s → (J : Joint) → J ∈ settled_joints s xs → (all (fine s) J ≡ true) ↔ AllSatisfiable s J
  unfolding fine
  fine-is wf J J-in = (
    λ e k k-in q q-in. (test k k-in q q-in).0 (all-elim (seed_survives s) (seeds s k) (all-elim (fine s) J e k k-in) q.seed (seeds-in s k q q-in)),
    λ h. all-intro (fine s) J (λ k k-in. all-intro (seed_survives s) (seeds s k) (λ l i.
        let (q, q-in, e) = Memᴰ.of_map (λ (q : Ask). q.seed) (asks s k) i in
        rw (← e) ((test k k-in q q-in).1 (h k k-in q q-in)))),
  )
    where
      test : (k : Label) → k ∈ J → (q : Ask) → q ∈ asks s k → (seed_survives s q.seed ≡ true) ↔ SeedSatisfiable s q.seed
      test k k-in q q-in = reached-seed-test wf q.seed (at_once J J-in k k-in q q-in refl)

  -- the settled joint labels that count: those before which none has all seeds satisfiable
  pub considered-is : WellFormed s → (J : Joint) → (J ∈ considered s xs) ↔ LookedAt s xs J
  considered-is wf J =
      let split = up_to_first-is (all (fine s)) (settled_joints s xs) J in
      let inside : (ys zs : List Joint) → settled_joints s xs ≡ ys ++ (J ∷ zs) → (K : Joint) → K ∈ ys → (all (fine s) K ≡ true) ↔ AllSatisfiable s K =
      λ ys zs e K i. fine-is wf K (rw e (Memᴰ.append_left (J ∷ zs) i)) in (
        λ h. let (ys, zs, e, none) = split.0 h in (ys, zs, e, λ K i a. clashing (all (fine s) K) ((inside ys zs e K i).1 a) (none K i)),
        λ (ys, zs, e, none). split.1 (ys, zs, e, λ K i. ⊎_elim (λ t. absurd (none K i ((inside ys zs e K i).0 t))) (λ t. t) (cases (all (fine s) K))),
      )

  -- what is reached from some of them is reached from all
  reached-from : (Js : List Joint) → ((J : Joint) → J ∈ Js → J ∈ considered s xs) → (l : Label) → Reached s Js l → Reached s (considered s xs) l
  reached-from Js h l (at_once J J-in k k-in q q-in e) = at_once J (h J J-in) k k-in q q-in e
  reached-from Js h l (later m r k k-in q q-in e) = later m (reached-from Js h m r) k k-in q q-in e

  -- the records needed outnumber the room exactly if more distinct seeds are reached
  pub more-seeds : WellFormed s → (room : ℕ) → (room < length (records_needed s xs)) ↔ MoreSeeds s xs room
  more-seeds wf room = (
    λ h. record {
      joints = considered s xs;
      looked-at = considered-is wf;
      found = records_needed s xs;
      distinct = records-distinct;
      reached = λ l. (records-are l).0;
      more = h;
    },
    λ t.
        let inside : (J : Joint) → J ∈ t.joints → J ∈ considered s xs = λ J h. (considered-is wf J).1 ((t.looked-at J).0 h) in
        let fewer = pigeon t.found (records_needed s xs) t.distinct (λ l h. (records-are l).1 (reached-from t.joints inside l (t.reached l h))) in
        omega (arith, t.more),
  )

  -- the seeds of the model that is written are among the records
  pub model-in-records : WellFormed s → (K : Joint) → first_fine s xs ≡ just K → (l : Label) → l ∈ model_seeds s K → l ∈ records_needed s xs
  unfolding model_seeds first_fine
  model-in-records wf K e =
      reach-all (λ l. l ∈ records_needed s xs) (λ l. seeds s (chosen s l)) (λ l l-in q i. facts.1 l l-in q (chosen-next s wf l q i))
      (bound s) 0 (include_all [] (each (seeds s) K))
      (include_all-all (λ l. l ∈ records_needed s xs) [] (each (seeds s) K) (λ l h. absurd (Memᴰ.not-nil h))
      (λ q h. grown-in s begun (records_needed s xs) facts.0 q
      (facts.2 q (each-intro (each (seeds s)) (considered s xs) (up_to_first-found (all (fine s)) (settled_joints s xs) K e) h))))
