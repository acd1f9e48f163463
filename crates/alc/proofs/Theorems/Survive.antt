-- What survives the striking out is satisfiable, and what is satisfiable survives.
use Rattle.std.specs.Prelude.{ℕ, zero, suc, ◌≤◌, ◌<◌, true, ◌≡◌, refl}
use Rattle.std.proofs.Common.{sym, subst, ⊎_elim, arith}
use mathlib.Core.List.Memᴰ
use mathlib.Core.List.{List, [], ◌∷◌}
use Rattle.std.proofs.Math.ListN.{length}
use Rattle.alc.specs.Lists.{◌∈◌, nothing, Maybe, just, filter, first}
use Rattle.alc.specs.Sheet.{RoleAssertion, Sheet}
use Rattle.alc.specs.Label.{Label, ◌⊆◌}
use Rattle.alc.specs.Settle.{label, settle, Joint}
use Rattle.alc.specs.Seeds.{good, served, seeds, asks, survivors, strikes, Ask, SeedSatisfiable, strike, expansions, among}
use Rattle.alc.specs.Model.{or_blank}
use Rattle.alc.proofs.Theorems.Lists.{filter_same, filter-intro, clashing, missing, all-intro, found, all-elim, any-elim, any-intro, first-is}
use Rattle.alc.proofs.Theorems.Lists.{filter-elim, Found}
use Rattle.alc.proofs.Theorems.Sheet.{WellFormed}
use Rattle.alc.proofs.Theorems.Settle.{settle-finds}
use Rattle.alc.proofs.Theorems.Seeds.{seeds-in, among_in, among-true}
use Rattle.alc.proofs.Theorems.Witness.{asked-true}
use Rattle.alc.proofs.Theorems.Expand.{expand-keeps}
use Rattle.alc.proofs.Theorems.Family.{family-true, family, family-rules}

-- the first settled expansion whose seeds are all in A
unfoldable pub pick : Sheet → List Label → Label → Label
pick s A l = or_blank (first (served s A) (expansions s l))

-- ---- nothing more is struck out in the end
strikes-same : (s : Sheet) (n : ℕ) (A : List Label) → strike s A ≡ A → strikes s n A ≡ A
strikes-same s zero A e = refl
strikes-same s (suc n) A e = rw e (strikes-same s n A e)

empty : (A : List Label) → length A ≤ 0 → A ≡ []
empty [] h = refl
empty (x ∷ A) h = absurd (omega arith)

strikes-stable : (s : Sheet) (n : ℕ) (A : List Label) → length A ≤ n → strike s (strikes s n A) ≡ strikes s n A
strikes-stable s zero A h = rw (empty A h)
strikes-stable s (suc n) A h =
    ⊎_elim
    (λ e. rw (strikes-same s (suc n) A e) e)
    (λ l. strikes-stable s n (strike s A) (omega arith))
    (filter_same (good s A) A)

pub survivors-stable : (s : Sheet) (C : List Label) → strike s (survivors s C) ≡ survivors s C
unfolding survivors
survivors-stable s C = strikes-stable s (length C) C (omega arith)

no-fits : (K : Joint) (e : RoleAssertion) → e ∈ [] → (e.source < length K) × (e.target < length K)
no-fits K e h = absurd (Memᴰ.not-nil h)

pub survivors-good : (s : Sheet) (C : List Label) (l : Label) → l ∈ survivors s C → good s (survivors s C) l ≡ true
survivors-good s C l h =
    let i : l ∈ filter (good s (survivors s C)) (survivors s C) = subst (λ (B : List Label). l ∈ B) (sym (survivors-stable s C)) h in
    (filter-elim (good s (survivors s C)) (survivors s C) i).1

-- ---- survivors are satisfiable, in whatever order the others were struck out
module _ (s : Sheet) (A : List Label) (all-good : (l : Label) → l ∈ A → good s A l ≡ true) where
  pub pick_is : (l : Label) → l ∈ A → (pick s A l ∈ expansions s l) × (served s A (pick s A l) ≡ true)
  unfolding pick
  pick_is l h = go (first (served s A) (expansions s l)) (first-is (served s A) (expansions s l))
    where
      go : (o : Maybe Label) → Found (served s A) (expansions s l) o → (or_blank o ∈ expansions s l) × (served s A (or_blank o) ≡ true)
      go nothing (missing n) = let (k, i, e) = any-elim (served s A) (expansions s l) (all-good l h) in clashing (served s A k) e (n k i)
      go (just k) (found i e) = (i, e)

  pub served-in : (k : Label) → served s A k ≡ true → (q : Ask) → q ∈ asks s k → q.seed ∈ A
  served-in k e q h = among-true q.seed A (all-elim (λ q. among q A) (seeds s k) e q.seed (seeds-in s k q h))

  pub pick-closed : (l : Label) → l ∈ A → (q : Ask) → q ∈ asks s (pick s A l) → q.seed ∈ A
  pick-closed l h q i = served-in (pick s A l) (pick_is l h).1 q i

  pub survivor-satisfiable : WellFormed s → (l : Label) → l ∈ A → SeedSatisfiable s l
  unfolding expansions
  survivor-satisfiable wf l h =
      let (K, K-in, e) = Memᴰ.of_map (λ K. label K 0) (settle s [] (l ∷ [])) (pick_is l h).0 in
      let (done, ext) = settle-finds s [] (l ∷ []) K K-in in
      let start : (a : ℕ) → a < length K → (q : Ask) → q ∈ asks s (label K a) → q.seed ∈ A = λ a b q i.
      let a0 : a ≡ 0 = omega (arith, ext.size) in
      pick-closed l h q (rw (a0, e) at i) in
      let more : l ⊆ label K 0 = ext.more 0 in
      let here : 0 < length K = omega (arith, ext.size) in
      record {
        interpretation = family s wf [] K here done (no-fits K) A (pick s A) (λ k i. (pick_is k i).0) pick-closed start;
        meets = family-rules s wf [] K here done (no-fits K) A (pick s A) (λ k i. (pick_is k i).0) pick-closed start;
        element = 0;
        inside = omega arith;
        true-there = λ m b i. family-true s wf [] K here done (no-fits K) A (pick s A) (λ k i. (pick_is k i).0) pick-closed start 0 here m b (more m i);
      }

-- ---- and what is satisfiable survives
-- C has the seeds of every expansion of every seed in it
abbrev pub Closed : Sheet → List Label → Type 0
Closed s C = (l : Label) → l ∈ C → (k : Label) → k ∈ expansions s l → (q : Ask) → q ∈ asks s k → q.seed ∈ C

module _ (s : Sheet) (wf : WellFormed s) (C : List Label) (closed : Closed s C) where
  pub strike-keeps : (A : List Label) → ((l : Label) → l ∈ C → SeedSatisfiable s l → l ∈ A) → (l : Label) → l ∈ C → SeedSatisfiable s l → l ∈ strike s A
  strike-keeps A h l i sat =
      let I = sat.interpretation in
      let (k, k-in, t) = expand-keeps s wf I sat.meets l sat.element sat.inside sat.true-there in
      let ok : served s A k ≡ true = all-intro (λ q. among q A) (seeds s k) (λ τ τ-in.
      let (q, q-in, e) = Memᴰ.of_map (λ (q : Ask). q.seed) (asks s k) τ-in in
      let (y, y<, u) = asked-true s wf I k sat.element t q q-in in
      let sat' : SeedSatisfiable s q.seed = record { interpretation = I; meets = sat.meets; element = y; inside = y<; true-there = u } in
      rw (← e) (among_in q.seed A (h q.seed (closed l i k k-in q q-in) sat'))) in
      filter-intro (good s A) A (h l i sat) (any-intro (served s A) (expansions s l) k-in ok)

  strikes-keep : (n : ℕ) (A : List Label) → ((l : Label) → l ∈ C → SeedSatisfiable s l → l ∈ A) → (l : Label) → l ∈ C → SeedSatisfiable s l → l ∈ strikes s n A
  strikes-keep zero A h l i sat = h l i sat
  strikes-keep (suc n) A h l i sat = strikes-keep n (strike s A) (strike-keeps A h) l i sat

  pub satisfiable-survives : (l : Label) → l ∈ C → SeedSatisfiable s l → l ∈ survivors s C
  unfolding survivors
  satisfiable-survives l i sat = strikes-keep (length C) C (λ k m _. m) l i sat
