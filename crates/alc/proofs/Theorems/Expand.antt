-- The settled expansions of a seed: each is settled and has the seed's marks, and one is true wherever the seed is.
use Prim.Native.Nat.{ℕ, zero, suc, ◌<◌}
use Rattle.std.specs.Prelude.{Bool, true, false, ◌≡◌, length}
use Rattle.std.proofs.lemmas.Bool.{false≢true, not-false}
use Rattle.std.proofs.Math.Path.{refl, subst}
use mathlib.Core.List.Memᴰ
use mathlib.Core.List.{List, [], ◌∷◌}
use Rattle.std.proofs.Common.{arith}
use Rattle.alc.specs.Lists.{◌∈◌}
use Rattle.alc.specs.Sheet.{count, RoleAssertion, Sheet}
use Rattle.alc.specs.Meaning.{meets_rules, Interpretation}
use Rattle.alc.specs.Label.{TrueAt, line_of, every, blank, met, ◌⊆◌, demand, Label, clashes, pushed, Mark, has}
use Rattle.alc.specs.Settle.{push, label, settle, own, Joint, rule}
use Rattle.alc.specs.Seeds.{expansions}
use Rattle.alc.proofs.Theorems.Lists.{clashing, all-elim, any_none}
use Rattle.alc.proofs.Theorems.Sheet.{WellFormed}
use Rattle.alc.proofs.Theorems.Label.{has-blank}
use Rattle.alc.proofs.Theorems.Moves.{label-in}
use Rattle.alc.proofs.Theorems.Steps.{Settled}
use Rattle.alc.proofs.Theorems.Settle.{settle-finds, Fits}
use Rattle.alc.proofs.Theorems.Keeps.{AllTrue, settle-keeps}
use Rattle.alc.proofs.Theorems.Models.{Quiet}

-- ---- a settled joint label
module _ (s : Sheet) (es : List RoleAssertion) (K : Joint) (done : Settled s es K) where
  pub settled-quiet : (a : ℕ) → a < length K → Quiet s (label K a)
  settled-quiet a h = record {
    clear = any_none (clashes s) K done.clear (label K a) (label-in K a h);
    marks = λ m b e. go m b (has (label K a) m) e (not-false _ (done.done (own a m) (h, b)));
    rules = λ r i. not-false _ (done.done (rule a r) (h, i));
  }
    where
      go : (m : Mark) → line_of m < count s → (b : Bool) → b ≡ true → met (label K a) (elim b [ true ↦ demand s m | false ↦ every [] ]) ≡ true
          → met (label K a) (demand s m) ≡ true
      go m i true e q = q
      go m i false e q = absurd (false≢true e)

  pub settled-pushed : (e : RoleAssertion) → e ∈ es → (m : Mark) → m ∈ pushed s e.role (label K e.source) → has (label K e.target) m ≡ true
  settled-pushed e h m i = all-elim (has (label K e.target)) (pushed s e.role (label K e.source)) (not-false _ (done.done (push e) h)) m i

no_edges : (k : ℕ) → Fits [] k
no_edges k e h = absurd (Memᴰ.not-nil h)

module _ (s : Sheet) where
  pub expand-finds : (l k : Label) → k ∈ expansions s l → Quiet s k × (l ⊆ k)
  unfolding expansions
  expand-finds l k h =
      let (K, i, q) = Memᴰ.of_map (λ K. label K 0) (settle s [] (l ∷ [])) h in
      let (done, ext) = settle-finds s [] (l ∷ []) K i in
      subst (λ (x : Label). Quiet s x × (l ⊆ x)) q (settled-quiet s [] K done 0 (omega (arith, ext.size)), ext.more 0)

  -- Theorem A for seeds
  pub expand-keeps : WellFormed s → (I : Interpretation) → meets_rules s I ≡ true → (l : Label) (x : ℕ) → x < I.size → TrueAt s I l x
      → (k : Label) × (k ∈ expansions s l) × TrueAt s I k x
  unfolding expansions
  expand-keeps wf I mr l x h t =
      let (K, i, u) = settle-keeps s wf I mr [] (λ _. x) (λ _. h) (λ e m. absurd (Memᴰ.not-nil m)) 1 (no_edges 1) (l ∷ []) refl start in
      (label K 0, Memᴰ.map (λ K. label K 0) i, u 0)
    where
      start : AllTrue s I (λ _. x) (l ∷ [])
      start zero = t
      start (suc a) = λ m b e. clashing (has blank m) e (has-blank m)
