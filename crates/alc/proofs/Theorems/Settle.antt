-- What the search for settled labels finds, and that its bound does not matter.
use Rattle.std.specs.Prelude.{ℕ, zero, suc, ◌*◌, ◌≤◌, ◌<◌, Bool, true, false, ◌≡◌, refl, List, [], ◌∷◌, ◌++◌, ltb}
use Rattle.std.proofs.Common.{sym, ◌∙◌, ap₂, subst, ⊎_elim, length-set, ltb-true, ltb-false, arith}
use mathlib.Core.List.Memᴰ
use Rattle.std.proofs.Math.ListN.{length}
use Rattle.std.proofs.Math.Seq.{set_out}
use Rattle.std.proofs.lemmas.Bool.{not-true}
use Rattle.alc.specs.Lists.{◌∈◌, up_to}
use Rattle.alc.specs.Sheet.{RoleAssertion, line, Sheet, count}
use Rattle.alc.specs.Label.{Demand, every, either, met, holds, pushed, Mark, has, fails, add_all, handed, demand, ◌⊆◌}
use Rattle.alc.specs.Settle.{follow, Move, meet, push, who, own, rule, adds, label, settle, next, settle_within, Joint, wanted, mark_at}
use Rattle.alc.proofs.Theorems.Lists.{cases, each-elim, all-fails, same?, here, or-false-right, or-false-left, up_to-elim}
use Rattle.alc.proofs.Theorems.Sheet.{WellFormed}
use Rattle.alc.proofs.Theorems.Meaning.{operands}
use Rattle.alc.proofs.Theorems.Moves.{label-mark, Listed, add_all-keeps, label-mark-other}
use Rattle.alc.proofs.Theorems.Steps.{unset_all-bound, handed-below, holds-below, none_below, mark-less, fails-below, is-step, unset_all, view, is-settled}
use Rattle.alc.proofs.Theorems.Steps.{DemandBelow, below-mono, is-clashed, Settled}

-- the role assertions name individuals that the joint label has
abbrev pub Fits : List RoleAssertion → ℕ → Type 0
Fits es k = (e : RoleAssertion) → e ∈ es → e.target < k

if-has-below : (n : ℕ) (b : Bool) (d : Demand) → DemandBelow n d → DemandBelow n (elim b [ true ↦ d | false ↦ every [] ])
if-has-below n true d h = h
if-has-below n false d h = none_below n

-- the next joint labels are smaller
abbrev pub Less : ℕ → Joint → ℕ → Demand → Type 0
Less n J a (every ms) = unset_all n (mark_at J a ms) < unset_all n J
Less n J a (either x y) = (unset_all n (mark_at J a (x ∷ [])) < unset_all n J) × (unset_all n (mark_at J a (y ∷ [])) < unset_all n J)

pub meet-less : (n : ℕ) (J : Joint) (a : ℕ) (d : Demand) → a < length J → DemandBelow n d → met (label J a) d ≡ false → Less n J a d
meet-less n J a (every ms) h b e = let (m, i, q) = all-fails (has (label J a)) ms e in mark-less n J a ms m h i (b m i) q
meet-less n J a (either x y) h b e = (
  mark-less n J a (x ∷ []) x h here b.0 (or-false-left _ (has (label J a) y) e),
  mark-less n J a (y ∷ []) y h here b.1 (or-false-right (has (label J a) x) _ e),
)

module _ (s : Sheet) (wf : WellFormed s) (es : List RoleAssertion) where
  pub wanted-below : (J : Joint) (k : ℕ) (m : Move) → Listed s es k m → DemandBelow (count s) (wanted s J m)
  unfolding pushed
  wanted-below J k (own a (holds i)) h =
      if-has-below (count s) (has (label J a) (holds i)) (demand s (holds i))
      (below-mono i (count s) (demand s (holds i)) (omega (arith, h.1)) (holds-below i (line s i) (operands s wf i)))
  wanted-below J k (own a (fails i)) h =
      if-has-below (count s) (has (label J a) (fails i)) (demand s (fails i))
      (below-mono i (count s) (demand s (fails i)) (omega (arith, h.1)) (fails-below i (line s i) (operands s wf i)))
  wanted-below J k (rule a r) h = wf.rules r h.1
  wanted-below J k (push e) h = λ m q.
      let l = label J e.source in
      let (i, i-in, g) = each-elim (λ i. handed e.role (has l (holds i)) (has l (fails i)) (line s i)) (up_to (count s)) q in
      omega (arith, up_to-elim (count s) i i-in, handed-below i (line s i) (operands s wf i) e.role (has l (holds i)) (has l (fails i)) m g)

  pub who-below : (k : ℕ) → Fits es k → (m : Move) → Listed s es k m → who m < k
  who-below k f (own a m) h = h.0
  who-below k f (rule a r) h = h.0
  who-below k f (push e) h = f e h

  pub step_less : (J : Joint) → Fits es (length J) → (m : Move) → Listed s es (length J) m → adds s J m ≡ true → Less (count s) J (who m) (wanted s J m)
  step_less J f m h e = meet-less (count s) J (who m) (wanted s J m) (who-below (length J) f m h) (wanted-below J (length J) m h) (not-true _ e)

  -- ---- the bound does not matter, so long as it is above the number of marks unset
  module _ (k : ℕ) (fits : Fits es k) where
    follow-same : (F G : Joint → List Joint) (J : Joint) (a : ℕ) (d : Demand) → length J ≡ k → Less (count s) J a d
        → ((K : Joint) → length K ≡ k → unset_all (count s) K < unset_all (count s) J → F K ≡ G K)
        → follow F J (meet J a d) ≡ follow G J (meet J a d)
    follow-same F G J a (every ms) len less h = h (mark_at J a ms) (length-set J a _ ∙ len) less
    follow-same F G J a (either x y) len less h =
        ap₂ ◌++◌ (h (mark_at J a (x ∷ [])) (length-set J a _ ∙ len) less.0) (h (mark_at J a (y ∷ [])) (length-set J a _ ∙ len) less.1)

    next-same : (F G : Joint → List Joint) (J : Joint) → length J ≡ k
        → ((K : Joint) → length K ≡ k → unset_all (count s) K < unset_all (count s) J → F K ≡ G K)
        → follow F J (next s es J) ≡ follow G J (next s es J)
    next-same F G J len h =
        elim (view s es J) [
          | is-clashed c e ↦ rw e
          | is-settled c e ↦ rw e
          | is-step m i a e ↦ rw e (follow-same F G J (who m) (wanted s J m) len (step_less J (subst (Fits es) (sym len) fits) m i a) h)
        ]

    pub within_same : (f g : ℕ) (J : Joint) → length J ≡ k → unset_all (count s) J < f → unset_all (count s) J < g → settle_within s es f J ≡ settle_within s es g J
    within_same zero g J len p q = absurd (omega arith)
    within_same (suc f) zero J len p q = absurd (omega arith)
    within_same (suc f) (suc g) J len p q = next-same (settle_within s es f) (settle_within s es g) J len
        (λ K l less. within_same f g K l (omega arith) (omega arith))

    -- settling, step by step
    pub settle-law : (J : Joint) → length J ≡ k → settle s es J ≡ follow (settle s es) J (next s es J)
    unfolding settle
    settle-law J len =
        next-same (settle_within s es (2 * count s * length J)) (settle s es) J len
        (λ K l less. within_same (2 * count s * length J) (suc (2 * count s * length K)) K l
        (omega (arith, unset_all-bound (count s) J)) (omega (arith, unset_all-bound (count s) K)))

    -- and nothing else settles so
    pub settle-unique : (F : Joint → List Joint) → ((J : Joint) → length J ≡ k → F J ≡ follow F J (next s es J)) → (J : Joint) → length J ≡ k
        → F J ≡ settle s es J
    settle-unique F law J len = below (suc (unset_all (count s) J)) J len (omega arith)
      where
        below : (n : ℕ) (J : Joint) → length J ≡ k → unset_all (count s) J < n → F J ≡ settle s es J
        below zero J len h = absurd (omega arith)
        below (suc n) J len h = law J len ∙ next-same F (settle s es) J len (λ K l less. below n K l (omega arith)) ∙ sym (settle-law J len)

-- ---- what is found is settled, and has the marks that it started with
-- K has as many labels as J, and all marks of J
pub record Extends (J K : Joint) : Type 0 where
  pub size : length K ≡ length J
  pub more : (a : ℕ) → label J a ⊆ label K a

pub mark-extends : (J : Joint) (a : ℕ) (ms : List Mark) → Extends J (mark_at J a ms)
mark-extends J a ms = record { size = length-set J a _; more = more }
  where
    inside : (b : ℕ) → b ≡ a → a < length J → label J b ⊆ label (mark_at J a ms) b
    inside b q h = λ m e. rw (q, label-mark J a ms h) (add_all-keeps (label J a) ms m (rw q at e))

    outside : length J ≤ a → (b : ℕ) → label J b ⊆ label (mark_at J a ms) b
    outside h b = λ m e. rw (set_out J a (add_all (label J a) ms) h) e

    more : (b : ℕ) → label J b ⊆ label (mark_at J a ms) b
    more b =
        ⊎_elim
        (λ q. ⊎_elim (λ t. inside b q (ltb-true a (length J) t)) (λ t. outside (ltb-false a (length J) t) b) (cases (ltb a (length J))))
        (λ q m e. rw (label-mark-other J a b ms q) e)
        (same? b a)

pub extends-trans : (J K L : Joint) → Extends J K → Extends K L → Extends J L
extends-trans J K L p q = record { size = q.size ∙ p.size; more = λ a m e. q.more a m (p.more a m e) }

module _ (s : Sheet) (es : List RoleAssertion) where
  found_from : (f : ℕ) (J : Joint) (a : ℕ) (d : Demand) (K : Joint)
      → ((L : Joint) → K ∈ settle_within s es f L → Settled s es K × Extends L K)
      → K ∈ follow (settle_within s es f) J (meet J a d) → Settled s es K × Extends J K
  found_from f J a (every ms) K ih h = let (p, q) = ih (mark_at J a ms) h in (p, extends-trans J (mark_at J a ms) K (mark-extends J a ms) q)
  found_from f J a (either x y) K ih h =
      ⊎_elim
      (λ g. let (p, q) = ih (mark_at J a (x ∷ [])) g in (p, extends-trans J (mark_at J a (x ∷ [])) K (mark-extends J a (x ∷ [])) q))
      (λ g. let (p, q) = ih (mark_at J a (y ∷ [])) g in (p, extends-trans J (mark_at J a (y ∷ [])) K (mark-extends J a (y ∷ [])) q))
      (Memᴰ.append_cases (settle_within s es f (mark_at J a (x ∷ []))) h)

  pub within-finds : (f : ℕ) (J K : Joint) → K ∈ settle_within s es f J → Settled s es K × Extends J K
  within-finds zero J K h = absurd (Memᴰ.not-nil h)
  within-finds (suc f) J K h =
      elim (view s es J) [
        | is-clashed c e ↦ absurd (Memᴰ.not-nil (rw e at h))
        | is-settled c e ↦
            let q : K ≡ J = Memᴰ.eq_of_singleton (rw e at h) in
            rw q (c, record { size = refl; more = λ a m t. t })
        | is-step m i a e ↦ found_from f J (who m) (wanted s J m) K (λ L g. within-finds f L K g) (rw e at h)
      ]

  pub settle-finds : (J K : Joint) → K ∈ settle s es J → Settled s es K × Extends J K
  unfolding settle
  settle-finds J K h = within-finds (suc (2 * count s * length J)) J K h
