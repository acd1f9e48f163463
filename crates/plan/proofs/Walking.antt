-- The marked lines that pass a test: that each is a line; that f of each of them is f of each line; and that a machine word lists them.
use Rattle.std.specs.Prelude.{ℕ, zero, suc, ◌+◌, ◌≤◌, ◌<◌, Bool, false, ◌&&◌, ◌||◌, ◌≡◌, refl, List, [], ◌∷◌}
use Rattle.std.proofs.Common.{sym, ◌∙◌, ap, ap₂, subst, ⊎_elim, arith}
use Rattle.std.specs.Int.Bits.{bit_or, bit_and}
use Rattle.std.proofs.Math.ListN.{get_or-eq_default}
use Rattle.alc.specs.Bits.{bit, members}
use Rattle.alc.specs.Lists.{◌∈◌, filter, each, from, up_to}
use Rattle.alc.specs.declared.Line.{Line}
use Rattle.alc.specs.declared.Line.TheVariants.{Top as top}
use Rattle.alc.specs.Sheet.{Sheet, count, line}
use Rattle.alc.specs.declared.Label.{Label}
use Rattle.alc.specs.declared.Mark.TheVariants.{Holds as holds, Fails as fails}
use Rattle.alc.specs.Label.{has}
use Rattle.alc.proofs.Theorems.Bits.{bit-or, bit-and}
use Rattle.alc.proofs.Theorems.Lists.{filter-step, filter-elim, up_to-elim, here, there, cases, clashing, and_right}
use Rattle.alc.proofs.Theorems.Members.{each-filter}
use Rattle.plan.specs.Prepared.{marked_lines}

-- ---- lists of lines, as a loop over the members of a set sees them: what holds of each of the members that are left holds of the next, and of those behind it
abbrev pub Each : (ℕ → Type 0) → List ℕ → Type 0
Each P is = (i : ℕ) → i ∈ is → P i

pub each-next : {P : ℕ → Type 0} {i : ℕ} {is js : List ℕ} → is ≡ i ∷ js → Each P is → P i
each-next {P} {i} e h = h i (subst (λ (xs : List ℕ). i ∈ xs) (sym e) here)

pub each-rest : {P : ℕ → Type 0} {i : ℕ} {is js : List ℕ} → is ≡ i ∷ js → Each P is → Each P js
each-rest {P} {i} e h j m = h j (subst (λ (xs : List ℕ). j ∈ xs) (sym e) (there m))

module _ (test : Line → Bool) (s : Sheet) (l : Label) where
  abbrev pub is_marked : ℕ → Bool
  is_marked i = (has l (holds i) || has l (fails i)) && test (line s i)

  -- each is a line
  pub marked-below : Each (λ i. i < count s) (marked_lines test s l)
  unfolding marked_lines
  marked-below i m = up_to-elim (count s) i (filter-elim is_marked (up_to (count s)) m).0

  -- f of each line is f of each of these, where f of any other line is nothing
  pub marked-each : {B : Type 0} (f : ℕ → List B) → ((i : ℕ) → i < count s → is_marked i ≡ false → f i ≡ []) → each f (marked_lines test s l) ≡ each f (up_to (count s))
  unfolding marked_lines
  marked-each f h = each-filter f is_marked (up_to (count s)) (λ i m e. h i (up_to-elim (count s) i m) e)

-- ---- the word whose members these are
-- a range may be as long as it likes behind the last that passes
filter_none : (p : ℕ → Bool) (a k : ℕ) → ((j : ℕ) → a ≤ j → p j ≡ false) → filter p (from a k) ≡ []
filter_none p a zero h = refl
filter_none p a (suc k) h =
    ⊎_elim (λ s. clashing (p a) s.0 (h a (omega arith))) (λ s. s.1 ∙ filter_none p (suc a) k (λ j b. h j (omega arith))) (filter-step p a (from (suc a) k))

filter-short : (p q : ℕ → Bool) (a k n : ℕ) → k ≤ n → ((j : ℕ) → p j ≡ q j) → ((j : ℕ) → a + k ≤ j → p j ≡ false) → filter p (from a n) ≡ filter q (from a k)
filter-short p q a zero n b same h = filter_none p a n (λ j c. h j (omega arith))
filter-short p q a (suc k) zero b same h = absurd (omega arith)
filter-short p q a (suc k) (suc n) b same h =
    let rest = filter-short p q (suc a) k n (omega arith) same (λ j c. h j (omega arith)) in
    ⊎_elim
    (λ s. ⊎_elim (λ t. s.1 ∙ ap {B = List ℕ} (λ r. a ∷ r) rest ∙ sym t.1) (λ t. clashing (p a) s.0 (same a ∙ t.0)) (filter-step q a (from (suc a) k)))
    (λ s. ⊎_elim (λ t. clashing (q a) t.0 (sym (same a) ∙ s.0)) (λ t. s.1 ∙ rest ∙ sym t.1) (filter-step q a (from (suc a) k)))
    (filter-step p a (from (suc a) n))

pub marked-word : (test : Line → Bool) (s : Sheet) (l : Label) (w : ℕ) → count s ≤ 32 → test top ≡ false → ((i : ℕ) → bit w i ≡ test (line s i))
    → members 32 (bit_and (bit_or l.holding l.failing) w) ≡ marked_lines test s l
unfolding members marked_lines
marked-word test s l w fits none is =
    let same : (i : ℕ) → bit (bit_and (bit_or l.holding l.failing) w) i ≡ is_marked test s l i =
    λ i. bit-and (bit_or l.holding l.failing) w i ∙ ap₂ ◌&&◌ (bit-or l.holding l.failing i) (is i) in
    filter-short (bit (bit_and (bit_or l.holding l.failing) w)) (is_marked test s l) 0 (count s) 32 fits same
    (λ j b. same j ∙ ⊎_elim
    (λ e. clashing (test (line s j)) (and_right (has l (holds j) || has l (fails j)) (test (line s j)) e) (ap test (get_or-eq_default s.lines top (omega arith)) ∙ none))
    (λ e. e)
    (cases (is_marked test s l j)))
