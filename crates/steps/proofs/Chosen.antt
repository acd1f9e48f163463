-- The choice of the next step: what the loops over lines and rules keep. Assumes nothing.
use Rattle.std.specs.Prelude.{ℕ, ◌<◌, Bool, true, false, ◌&&◌, ◌||◌, ◌≡◌, refl, List, [], ◌∷◌, ◌++◌}
use Rattle.std.proofs.Common.{sym, subst, ⊎_elim}
use Rattle.std.specs.Prelude.{Option as Maybe, None as nothing, Some as just}
use Rattle.alc.specs.Lists.{first, filter, each, up_to}
use Rattle.alc.specs.Sheet.{Sheet, count, line}
use Rattle.alc.specs.declared.Label.{Label}
use Rattle.alc.specs.declared.Mark.TheVariants.{Holds as holds, Fails as fails}
use Rattle.alc.specs.Label.{has, Demand, every, when_holds, when_fails}
use Rattle.alc.proofs.Theorems.Lists.{filter-step, cases}
use Rattle.plan.specs.Prepared.{is_working, marked_lines}
use Rattle.steps.specs.Choice.{unmet, demands_at, line_demands}
use Rattle.plan.proofs.Lines.{no-demand}
use Rattle.plan.proofs.Walking.{Each, is_marked, marked-below}

-- ---- the first that passes
module _ {A : Type 0} where
  abbrev pub or_else : Maybe A → Maybe A → Maybe A
  or_else nothing n = n
  or_else (just x) n = just x

  -- of two lists
  pub first-append : (p : A → Bool) (xs ys : List A) → first p (xs ++ ys) ≡ or_else (first p xs) (first p ys)
  first-append p [] ys = refl
  first-append p (x ∷ xs) ys = ⊎_elim (λ (e : p x ≡ true). rw (e, first)) (λ (e : p x ≡ false). rw (e, first) (first-append p xs ys)) (cases (p x))

module _ {A B : Type 0} where
  -- those that offer none may be left out
  first-each : (p : B → Bool) (f : A → List B) (q : A → Bool) (xs : List A) → ((x : A) → q x ≡ false → first p (f x) ≡ nothing)
      → first p (each f (filter q xs)) ≡ first p (each f xs)
  first-each p f q [] h = refl
  first-each p f q (x ∷ xs) h =
      let rest = first-each p f q xs h in
      ⊎_elim
      (λ s. rw (s.1, first-append p (f x) (each f (filter q xs)), first-append p (f x) (each f xs), rest))
      (λ s. rw (s.1, first-append p (f x) (each f xs), h x s.0) rest)
      (filter-step q x xs)

-- ---- the lines that a label marks
-- a mark that is not there, or of a line that is neither not, and nor or, wants nothing that is not met
idle-by : (l : Label) (h f k : Bool) (d e : Demand) → ((h || f) && k) ≡ false → (k ≡ false → (d ≡ every []) × (e ≡ every []))
    → first (unmet l) ((elim h as (λ _. Demand) [ true ↦ d | false ↦ every [] ]) ∷ (elim f as (λ _. Demand) [ true ↦ e | false ↦ every [] ]) ∷ []) ≡ nothing
idle-by l false false k d e q idle = refl
idle-by l true false k d e q idle = rw (idle q).0
idle-by l true true k d e q idle = rw ((idle q).0, (idle q).1)
idle-by l false true k d e q idle = rw (idle q).1

idle : (s : Sheet) (l : Label) (i : ℕ) → is_marked is_working s l i ≡ false → first (unmet l) (demands_at s l i) ≡ nothing
idle s l i e = idle-by l (has l (holds i)) (has l (fails i)) (is_working (line s i)) (when_holds (line s i)) (when_fails (line s i)) e (no-demand (line s i))

-- what is left to look at: the demands of these lines, which offer the choice that all lines offer
pub record Looking (s : Sheet) (l : Label) (left : List ℕ) : Type 0 where
  pub lines : Each (λ i. i < count s) left
  pub rest : first (unmet l) (each (demands_at s l) left) ≡ first (unmet l) (line_demands s l)

pub looking : {s : Sheet} {l : Label} {left : List ℕ} → left ≡ marked_lines is_working s l → Looking s l left
unfolding marked_lines
looking {s} {l} e =
    subst (Looking s l) (sym e)
    (record {
      lines = marked-below is_working s l;
      rest = first-each (unmet l) (demands_at s l) (is_marked is_working s l) (up_to (count s)) (idle s l);
    })
