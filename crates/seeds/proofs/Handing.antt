-- What goes along a role, and the seeds asked for: what the loops over lines keep. Assumes nothing.
use Rattle.std.specs.Prelude.{ℕ, ◌<◌, Bool, true, false, ◌&&◌, ◌||◌, ◌≡◌, refl, List, [], ◌∷◌, eqb, MatchOption}
use Rattle.std.proofs.Common.{true≢false, sym, ◌∙◌, ap, subst, ⊎_elim, arith}
use mathlib.Core.List.Memᴰ
use Rattle.std.specs.Prelude.{Option as Maybe, None as nothing, Some as just}
use Rattle.alc.specs.Lists.{◌∈◌, each}
use Rattle.alc.specs.declared.Line.{Line}
use Rattle.alc.specs.declared.Line.TheVariants.{Top as top, Bottom as bottom, Name as name, Not as negation, And as and, Or as or, Some as some, Only as only}
use Rattle.alc.specs.Sheet.{Sheet, count, line}
use Rattle.alc.specs.declared.Label.{Label}
use Rattle.alc.specs.declared.Mark.{Mark}
use Rattle.alc.specs.declared.Mark.TheVariants.{Holds as holds, Fails as fails}
use Rattle.alc.specs.Label.{blank, line_of, has, add_all, join, handed, pushed}
use Rattle.alc.specs.Seeds.{asks_of, asks, is_quantified}
use Rattle.alc.proofs.Theorems.Bits.{bit-ext}
use Rattle.alc.proofs.Theorems.Lists.{and-false-right, clashing, tests_same, or_cases, or_left, or_right, here}
use Rattle.alc.proofs.Theorems.Label.{has-blank, has_join}
use Rattle.alc.proofs.Theorems.Moves.{add_all-keeps, add_all-has, add_all-cases}
use Rattle.alc.proofs.Theorems.Steps.{handed-below}
use Rattle.plan.specs.declared.Plan.{Plan}
use Rattle.plan.specs.Prepared.{marked_lines}
use Rattle.plan.specs.Plan.{plan_sheet}
use Rattle.plan.proofs.Lines.{lines_fit, operands-smaller}
use Rattle.plan.proofs.Walking.{Each, each-rest, marked-below, marked-each}
use Rattle.seeds.specs.Asks.{handed_at, asks_at}

-- ---- adding marks
-- two labels with the same marks are one
label-ext : (l k : Label) → ((m : Mark) → has l m ≡ has k m) → l ≡ k
label-ext l k h =
    let p = bit-ext l.holding k.holding (λ i. h (holds i)) in
    let q = bit-ext l.failing k.failing (λ i. h (fails i)) in
    λ i. record { holding = p i; failing = q i }

-- adding marks is joining the label of these marks
pub add_all-join : (l : Label) (ms : List Mark) → join l (add_all blank ms) ≡ add_all l ms
add_all-join l ms =
    label-ext (join l (add_all blank ms)) (add_all l ms)
    (λ m. has_join l (add_all blank ms) m ∙ tests_same (has l m || has (add_all blank ms) m) (has (add_all l ms) m)
    (λ e. ⊎_elim
    (λ h. add_all-keeps l ms m h)
    (λ h. ⊎_elim (λ i. add_all-has l ms m i) (λ i. clashing (has blank m) i (has-blank m)) (add_all-cases blank ms m h))
    (or_cases (has l m) (has (add_all blank ms) m) e))
    (λ e. ⊎_elim
    (λ i. or_right (has l m) (has (add_all blank ms) m) (add_all-has blank ms m i))
    (λ h. or_left (has l m) (has (add_all blank ms) m) h)
    (add_all-cases l ms m e)))

-- ---- lines that have no mark, or are of another kind
unmarked : (h f : Bool) → ((h || f) && true) ≡ false → (h ≡ false) × (f ≡ false)
unmarked true f e = absurd (true≢false e)
unmarked false true e = absurd (true≢false e)
unmarked false false e = (refl, refl)

-- a line without a mark, or that is neither some nor only, hands on nothing and asks for nothing
silent : (s : Sheet) (l : Label) (r : ℕ) (h f : Bool) (c : Line) → ((h || f) && is_quantified c) ≡ false → (handed r h f c ≡ []) × (asks_of s l h f c ≡ [])
silent s l r h f top e = (refl, refl)
silent s l r h f bottom e = (refl, refl)
silent s l r h f (name a) e = (refl, refl)
silent s l r h f (negation i) e = (refl, refl)
silent s l r h f (and i j) e = (refl, refl)
silent s l r h f (or i j) e = (refl, refl)
silent s l r h f (some q i) e = rw ((unmarked h f e).0, (unmarked h f e).1, and-false-right (eqb q r) false refl) (refl, refl)
silent s l r h f (only q i) e = rw ((unmarked h f e).0, (unmarked h f e).1, and-false-right (eqb q r) false refl) (refl, refl)

module _ (s : Sheet) (l : Label) where
  -- so all that goes along a role, and all that is asked for, is that of the some and only lines with a mark
  pushed-marked : (r : ℕ) → each (handed_at s r l) (marked_lines is_quantified s l) ≡ pushed s r l
  unfolding pushed
  pushed-marked r = marked-each is_quantified s l (handed_at s r l) (λ i b e. (silent s l r (has l (holds i)) (has l (fails i)) (line s i) e).0)

  pub asks-marked : each (asks_at s l) (marked_lines is_quantified s l) ≡ asks s l
  unfolding asks
  asks-marked = marked-each is_quantified s l (asks_at s l) (λ i b e. (silent s l 0 (has l (holds i)) (has l (fails i)) (line s i) e).1)

-- ---- the loop over what goes along a role: what is handed on, with what is left to hand on, is the whole
pub record Handing (s : Sheet) (r : ℕ) (l : Label) (marks : Label) (left : List ℕ) : Type 0 where
  pub lines : Each (λ i. i < count s) left
  pub rest : add_all marks (each (handed_at s r l) left) ≡ add_all blank (pushed s r l)

pub handing : (s : Sheet) (r : ℕ) (l : Label) {left : List ℕ} → left ≡ marked_lines is_quantified s l → Handing s r l blank left
handing s r l e =
    subst (Handing s r l blank) (sym e)
    (record { lines = marked-below is_quantified s l; rest = ap (add_all blank) (pushed-marked s l r) })

-- what is handed on is of a line, of which there are 32 at most
pub handed-fits : (p : Plan) (r : ℕ) (l : Label) (i : ℕ) {m : Mark} → i < count (plan_sheet p) → m ∷ [] ≡ handed_at (plan_sheet p) r l i → line_of m < 32
handed-fits p r l i {m} b e =
    let s = plan_sheet p in
    let h = handed-below i (line s i) (operands-smaller s p.prepared.well i b) r (has l (holds i)) (has l (fails i)) m (subst (λ (ms : List Mark). m ∈ ms) e here) in
    omega (arith, lines_fit p)

-- ---- the walk over what is asked for
-- what holds of each line that is left holds of each that is left then
pub lines-next : {P : ℕ → Type 0} (o : Maybe ℕ) {left more : List ℕ} → MatchOption o ((left ≡ []) × (more ≡ [])) (λ i. left ≡ i ∷ more) → Each P left → Each P more
lines-next nothing e h = λ i m. absurd (Memᴰ.not-nil (subst (λ (xs : List ℕ). i ∈ xs) e.1 m))
lines-next (just i) e h = each-rest e h
