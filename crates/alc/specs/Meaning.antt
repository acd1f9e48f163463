-- Finite interpretations, what is true in them, and what a sheet asks of them: the usual semantics of ALC, over lines.
-- Document 01, "What the engine is given": "the domain is not empty. Here it is finite. Two individuals may be one element". Definitions only.
use Rattle.std.specs.Prelude.{ℕ, zero, suc, ◌<◌, Bool, true, false, not as flip, ◌&&◌, ◌||◌, ◌≡◌}
use Rattle.alc.specs.Lists.{any, all, up_to}
use Rattle.alc.specs.Sheet.{Line, top, bottom, name, negation, and, or, some, only, Rule, ClassAssertion, RoleAssertion, Sheet, line}

-- elements are the numbers below `size`, of which there is at least one
pub record Interpretation : Type 0 where
  pub size : ℕ
  pub inhabited : 0 < size
  -- element x is in name a
  pub in_name : ℕ → ℕ → Bool
  -- role r leads from x to y
  pub in_role : ℕ → ℕ → ℕ → Bool
  -- the element that individual a stands for
  pub denotes : ℕ → ℕ
  pub denoted : (a : ℕ) → denotes a < size

-- the truth of a line at the element x, where `v i y` is the truth of line i at y
abbrev pub value : Interpretation → (ℕ → ℕ → Bool) → Line → ℕ → Bool
value I v top x = true
value I v bottom x = false
value I v (name a) x = I.in_name a x
value I v (negation i) x = flip (v i x)
value I v (and i j) x = v i x && v j x
value I v (or i j) x = v i x || v j x
value I v (some r i) x = any (λ y. I.in_role r x y && v i y) (up_to I.size)
value I v (only r i) x = all (λ y. flip (I.in_role r x y) || v i y) (up_to I.size)

-- operands are smaller, so the truth of line i is found within i + 1 steps (`truth-law` is the equation without steps)
abbrev pub truth_to : Sheet → Interpretation → ℕ → ℕ → ℕ → Bool
truth_to s I zero i x = false
truth_to s I (suc f) i x = value I (truth_to s I f) (line s i) x

unfoldable pub truth : Sheet → Interpretation → ℕ → ℕ → Bool
truth s I i x = truth_to s I (suc i) i x

-- ---- what a sheet asks: c ⊑ d at every element, C(a) and R(a,b) at the individuals' elements
unfoldable pub meets_rules : Sheet → Interpretation → Bool
meets_rules s I = all (λ (r : Rule). all (λ x. flip (truth s I r.sub x) || truth s I r.sup x) (up_to I.size)) s.rules

unfoldable pub meets_classes : Sheet → Interpretation → Bool
meets_classes s I = all (λ (c : ClassAssertion). truth s I c.class (I.denotes c.individual)) s.classes

unfoldable pub meets_roles : Sheet → Interpretation → Bool
meets_roles s I = all (λ (e : RoleAssertion). I.in_role e.role (I.denotes e.source) (I.denotes e.target)) s.roles

abbrev pub meets : Sheet → Interpretation → Bool
meets s I = meets_rules s I && meets_classes s I && meets_roles s I

-- some finite interpretation meets every rule and assertion
abbrev pub SheetSatisfiable : Sheet → Type 0
SheetSatisfiable s = (I : Interpretation) × (meets s I ≡ true)

-- "forces the port into the class": every finite interpretation that meets all puts it there
abbrev pub Forces : Sheet → ℕ → ℕ → Type 0
Forces s port class = (I : Interpretation) → meets s I ≡ true → truth s I class (I.denotes port) ≡ true
