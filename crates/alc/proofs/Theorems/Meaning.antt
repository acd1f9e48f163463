-- The laws of truth: a line's truth by its operands', rules and assertions one by one, and which interpretations cannot be told apart.
use Rattle.std.specs.Prelude.{ℕ, zero, suc, ◌<◌, Bool, true, ◌||◌, ◌≡◌, refl, get_or, ltb}
use Rattle.std.proofs.Math.Bool.{not as flip, ◌&&◌}
use Rattle.std.proofs.Common.{◌∙◌, ap, ⊎_elim, ltb-true, ltb-false, arith}
use Rattle.std.proofs.Math.Path.{ap₂, fun_ext}
use Rattle.std.proofs.Math.ListN.{get_or-eq_default}
use Rattle.alc.specs.Lists.{all, ◌∈◌, up_to, any}
use Rattle.alc.specs.Sheet.{some, count, top, Line, ClassAssertion, Rule, or, RoleAssertion, bottom, negation, only, name, and, line, operands_below, Sheet}
use Rattle.alc.specs.Sheet.{name_count, role_count, line_in_limits, in_limits}
use Rattle.alc.specs.Meaning.{truth, meets, meets_roles, meets_classes, meets_rules, Interpretation, value, truth_to}
use Rattle.alc.proofs.Theorems.Lists.{and_right, cases, all-intro, all-elim, up_to-intro, and_left, up_to-elim, any-cong, all-cong, get_or-in}
use Rattle.alc.proofs.Theorems.Sheet.{WellFormed, lines-limited, roles-limited}

value-cong : (I : Interpretation) (v w : ℕ → ℕ → Bool) (n : ℕ) (c : Line) (x : ℕ) → operands_below n c ≡ true → ((j : ℕ) → j < n → v j ≡ w j)
    → value I v c x ≡ value I w c x
value-cong I v w n top x e h = refl
value-cong I v w n bottom x e h = refl
value-cong I v w n (name a) x e h = refl
value-cong I v w n (negation i) x e h = ap (λ (u : ℕ → Bool). flip (u x)) (h i (ltb-true i n e))
value-cong I v w n (and i j) x e h =
    ap (λ (u : ℕ → Bool). u x && v j x) (h i (ltb-true i n (and_left (ltb i n) (ltb j n) e)))
    ∙ ap (λ (u : ℕ → Bool). w i x && u x) (h j (ltb-true j n (and_right (ltb i n) (ltb j n) e)))
value-cong I v w n (or i j) x e h =
    ap (λ (u : ℕ → Bool). u x || v j x) (h i (ltb-true i n (and_left (ltb i n) (ltb j n) e)))
    ∙ ap (λ (u : ℕ → Bool). w i x || u x) (h j (ltb-true j n (and_right (ltb i n) (ltb j n) e)))
value-cong I v w n (some r i) x e h = ap (λ (u : ℕ → Bool). any (λ y. I.in_role r x y && u y) (up_to I.size)) (h i (ltb-true i n e))
value-cong I v w n (only r i) x e h = ap (λ (u : ℕ → Bool). all (λ y. flip (I.in_role r x y) || u y) (up_to I.size)) (h i (ltb-true i n e))

-- a test that every line passes is passed behind the last line too, where `line` says top
line-all : (s : Sheet) (p : Line → Bool) → p top ≡ true → (i : ℕ) → (i < count s → p (line s i) ≡ true) → p (line s i) ≡ true
line-all s p e i h =
    ⊎_elim
    (λ b. h (ltb-true i (count s) b))
    (λ b. rw (get_or-eq_default s.lines top (ltb-false i (count s) b)) e)
    (cases (ltb i (count s)))

module _ (s : Sheet) (wf : WellFormed s) where
  pub operands : (i : ℕ) → operands_below i (line s i) ≡ true
  operands i = line-all s (operands_below i) refl i (wf.operands i)

  truth_to-same : (I : Interpretation) (f g i : ℕ) → i < f → i < g → truth_to s I f i ≡ truth_to s I g i
  truth_to-same I zero g i p q = absurd (omega arith)
  truth_to-same I (suc f) zero i p q = absurd (omega arith)
  truth_to-same I (suc f) (suc g) i p q =
      fun_ext (λ x. value-cong I (truth_to s I f) (truth_to s I g) i (line s i) x (operands i) (λ j h. truth_to-same I f g j (omega arith) (omega arith)))

  -- a line's truth is its value by its operands' truth
  pub truth-law : (I : Interpretation) (i x : ℕ) → truth s I i x ≡ value I (truth s I) (line s i) x
  unfolding truth
  truth-law I i x = value-cong I (truth_to s I i) (λ j. truth_to s I (suc j) j) i (line s i) x (operands i) (λ j h. truth_to-same I i (suc j) j h (omega arith))

-- sheets with the same lines have the same truth
pub truth-lines : (s t : Sheet) → s.lines ≡ t.lines → (I : Interpretation) → truth s I ≡ truth t I
unfolding truth
truth-lines s t e I = λ k i x. to (suc i) k i x
  where
    to : (f : ℕ) → truth_to s I f ≡ truth_to t I f
    to zero = refl
    to (suc f) = λ k i x. value I (to f k) (get_or (e k) i top) x

module _ (s : Sheet) (I : Interpretation) where
  -- the rules, element by element
  pub rules-elim : meets_rules s I ≡ true → (r : Rule) → r ∈ s.rules → (x : ℕ) → x < I.size → (flip (truth s I r.sub x) || truth s I r.sup x) ≡ true
  unfolding meets_rules
  rules-elim e r m x h = all-elim _ (up_to I.size) (all-elim _ s.rules e r m) x (up_to-intro I.size x h)

  pub rules-intro : ((r : Rule) → r ∈ s.rules → (x : ℕ) → x < I.size → (flip (truth s I r.sub x) || truth s I r.sup x) ≡ true) → meets_rules s I ≡ true
  unfolding meets_rules
  rules-intro h = all-intro _ s.rules (λ r m. all-intro _ (up_to I.size) (λ x k. h r m x (up_to-elim I.size x k)))

  pub classes-elim : meets_classes s I ≡ true → (c : ClassAssertion) → c ∈ s.classes → truth s I c.class (I.denotes c.individual) ≡ true
  unfolding meets_classes
  classes-elim e c h = all-elim _ s.classes e c h

  pub roles-elim : meets_roles s I ≡ true → (d : RoleAssertion) → d ∈ s.roles → I.in_role d.role (I.denotes d.source) (I.denotes d.target) ≡ true
  unfolding meets_roles
  roles-elim e d h = all-elim _ s.roles e d h

-- ---- interpretations that agree on the names and roles of the limits
module _ (s : Sheet) (limits : in_limits s ≡ true) (I : Interpretation) (in_name : ℕ → ℕ → Bool) (in_role : ℕ → ℕ → ℕ → Bool)
    (names : (a x : ℕ) → a < name_count → x < I.size → I.in_name a x ≡ in_name a x)
    (roles : (r x y : ℕ) → r < role_count → x < I.size → y < I.size → I.in_role r x y ≡ in_role r x y) where
  -- I with other names and roles
  abbrev pub replaced : Interpretation
  replaced = record { size = I.size; inhabited = I.inhabited; in_name = in_name; in_role = in_role; denotes = I.denotes; denoted = I.denoted }

  value_same : (v w : ℕ → ℕ → Bool) → ((j y : ℕ) → y < I.size → v j y ≡ w j y)
      → (c : Line) (x : ℕ) → line_in_limits c ≡ true → x < I.size → value I v c x ≡ value replaced w c x
  value_same v w h top x e b = refl
  value_same v w h bottom x e b = refl
  value_same v w h (name a) x e b = names a x (ltb-true a name_count e) b
  value_same v w h (negation i) x e b = ap flip (h i x b)
  value_same v w h (and i j) x e b = ap₂ ◌&&◌ (h i x b) (h j x b)
  value_same v w h (or i j) x e b = ap₂ ◌||◌ (h i x b) (h j x b)
  value_same v w h (some r i) x e b =
      any-cong (λ y. I.in_role r x y && v i y) (λ y. in_role r x y && w i y) (up_to I.size) (λ y m.
      let c = up_to-elim I.size y m in ap₂ ◌&&◌ (roles r x y (ltb-true r role_count e) b c) (h i y c))
  value_same v w h (only r i) x e b =
      all-cong (λ y. flip (I.in_role r x y) || v i y) (λ y. flip (in_role r x y) || w i y) (up_to I.size) (λ y m.
      let c = up_to-elim I.size y m in ap₂ (λ p q. flip p || q) (roles r x y (ltb-true r role_count e) b c) (h i y c))

  line-limits : (i : ℕ) → line_in_limits (line s i) ≡ true
  line-limits i = line-all s line_in_limits refl i (λ b. lines-limited s limits (line s i) (get_or-in s.lines i top b))

  truth_to-agrees : (f i x : ℕ) → x < I.size → truth_to s I f i x ≡ truth_to s replaced f i x
  truth_to-agrees zero i x b = refl
  truth_to-agrees (suc f) i x b = value_same (truth_to s I f) (truth_to s replaced f) (truth_to-agrees f) (line s i) x (line-limits i) b

  truth-agrees : (i x : ℕ) → x < I.size → truth s I i x ≡ truth s replaced i x
  unfolding truth
  truth-agrees i x b = truth_to-agrees (suc i) i x b

  pub meets-agrees : meets s I ≡ meets s replaced
  unfolding meets_rules meets_classes meets_roles
  meets-agrees =
      ap₂ ◌&&◌
      (ap₂ ◌&&◌
      (all-cong _ _ s.rules (λ r _. all-cong _ _ (up_to I.size) (λ x m.
      let b = up_to-elim I.size x m in ap₂ (λ p q. flip p || q) (truth-agrees r.sub x b) (truth-agrees r.sup x b))))
      (all-cong _ _ s.classes (λ c _. truth-agrees c.class (I.denotes c.individual) (I.denoted c.individual))))
      (all-cong _ _ s.roles (λ e m.
      roles e.role (I.denotes e.source) (I.denotes e.target) (roles-limited s limits e m) (I.denoted e.source) (I.denoted e.target)))
