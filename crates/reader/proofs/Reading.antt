-- Laws of alc's readers (specs/Bytes.antt): one reading after another, what sections give, and the limits that a sheet keeps once it is read. Assumes nothing.
use Rattle.std.specs.Prelude.{◌≡◌, refl, List, map, length, ltb}
use Prim.Native.Nat.{ℕ, zero, suc, ◌≤◌}
use Rattle.std.proofs.Common.{arith}
use Rattle.alc.specs.declared.Line.TheVariants.{Name as name, Not as negation, And as and, Or as or, Some as some, Only as only}
use Rattle.alc.specs.declared.RoleAssertion.{RoleAssertion}
use Rattle.alc.specs.Sheet.{Sheet, count, most_lines, name_count, role_count, most_rules, most_individuals}
use Rattle.alc.specs.Sheet.{most_classes, most_roles}
use Rattle.alc.specs.Bytes.{Read, refused, taken, then, below_at, operands_at, line_at, rule_at, class_at, role_at, several_at, counted_at, sections_at, read_sheet}
use Rattle.numbers.proofs.Reading.{Gives, none, gives, gives-if, gives_then, gives_more, Inside, below-gives}
use Rattle.reader.specs.Parts.{reading}

module _ {A B C : Type 0} where
  -- in either bracketing
  pub then-then : (r : Read A) (f : A → ℕ → Read B) (g : B → ℕ → Read C) → then (then r f) g ≡ then r (λ a p. then (f a p) g)
  then-then (refused n p) f g = refl
  then-then (taken a p) f g = refl

module _ {A B : Type 0} (f : A → B) where
  -- f of each of several is f of all of them
  several-map : (one : ℕ → ℕ → Read A) (i k p : ℕ) → several_at (λ i p. reading f (one i p)) i k p ≡ reading (map f) (several_at one i k p)
  several-map one i zero p = refl
  several-map one i (suc k) p = simp (then-then, several-map one (suc i) k)

  pub counted-map : (bs : List ℕ) (n : ℕ) (one : ℕ → ℕ → Read A) (p : ℕ)
      → counted_at bs n (λ i p. reading f (one i p)) p ≡ reading (map f) (counted_at bs n one p)
  counted-map bs n one p = simp (then-then, several-map one 0)

-- the limits of the counts
pub record Counts (s : Sheet) : Type 0 where
  pub lines : count s ≤ most_lines
  pub rules : length s.rules ≤ most_rules
  pub individuals : s.individuals ≤ most_individuals
  pub classes : length s.classes ≤ most_classes
  pub roles : length s.roles ≤ most_roles

-- ---- what a reading gives, where it does not refuse
module _ (bs : List ℕ) where
  -- as many as were asked for
  several-gives : {A : Type 0} (one : ℕ → ℕ → Read A) → ((i p : ℕ) → Gives (Inside bs) (one i p)) → (i k p : ℕ) → p ≤ length bs
      → Gives (λ (l : List A) q. (length l ≡ k) × (q ≤ length bs)) (several_at one i k p)
  several-gives one h i zero p w = gives (refl, w)
  several-gives one h i (suc k) p w =
      gives_then (h i p) (λ a q v. gives_then (several-gives one h (suc i) k q v) (λ l t (e, u). gives (omega arith, u)))

  counted-gives : {A : Type 0} (n : ℕ) (one : ℕ → ℕ → Read A) → ((i p : ℕ) → Gives (Inside bs) (one i p)) → (p : ℕ)
      → Gives (λ (l : List A) q. (length l ≤ n) × (q ≤ length bs)) (counted_at bs n one p)
  counted-gives n one h p = gives_then (below-gives bs (suc n) 3 p) (λ k q (b, w). gives_more (several-gives one h 0 k q w) (λ l t (e, u). (omega arith, u)))

  -- ---- the entries
  two-gives : {A : Type 0} (m n w v p : ℕ) (f : ℕ → ℕ → A)
      → Gives (Inside bs) (then (below_at bs m w p) (λ a q. then (below_at bs n v q) (λ b t. taken (f a b) t)))
  two-gives m n w v p f = gives_then (below-gives bs m w p) (λ a q _. gives_then (below-gives bs n v q) (λ b t (_, h). gives h))

  one-gives : {A : Type 0} (n w p : ℕ) (f : ℕ → A) → Gives (Inside bs) (then (below_at bs n w p) (λ a q. taken (f a) q))
  one-gives n w p f = gives_then (below-gives bs n w p) (λ a q (_, h). gives h)

  operands-give : (own k p : ℕ) → p ≤ length bs → Gives (Inside bs) (operands_at bs own k p)
  unfolding operands_at
  operands-give own zero p h = gives h
  operands-give own (suc zero) p h = gives h
  operands-give own (suc (suc zero)) p h = one-gives name_count 4 p name
  operands-give own (suc (suc (suc zero))) p h = one-gives own 5 p negation
  operands-give own (suc (suc (suc (suc zero)))) p h = two-gives own own 5 5 p and
  operands-give own (suc (suc (suc (suc (suc zero))))) p h = two-gives own own 5 5 p or
  operands-give own (suc (suc (suc (suc (suc (suc zero)))))) p h = two-gives role_count own 4 5 p some
  operands-give own (suc (suc (suc (suc (suc (suc (suc k))))))) p h = two-gives role_count own 4 5 p only

  line_gives : (i p : ℕ) → Gives (Inside bs) (line_at bs i p)
  unfolding line_at
  line_gives i p = gives_then (below-gives bs 8 4 p) (λ k q (_, h). operands-give i k q h)

  rule-gives : (n i p : ℕ) → Gives (Inside bs) (rule_at bs n i p)
  unfolding rule_at
  rule-gives n i p = two-gives n n 5 5 p (λ c d. record { sub = c; sup = d })

  class-gives : (n k i p : ℕ) → Gives (Inside bs) (class_at bs n k i p)
  unfolding class_at
  class-gives n k i p = two-gives k n 5 5 p (λ a c. record { individual = a; class = c })

  role-gives : (k i p : ℕ) → Gives (Inside bs) (role_at bs k i p)
  unfolding role_at
  role-gives k i p = gives_then (below-gives bs role_count 4 p) (λ r q _. two-gives k k 5 5 q (λ a b. record { role = r; source = a; target = b }))

  -- ---- the whole sheet
  pub roles-give : (k p : ℕ) → Gives (λ (l : List RoleAssertion) q. (length l ≤ most_roles) × (q ≤ length bs)) (counted_at bs most_roles (role_at bs k) p)
  roles-give k p = counted-gives most_roles (role_at bs k) (role-gives k) p

  sections-give : Gives (λ s p. Counts s) (sections_at bs)
  unfolding sections_at
  sections-give =
      gives_then (counted-gives most_lines (line_at bs) line_gives 0) (λ ls p (a, _).
      gives_then (counted-gives most_rules (rule_at bs (length ls)) (rule-gives (length ls)) p) (λ rs q (b, _).
      gives_then (below-gives bs (suc most_individuals) 3 q) (λ k t (c, _).
      gives_then (counted-gives most_classes (class_at bs (length ls) k) (class-gives (length ls) k) t) (λ cs u (d, _).
      gives_then (roles-give k u) (λ es v (e, _).
      gives (record { lines = a; rules = b; individuals = omega arith; classes = d; roles = e }))))))

  -- a sheet that was read keeps the limits of its counts
  pub sheet-gives : Gives (λ s p. Counts s) (read_sheet bs)
  unfolding read_sheet
  sheet-gives = gives_then sections-give (λ s p h. gives-if (ltb p (length bs)) (λ _. none) (λ _. gives h))
