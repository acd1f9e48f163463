-- What a well-formed sheet within the limits gives, entry by entry.
use Rattle.std.specs.Prelude.{ℕ, ◌<◌, ◌&&◌, ◌≡◌}
use Rattle.std.proofs.Math.Bool.{true}
use Rattle.std.proofs.Math.Dec.{ltb}
use borrow.Author.Tests.{ltb-true}
use Rattle.alc.specs.Lists.{◌∈◌, all, up_to}
use Rattle.alc.specs.Sheet.{count, well_formed, lines_well, line, classes_well, ClassAssertion, rules_well, Rule, operands_below, Sheet, roles_well}
use Rattle.alc.specs.Sheet.{RoleAssertion, Line, line_in_limits, in_limits, role_count}
use Rattle.alc.proofs.Theorems.Lists.{and_right, up_to-intro, all-elim, and_left}

-- what follows from it, for use in proofs
pub record WellFormed (s : Sheet) : Type 0 where
  pub operands : (i : ℕ) → i < count s → operands_below i (line s i) ≡ true
  pub rules : (r : Rule) → r ∈ s.rules → (r.sub < count s) × (r.sup < count s)
  pub classes : (c : ClassAssertion) → c ∈ s.classes → (c.individual < s.individuals) × (c.class < count s)
  pub roles : (e : RoleAssertion) → e ∈ s.roles → (e.source < s.individuals) × (e.target < s.individuals)

two-below : (a b m n : ℕ) → (ltb a m && ltb b n) ≡ true → (a < m) × (b < n)
two-below a b m n e = (ltb-true a m (and_left (ltb a m) (ltb b n) e), ltb-true b n (and_right (ltb a m) (ltb b n) e))

pub well-formed : (s : Sheet) → well_formed s ≡ true → WellFormed s
unfolding lines_well rules_well classes_well roles_well
well-formed s e =
    let a : lines_well s ≡ true = search (and_left, and_right) in
    let b : rules_well s ≡ true = search (and_left, and_right) in
    let c : classes_well s ≡ true = search (and_left, and_right) in
    let d : roles_well s ≡ true = search (and_left, and_right) in
    record {
      operands = λ i h. all-elim (λ i. operands_below i (line s i)) (up_to (count s)) a i (up_to-intro (count s) i h);
      rules = λ r m. two-below _ _ _ _ (all-elim _ s.rules b r m);
      classes = λ r m. two-below _ _ _ _ (all-elim _ s.classes c r m);
      roles = λ r m. two-below _ _ _ _ (all-elim _ s.roles d r m);
    }

-- the limits that bear on what is true: names and roles
module _ (s : Sheet) (e : in_limits s ≡ true) where
  pub lines-limited : (c : Line) → c ∈ s.lines → line_in_limits c ≡ true
  unfolding in_limits
  lines-limited = let a : all line_in_limits s.lines ≡ true = search (and_left, and_right) in all-elim line_in_limits s.lines a

  pub roles-limited : (d : RoleAssertion) → d ∈ s.roles → d.role < role_count
  unfolding in_limits
  roles-limited d m =
      let a : all (λ (d : RoleAssertion). ltb d.role role_count) s.roles ≡ true = search (and_left, and_right) in
      ltb-true d.role role_count (all-elim (λ (d : RoleAssertion). ltb d.role role_count) s.roles a d m)
