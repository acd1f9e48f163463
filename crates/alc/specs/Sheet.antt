-- What a sheet says, once it is read: lines, rules, individuals, assertions; and what a sheet may say.
-- Document 01, "What the engine is given" and "How a sheet is laid out". `Line`, `Rule` and the assertions are the types of src/lib.rt. Definitions only.
use Rattle.std.specs.Prelude.{ℕ, suc, Bool, true, ◌&&◌, List, length, get_or, ltb}
use Rattle.alc.specs.Lists.{all, up_to}
-- "0 top; 1 bottom; 2 name; 3 not i; 4 and i j; 5 or i j; 6 some r i; 7 only r i": i, j are lines, r is a role
pub use Rattle.alc.specs.declared.Line.{Line}
pub use Rattle.alc.specs.declared.Line.TheVariants.{Top as top, Bottom as bottom, Name as name, Not as negation, And as and, Or as or, Some as some, Only as only}
-- "lines c, d, meaning c ⊑ d"
pub use Rattle.alc.specs.declared.Rule.{Rule}
-- "class assertions: individual, line"
pub use Rattle.alc.specs.declared.ClassAssertion.{ClassAssertion}
-- "role assertions: role, from, to"
pub use Rattle.alc.specs.declared.RoleAssertion.{RoleAssertion}

infix 60 ◌⊑◌
abbrev pub ◌⊑◌ : ℕ → ℕ → Rule
c ⊑ d = record { sub = c; sup = d }

pub record Sheet : Type 0 where
  pub lines : List Line
  pub rules : List Rule
  pub individuals : ℕ
  pub classes : List ClassAssertion
  pub roles : List RoleAssertion

abbrev pub count : Sheet → ℕ
count s = length s.lines

-- line i; behind the last line nothing refers, and `top` stands in
abbrev pub line : Sheet → ℕ → Line
line s i = get_or s.lines i top

-- rule and assertion number i
abbrev pub rule : Sheet → ℕ → Rule
rule s i = get_or s.rules i (0 ⊑ 0)

abbrev pub class_assertion : Sheet → ℕ → ClassAssertion
class_assertion s i = get_or s.classes i (record { individual = 0; class = 0 })

abbrev pub role_assertion : Sheet → ℕ → RoleAssertion
role_assertion s i = get_or s.roles i (record { role = 0; source = 0; target = 0 })

-- ---- "i, j are smaller than the line's own number"; rules and assertions name lines and individuals that are there
abbrev pub operands_below : ℕ → Line → Bool
operands_below n top = true
operands_below n bottom = true
operands_below n (name a) = true
operands_below n (negation i) = ltb i n
operands_below n (and i j) = ltb i n && ltb j n
operands_below n (or i j) = ltb i n && ltb j n
operands_below n (some r i) = ltb i n
operands_below n (only r i) = ltb i n

unfoldable pub lines_well : Sheet → Bool
lines_well s = all (λ i. operands_below i (line s i)) (up_to (count s))

unfoldable pub rules_well : Sheet → Bool
rules_well s = all (λ (r : Rule). ltb r.sub (count s) && ltb r.sup (count s)) s.rules

unfoldable pub classes_well : Sheet → Bool
classes_well s = all (λ (c : ClassAssertion). ltb c.individual s.individuals && ltb c.class (count s)) s.classes

unfoldable pub roles_well : Sheet → Bool
roles_well s = all (λ (e : RoleAssertion). ltb e.source s.individuals && ltb e.target s.individuals) s.roles

abbrev pub well_formed : Sheet → Bool
well_formed s = lines_well s && rules_well s && classes_well s && roles_well s

-- ---- the limits: "lines, 0 to 32", "name (0 to 31)", "roles r are 0 to 7", "rules, 0 to 12", "individuals, 0 to 8", assertions "0 to 16"
abbrev pub most_lines : ℕ
most_lines = 32

abbrev pub name_count : ℕ
name_count = 32

abbrev pub role_count : ℕ
role_count = 8

abbrev pub most_rules : ℕ
most_rules = 12

abbrev pub most_individuals : ℕ
most_individuals = 8

abbrev pub most_classes : ℕ
most_classes = 16

abbrev pub most_roles : ℕ
most_roles = 16

abbrev pub line_in_limits : Line → Bool
line_in_limits top = true
line_in_limits bottom = true
line_in_limits (name a) = ltb a name_count
line_in_limits (negation i) = true
line_in_limits (and i j) = true
line_in_limits (or i j) = true
line_in_limits (some r i) = ltb r role_count
line_in_limits (only r i) = ltb r role_count

unfoldable pub in_limits : Sheet → Bool
in_limits s =
    ltb (count s) (suc most_lines) && all line_in_limits s.lines && ltb (length s.rules) (suc most_rules) && ltb s.individuals (suc most_individuals)
    && ltb (length s.classes) (suc most_classes) && ltb (length s.roles) (suc most_roles) && all (λ (e : RoleAssertion). ltb e.role role_count) s.roles
