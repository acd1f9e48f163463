-- What a form says of its sheet, entry by entry; what the limits and well-formedness give; sets of lines within others.
use Rattle.std.specs.Prelude.{ℕ, suc, ◌/◌, ◌%◌, ◌^◌, ◌≤◌, ◌<◌, Bool, true, false, ◌&&◌, ◌||◌, ◌≡◌, refl, List, [], map, length, get_or, eqb, ltb}
use Rattle.std.proofs.Common.{true≢false, sym, ◌∙◌, ap, arith, eqb-true, eq-eqb, ne_eqb, zero-add}
use Rattle.std.proofs.lemmas.Bool.{ltb-true, lt-ltb}
use Rattle.std.proofs.lemmas.List.{length-map}
use Rattle.std.proofs.lemmas.Simd.{map-map}
use Rattle.std.specs.Int.Bits.{bit_or}
use Rattle.alc.specs.Bits.{bit}
use Rattle.alc.specs.Lists.{up_to}
use Rattle.alc.specs.declared.Line.{Line}
use Rattle.alc.specs.declared.Line.TheVariants.{Top as top, Bottom as bottom, Name as name, Not as negation, And as and, Or as or, Some as some, Only as only}
use Rattle.alc.specs.Sheet.{Sheet, count, line, rule, class_assertion, role_assertion}
use Rattle.alc.specs.Sheet.{◌⊑◌, operands_below, well_formed, in_limits, most_lines, most_rules, most_individuals, most_classes, most_roles}
use Rattle.alc.specs.Label.{every, when_holds, when_fails}
use Rattle.alc.proofs.Theorems.Bits.{bit-or, bit-ext}
use Rattle.alc.proofs.Theorems.Lists.{and_left, and_right, and_both, or_right, length_from, map-from, get_or-in}
use Rattle.alc.proofs.Theorems.Sheet.{well-formed}
use Rattle.sheet.specs.declared.Section.{Section}
use Rattle.sheet.specs.declared.Sheet.{Sheet as Form}
use Rattle.sheet.specs.declared.Entry.{Entry as Triple}
use Rattle.sheet.specs.Form.{entry_of, triples, line_of, rule_of, class_of, role_of, sheet_of}
use Rattle.plan.specs.declared.Plan.{Plan}
use Rattle.plan.specs.Prepared.{is_working}
use Rattle.plan.specs.Plan.{plan_sheet}

-- only not, and and or lines demand anything of the label
pub no-demand : (c : Line) → is_working c ≡ false → (when_holds c ≡ every []) × (when_fails c ≡ every [])
no-demand top e = (refl, refl)
no-demand bottom e = (refl, refl)
no-demand (name a) e = (refl, refl)
no-demand (negation i) e = absurd (true≢false e)
no-demand (and i j) e = absurd (true≢false e)
no-demand (or i j) e = absurd (true≢false e)
no-demand (some r i) e = (refl, refl)
no-demand (only r i) e = (refl, refl)

-- ---- the sections of a form
module _ {A : Type 0} (f : Triple → A) (s : Section) where
  length-section : length (map f (triples s)) ≡ s.count
  unfolding triples
  length-section = length-map (triples s) f ∙ length-map (up_to s.count) (entry_of s) ∙ length_from 0 s.count

  entry-is : (d : A) (i : ℕ) → i < s.count → get_or (map f (triples s)) i d ≡ f (entry_of s i)
  unfolding triples
  entry-is d i b =
      ap (λ (l : List A). get_or l i d) (map-map f (entry_of s) (up_to s.count))
      ∙ map-from (λ j. f (entry_of s j)) d 0 s.count i b ∙ ap (λ (j : ℕ). f (entry_of s j)) (zero-add i)

module _ (f : Form) where
  pub line-count : count (sheet_of f) ≡ f.lines.count
  unfolding sheet_of
  line-count = length-section line_of f.lines

  pub rule-count : length (sheet_of f).rules ≡ f.rules.count
  unfolding sheet_of
  rule-count = length-section rule_of f.rules

  pub individual-count : (sheet_of f).individuals ≡ f.individuals
  unfolding sheet_of
  individual-count = refl

  pub class-count : length (sheet_of f).classes ≡ f.classes.count
  unfolding sheet_of
  class-count = length-section class_of f.classes

  pub role-count : length (sheet_of f).roles ≡ f.roles.count
  unfolding sheet_of
  role-count = length-section role_of f.roles

  pub line-is : (i : ℕ) → i < count (sheet_of f) → line (sheet_of f) i ≡ line_of (entry_of f.lines i)
  unfolding sheet_of
  line-is i b = entry-is line_of f.lines top i (omega (arith, line-count))

  pub rule-is : (i : ℕ) → i < length (sheet_of f).rules → rule (sheet_of f) i ≡ rule_of (entry_of f.rules i)
  unfolding sheet_of
  rule-is i b = entry-is rule_of f.rules (0 ⊑ 0) i (omega (arith, rule-count))

  pub class-is : (i : ℕ) → i < length (sheet_of f).classes → class_assertion (sheet_of f) i ≡ class_of (entry_of f.classes i)
  unfolding sheet_of
  class-is i b = entry-is class_of f.classes (record { individual = 0; class = 0 }) i (omega (arith, class-count))

  pub role-is : (i : ℕ) → i < length (sheet_of f).roles → role_assertion (sheet_of f) i ≡ role_of (entry_of f.roles i)
  unfolding sheet_of
  role-is i b = entry-is role_of f.roles (record { role = 0; source = 0; target = 0 }) i (omega (arith, role-count))

-- ---- the limits
pub record Few (s : Sheet) : Type 0 where
  pub lines : count s ≤ 32
  pub rules : length s.rules ≤ 12
  pub individuals : s.individuals ≤ 8
  pub classes : length s.classes ≤ 16
  pub roles : length s.roles ≤ 16

pub few : {s : Sheet} → in_limits s ≡ true → Few s
unfolding in_limits
few {s} l =
    let a : ltb (count s) (suc most_lines) ≡ true = search (and_left, and_right) in
    let b : ltb (length s.rules) (suc most_rules) ≡ true = search (and_left, and_right) in
    let c : ltb s.individuals (suc most_individuals) ≡ true = search (and_left, and_right) in
    let d : ltb (length s.classes) (suc most_classes) ≡ true = search (and_left, and_right) in
    let e : ltb (length s.roles) (suc most_roles) ≡ true = search (and_left, and_right) in
    record {
      lines = omega (arith, ltb-true _ _ a);
      rules = omega (arith, ltb-true _ _ b);
      individuals = omega (arith, ltb-true _ _ c);
      classes = omega (arith, ltb-true _ _ d);
      roles = omega (arith, ltb-true _ _ e);
    }

-- those of a plan's sheet
module _ (p : Plan) where
  pub lines_fit : count (plan_sheet p) ≤ 32
  lines_fit = (few p.prepared.limited).lines

  pub rules-fit : length (plan_sheet p).rules ≤ 12
  rules-fit = (few p.prepared.limited).rules

  pub individuals-fit : (plan_sheet p).individuals ≤ 8
  individuals-fit = (few p.prepared.limited).individuals

  pub classes-fit : length (plan_sheet p).classes ≤ 16
  classes-fit = (few p.prepared.limited).classes

  pub roles-fit : length (plan_sheet p).roles ≤ 16
  roles-fit = (few p.prepared.limited).roles

ltb-further : (m n : ℕ) → m ≤ n → (i : ℕ) → ltb i m ≡ true → ltb i n ≡ true
ltb-further m n b i e = lt-ltb i n (omega (arith, ltb-true i m e))

-- operands that are smaller than one number are smaller than a larger one
pub operands-further : (m n : ℕ) → m ≤ n → (c : Line) → operands_below m c ≡ true → operands_below n c ≡ true
operands-further m n b top e = refl
operands-further m n b bottom e = refl
operands-further m n b (name a) e = refl
operands-further m n b (negation i) e = ltb-further m n b i e
operands-further m n b (and i j) e = and_both (ltb i n) (ltb j n) (ltb-further m n b i (and_left (ltb i m) (ltb j m) e)) (ltb-further m n b j (and_right (ltb i m) (ltb j m) e))
operands-further m n b (or i j) e = and_both (ltb i n) (ltb j n) (ltb-further m n b i (and_left (ltb i m) (ltb j m) e)) (ltb-further m n b j (and_right (ltb i m) (ltb j m) e))
operands-further m n b (some r i) e = ltb-further m n b i e
operands-further m n b (only r i) e = ltb-further m n b i e

-- ---- what a well-formed sheet names is there
module _ (s : Sheet) (w : well_formed s ≡ true) where
  -- both sides of a rule are lines
  pub rule-inside : (r : ℕ) → r < length s.rules → ((rule s r).sub < count s) × ((rule s r).sup < count s)
  rule-inside r b = (well-formed s w).rules (rule s r) (get_or-in s.rules r (0 ⊑ 0) b)

  pub class-inside : (c : ℕ) → c < length s.classes → ((class_assertion s c).individual < s.individuals) × ((class_assertion s c).class < count s)
  class-inside c b = (well-formed s w).classes (class_assertion s c) (get_or-in s.classes c _ b)

  pub role-inside : (e : ℕ) → e < length s.roles → ((role_assertion s e).source < s.individuals) × ((role_assertion s e).target < s.individuals)
  role-inside e b = (well-formed s w).roles (role_assertion s e) (get_or-in s.roles e _ b)

  -- operands are lines before their own
  module _ (i : ℕ) (b : i < count s) where
    pub operands-smaller : operands_below i (line s i) ≡ true
    operands-smaller = (well-formed s w).operands i b

    pub and-inside : {a d : ℕ} → line s i ≡ and a d → (a < i) × (d < i)
    and-inside {a} {d} e =
        let h : (ltb a i && ltb d i) ≡ true = ap (operands_below i) (sym e) ∙ operands-smaller in
        (ltb-true a i (and_left _ _ h), ltb-true d i (and_right _ _ h))

    pub or-inside : {a d : ℕ} → line s i ≡ or a d → (a < i) × (d < i)
    or-inside {a} {d} e =
        let h : (ltb a i && ltb d i) ≡ true = ap (operands_below i) (sym e) ∙ operands-smaller in
        (ltb-true a i (and_left _ _ h), ltb-true d i (and_right _ _ h))

    pub some-inside : {r a : ℕ} → line s i ≡ some r a → a < i
    some-inside {a = a} e = ltb-true a i (ap (operands_below i) (sym e) ∙ operands-smaller)

    pub only-inside : {r a : ℕ} → line s i ≡ only r a → a < i
    only-inside {a = a} e = ltb-true a i (ap (operands_below i) (sym e) ∙ operands-smaller)

-- ---- sets
-- the machine's test of a member
pub bit-set : (s i : ℕ) → s / 2 ^ i % 2 ≡ 1 → bit s i ≡ true
unfolding bit
bit-set s i e = eq-eqb (s / 2 ^ i % 2) 1 e

pub bit-clear : (s i : ℕ) → (s / 2 ^ i % 2 ≡ 1 → ⊥) → bit s i ≡ false
unfolding bit
bit-clear s i e = ne_eqb (s / 2 ^ i % 2) 1 e

-- s joined to h adds nothing exactly where h has all of s
pub within : (h s : ℕ) → eqb (bit_or h s) h ≡ true → (j : ℕ) → bit s j ≡ true → bit h j ≡ true
within h s e j m = ap (λ (x : ℕ). bit x j) (sym (eqb-true (bit_or h s) h e)) ∙ bit-or h s j ∙ or_right (bit h j) (bit s j) m

or-absorbed : (a b : Bool) → (b ≡ true → a ≡ true) → (a || b) ≡ a
or-absorbed true b k = refl
or-absorbed false true k = sym (k refl)
or-absorbed false false k = refl

pub absorbs : (h s : ℕ) → ((j : ℕ) → bit s j ≡ true → bit h j ≡ true) → eqb (bit_or h s) h ≡ true
absorbs h s k = eq-eqb (bit_or h s) h (bit-ext (bit_or h s) h (λ j. bit-or h s j ∙ or-absorbed (bit h j) (bit s j) (k j)))

pub and-true : (a : Bool) → (a && true) ≡ a
and-true true = refl
and-true false = refl
