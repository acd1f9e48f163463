-- The reader's definition, given the bytes of a form, says what the form's checks say number by number. Assumes nothing.
use Prim.Native.Nat.{ℕ, zero, suc, ◌+◌, ◌-◌, ◌*◌, ◌/◌, ◌%◌, ◌≤◌, ◌<◌}
use Rattle.std.specs.Prelude.{Bool, ◌||◌, cond, ◌≡◌, get_or, take, drop, eqb}
use Rattle.std.proofs.Math.Bool.{true, false}
use Rattle.std.proofs.Math.Path.{refl, ap}
use Rattle.std.proofs.Common.{sym, ◌∙◌, ap₂, arith, get_or-drop, drop-drop}
use Rattle.std.proofs.Math.Logic.{⊎_elim}
use mathlib.Core.List.{List, [], ◌∷◌, ◌++◌, map, append_assoc}
use Rattle.std.proofs.Math.ListN.{length, length-drop}
use Rattle.std.proofs.lemmas.List.{length-map}
use Rattle.std.proofs.Math.Seq.{drop-append_seam}
use Rattle.std.proofs.Math.Dec.{ltb, leb}
use borrow.Author.Tests.{ltb-true, ltb-false, lt-ltb, le-ltb, le-leb, ne_eqb}
use Rattle.alc.specs.Lists.{each}
use Rattle.alc.specs.Bytes.{Read, refused, taken, then, number_at, below_at, operands_at, line_at, rule_at, class_at, role_at, several_at, counted_at, sections_at}
use Rattle.alc.specs.Bytes.{read_sheet}
use Rattle.alc.specs.declared.Line.{Line}
use Rattle.alc.specs.declared.Rule.{Rule}
use Rattle.alc.specs.declared.ClassAssertion.{ClassAssertion}
use Rattle.alc.specs.declared.RoleAssertion.{RoleAssertion}
use Rattle.alc.specs.declared.Line.TheVariants.{Name as name, Not as negation, And as and, Or as or, Some as some, Only as only}
use Rattle.alc.specs.Sheet.{Sheet, name_count, role_count, most_lines, most_rules}
use Rattle.alc.specs.Sheet.{most_individuals, most_classes, most_roles}
use Rattle.alc.specs.Writing.{groups, bytes_for}
use Rattle.alc.proofs.Theorems.Lists.{cases}
use Rattle.alc.proofs.Theorems.Writing.{groups-one, groups-two, more-groups}
use Rattle.sheet.specs.declared.Kind.{Kind}
use Rattle.sheet.specs.declared.Kind.TheVariants.{Lines, Rules, Classes, Roles}
use Rattle.sheet.specs.declared.Section.{Section}
use Rattle.sheet.specs.declared.Sheet as form
use Rattle.sheet.specs.declared.Entry.{Entry as Triple}
use Rattle.sheet.specs.Form.{operand_count, triples, entry_numbers, section_numbers, numbers_of, sheet_of, line_from, line_of, rule_of, class_of, role_of}
use Rattle.reader.proofs.Reading.{then-then}
use Rattle.reader.proofs.Theorems.{entry-count}
use Rattle.reader.specs.Parts.{most_of}
use Rattle.writer.specs.Checks.{Check, check, operand_checks, entry_checks, entries_checks, section_checks, form_checks, judged, first_fault}
use Rattle.writer.specs.Checks.{form_verdict}

-- ---- a number where its bytes stand
module _ (bs : List ℕ) (p : ℕ) where
  byte-here : (x : ℕ) (ys : List ℕ) → drop p bs ≡ x ∷ ys → (p < length bs) × (get_or bs p 0 ≡ x)
  byte-here x ys e = (
    omega (arith, length-drop p bs, ap length e),
    ap (λ (i : ℕ). get_or bs i 0) (omega arith) ∙ sym (get_or-drop p bs 0 0) ∙ ap (λ (l : List ℕ). get_or l 0 0) e,
  )

  second-here : (x y : ℕ) (ys : List ℕ) → drop p bs ≡ x ∷ y ∷ ys → (suc p < length bs) × (get_or bs (suc p) 0 ≡ y)
  second-here x y ys e = (
    omega (arith, length-drop p bs, ap length e),
    ap (λ (i : ℕ). get_or bs i 0) (omega arith) ∙ sym (get_or-drop p bs 1 0) ∙ ap (λ (l : List ℕ). get_or l 1 0) e,
  )

  -- `number_at` by its four tests
  abbrev number_by : Bool → Bool → Bool → Bool → ℕ → ℕ → Read ℕ
  number_by in₁ low in₂ bad x y =
      elim in₁ [
        | false ↦ refused 1 (length bs)
        | true ↦ elim low [
          | true ↦ taken x (suc p)
          | false ↦ elim in₂ [ false ↦ refused 1 p | true ↦ elim bad [ true ↦ refused 2 p | false ↦ taken (x - 128 + 128 * y) (suc (suc p)) ] ]
        ]
      ]

  abbrev is_bad : ℕ → Bool
  is_bad y = eqb y 0 || ltb 127 y

  bad-is : (y : ℕ) (b : Bool) → 0 < y → ltb 127 y ≡ b → is_bad y ≡ b
  bad-is y b h t = ap₂ {C = Bool} (λ c d. c || d) (ne_eqb y 0 (λ z. omega arith)) t

  number_by_lem : number_at bs p ≡ number_by (ltb p (length bs)) (ltb (get_or bs p 0) 128) (ltb (suc p) (length bs)) (is_bad (get_or bs (suc p) 0)) (get_or bs p 0)
      (get_or bs (suc p) 0)
  unfolding number_at
  number_by_lem = refl

  one-here : (x : ℕ) (ys : List ℕ) → drop p bs ≡ x ∷ ys → x < 128 → number_at bs p ≡ taken x (suc p)
  one-here x ys e h =
      let (inside, is) = byte-here x ys e in
      let a : ltb p (length bs) ≡ true = lt-ltb p (length bs) inside in
      let b : ltb (get_or bs p 0) 128 ≡ true = lt-ltb (get_or bs p 0) 128 (omega arith) in
      number_by_lem ∙ (λ i. number_by (a i) (b i) (ltb (suc p) (length bs)) (is_bad (get_or bs (suc p) 0)) (is i) (get_or bs (suc p) 0))

  module _ (x y : ℕ) (ys : List ℕ) (e : drop p bs ≡ x ∷ y ∷ ys) (h : 128 ≤ x) where
    two-tests : (b : Bool) → is_bad y ≡ b → number_at bs p ≡ number_by true false true b x y
    two-tests b t =
        let (inside, is) = byte-here x (y ∷ ys) e in
        let (within, second) = second-here x y ys e in
        let a : ltb p (length bs) ≡ true = lt-ltb p (length bs) inside in
        let l : ltb (get_or bs p 0) 128 ≡ false = le-ltb (get_or bs p 0) 128 (omega arith) in
        let c : ltb (suc p) (length bs) ≡ true = lt-ltb (suc p) (length bs) within in
        let d : is_bad (get_or bs (suc p) 0) ≡ b = ap is_bad second ∙ t in
        number_by_lem ∙ (λ i. number_by (a i) (l i) (c i) (d i) (is i) (second i))

  -- what a reader says of the number x at place p
  abbrev spelled_at : ℕ → Read ℕ
  spelled_at x = elim (ltb x 16384) [ true ↦ taken x (p + length (groups x)) | false ↦ refused 2 p ]

  number-here : (x : ℕ) (ys : List ℕ) → drop p bs ≡ groups x ++ ys → number_at bs p ≡ spelled_at x
  number-here x ys e =
      ⊎_elim
      (λ (s : ltb x 128 ≡ true).
      let small = ltb-true x 128 s in
      let g = groups-one x small in
      rw (lt-ltb x 16384 (omega arith), spelled_at) (one-here x ys (e ∙ ap (λ (l : List ℕ). l ++ ys) g) small ∙ ap (taken x) (omega (arith, ap length g))))
      (λ (s : ltb x 128 ≡ false). ⊎_elim
      (λ (m : ltb x 16384 ≡ true).
      let big = ltb-false x 128 s in
      let small = ltb-true x 16384 m in
      let g = groups-two x big small in
      rw (m, spelled_at) (two-tests (x % 128 + 128) (x / 128) ys (e ∙ ap (λ (l : List ℕ). l ++ ys) g) (omega arith) false
      (bad-is (x / 128) false (omega arith) (le-ltb 127 (x / 128) (omega arith)))
      ∙ ap₂ {C = Read ℕ} taken (omega arith) (omega (arith, ap length g))))
      (λ (m : ltb x 16384 ≡ false).
      let (rest, g) = more-groups x (ltb-false x 16384 m) in
      rw (m, spelled_at) (two-tests (x % 128 + 128) (x / 128 % 128 + 128) (rest ++ ys) (e ∙ ap (λ (l : List ℕ). l ++ ys) g) (omega arith) true
      (bad-is (x / 128 % 128 + 128) true (omega arith) (lt-ltb 127 (x / 128 % 128 + 128) (omega arith)))))
      (cases (ltb x 16384)))
      (cases (ltb x 128))

  behind-here : (x : ℕ) (ys : List ℕ) → drop p bs ≡ groups x ++ ys → drop (p + length (groups x)) bs ≡ ys
  behind-here x ys e = sym (drop-drop (length (groups x)) p bs) ∙ ap (drop (length (groups x))) e ∙ drop-append_seam (groups x) ys

-- ---- reading on: what is said behind a number that keeps its limit
-- no section may have more entries than a form holds
most-fits : (kind : Kind) → most_of kind ≤ most_lines
most-fits Lines = omega arith
most-fits Rules = omega arith
most-fits Classes = omega arith
most-fits Roles = omega arith

triple-count : (s : Section) → length (triples s) ≡ s.count
triple-count s = sym (length-map (triples s) line_of) ∙ entry-count line_of s

-- a number that was read, if it is below its limit
abbrev kept : ℕ → ℕ → ℕ → ℕ → ℕ → Read ℕ
kept n why p v q = elim (ltb v n) [ true ↦ taken v q | false ↦ refused why p ]

module _ (bs : List ℕ) where
  -- the numbers ns, and nothing else, stand from place p on
  abbrev Rest : ℕ → List ℕ → Type 0
  Rest p ns = drop p bs ≡ bytes_for ns

  -- a number below its limit, and the rest
  number-on : (p x n why : ℕ) (ns : List ℕ) (F : ℕ → ℕ → Read Sheet) (cs : List Check) (G : ℕ → Read Sheet) → Rest p (x ∷ ns)
      → ((q : ℕ) → x < n → Rest q ns → F x q ≡ first_fault q cs G)
      → then (below_at bs n why p) F ≡ first_fault p (check x n why ∷ cs) G
  unfolding below_at bytes_for
  number-on p x n why ns F cs G e on =
      then-then (number_at bs p) (kept n why p) F
      ∙ ap (λ (r : Read ℕ). then r (λ v q. then (kept n why p v q) F)) (number-here bs p x (bytes_for ns) e)
      ∙ ⊎_elim (λ h. on-small h) (λ h. on-large h) (cases (ltb x 16384))
    where
      on-large : ltb x 16384 ≡ false → then (spelled_at bs p x) (λ v q. then (kept n why p v q) F) ≡ first_fault p (check x n why ∷ cs) G
      on-large h = rw (h, spelled_at, judged) refl

      on-small : ltb x 16384 ≡ true → then (spelled_at bs p x) (λ v q. then (kept n why p v q) F) ≡ first_fault p (check x n why ∷ cs) G
      on-small h = rw (h, spelled_at, judged)
          (⊎_elim
          (λ (k : ltb x n ≡ true). rw (k, kept) (on (p + length (groups x)) (ltb-true x n k) (behind-here bs p x (bytes_for ns) e)))
          (λ (k : ltb x n ≡ false). rw (k, kept) refl)
          (cases (ltb x n)))

  -- ---- entries: one number, or two
  module _ {A : Type 0} (F : A → ℕ → Read Sheet) (ns : List ℕ) (cs : List Check) (G : ℕ → Read Sheet) where
    one_on : (p x n w : ℕ) (f : ℕ → A) → Rest p (x ∷ ns) → ((q : ℕ) → Rest q ns → F (f x) q ≡ first_fault q cs G)
        → then (then (below_at bs n w p) (λ a q. taken (f a) q)) F ≡ first_fault p (check x n w ∷ cs) G
    one_on p x n w f e on =
        then-then (below_at bs n w p) (λ a q. taken (f a) q) F ∙ number-on p x n w ns (λ a q. F (f a) q) cs G e (λ q _ e₂. on q e₂)

    two-on : (p x m w y n v : ℕ) (f : ℕ → ℕ → A) → Rest p (x ∷ y ∷ ns) → ((q : ℕ) → Rest q ns → F (f x y) q ≡ first_fault q cs G)
        → then (then (below_at bs m w p) (λ a q. then (below_at bs n v q) (λ b t. taken (f a b) t))) F ≡ first_fault p (check x m w ∷ check y n v ∷ cs) G
    two-on p x m w y n v f e on =
        then-then (below_at bs m w p) (λ a q. then (below_at bs n v q) (λ b t. taken (f a b) t)) F
        ∙ number-on p x m w (y ∷ ns) (λ a q. then (then (below_at bs n v q) (λ b t. taken (f a b) t)) F) (check y n v ∷ cs) G e
        (λ q _ e₂. one_on q y n v (f x) e₂ on)

  module _ (F : Line → ℕ → Read Sheet) (ns : List ℕ) (cs : List Check) (G : ℕ → Read Sheet) where
    operands-on : (own k a b p : ℕ) → k < 8 → Rest p (take (operand_count k) (a ∷ b ∷ []) ++ ns)
        → ((q : ℕ) → Rest q ns → F (line_from k a b) q ≡ first_fault q cs G)
        → then (operands_at bs own k p) F ≡ first_fault p (operand_checks own k a b ++ cs) G
    unfolding operands_at
    operands-on own zero a b p h e on = on p e
    operands-on own (suc zero) a b p h e on = on p e
    operands-on own (suc (suc zero)) a b p h e on = one_on F ns cs G p a name_count 4 name e on
    operands-on own (suc (suc (suc zero))) a b p h e on = one_on F ns cs G p a own 5 negation e on
    operands-on own (suc (suc (suc (suc zero)))) a b p h e on = two-on F ns cs G p a own 5 b own 5 and e on
    operands-on own (suc (suc (suc (suc (suc zero))))) a b p h e on = two-on F ns cs G p a own 5 b own 5 or e on
    operands-on own (suc (suc (suc (suc (suc (suc zero)))))) a b p h e on = two-on F ns cs G p a role_count 4 b own 5 some e on
    operands-on own (suc (suc (suc (suc (suc (suc (suc zero))))))) a b p h e on = two-on F ns cs G p a role_count 4 b own 5 only e on
    operands-on own (suc (suc (suc (suc (suc (suc (suc (suc k)))))))) a b p h e on = absurd (omega arith)

  -- ---- an entry of each section: its numbers, its checks, and what it says
  abbrev EntryOn : {A : Type 0} → Kind → ℕ → ℕ → (ℕ → ℕ → Read A) → (Triple → A) → Type 0
  EntryOn {A} kind n k one value =
      (F : A → ℕ → Read Sheet) (ns : List ℕ) (cs : List Check) (G : ℕ → Read Sheet) (i p : ℕ) (t : Triple) → Rest p (entry_numbers kind t ++ ns)
      → ((q : ℕ) → Rest q ns → F (value t) q ≡ first_fault q cs G) → then (one i p) F ≡ first_fault p (entry_checks kind n k i t ++ cs) G

  line_on : (n k : ℕ) → EntryOn Lines n k (line_at bs) line_of
  unfolding line_at
  line_on n k F ns cs G i p t e on =
      then-then (below_at bs 8 4 p) (λ k q. operands_at bs i k q) F
      ∙ number-on p t.first 8 4 (take (operand_count t.first) (t.second ∷ t.third ∷ []) ++ ns) (λ k q. then (operands_at bs i k q) F)
      (operand_checks i t.first t.second t.third ++ cs) G e
      (λ q h e₂. operands-on F ns cs G i t.first t.second t.third q h e₂ on)

  rule-on : (n k : ℕ) → EntryOn Rules n k (rule_at bs n) rule_of
  unfolding rule_at
  rule-on n k F ns cs G i p t e on = two-on F ns cs G p t.first n 5 t.second n 5 (λ c d. record { sub = c; sup = d }) e on

  class-on : (n k : ℕ) → EntryOn Classes n k (class_at bs n k) class_of
  unfolding class_at
  class-on n k F ns cs G i p t e on = two-on F ns cs G p t.first k 5 t.second n 5 (λ a c. record { individual = a; class = c }) e on

  role-on : (n k : ℕ) → EntryOn Roles n k (role_at bs k) role_of
  unfolding role_at
  role-on n k F ns cs G i p t e on =
      let more : ℕ → ℕ → Read RoleAssertion = λ r q. then (below_at bs k 5 q)
      (λ a t. then (below_at bs k 5 t) (λ b u. taken (record { role = r; source = a; target = b }) u)) in
      then-then (below_at bs role_count 4 p) more F
      ∙ number-on p t.first role_count 4 (t.second ∷ t.third ∷ ns) (λ r q. then (more r q) F) (check t.second k 5 ∷ check t.third k 5 ∷ cs) G e
      (λ q _ e₂. two-on F ns cs G q t.second k 5 t.third k 5 (λ a b. record { role = t.first; source = a; target = b }) e₂ on)

  -- ---- a section: its count, then so many entries
  module _ {A : Type 0} (kind : Kind) (n k : ℕ) (one : ℕ → ℕ → Read A) (value : Triple → A) (entry-on : EntryOn kind n k one value) where
    several-on : (ts : List Triple) (F : List A → ℕ → Read Sheet) (ns : List ℕ) (cs : List Check) (G : ℕ → Read Sheet) (i p : ℕ)
        → Rest p (each (entry_numbers kind) ts ++ ns) → ((q : ℕ) → Rest q ns → F (map value ts) q ≡ first_fault q cs G)
        → then (several_at one i (length ts) p) F ≡ first_fault p (entries_checks (entry_checks kind n k) i ts ++ cs) G
    several-on [] F ns cs G i p e on = on p e
    several-on (t ∷ ts) F ns cs G i p e on =
        then-then (one i p) (λ a q. then (several_at one (suc i) (length ts) q) (λ l r. taken (a ∷ l) r)) F
        ∙ entry-on (λ a q. then (then (several_at one (suc i) (length ts) q) (λ l r. taken (a ∷ l) r)) F)
        (each (entry_numbers kind) ts ++ ns) (entries_checks (entry_checks kind n k) (suc i) ts ++ cs) G i p t
        (e ∙ ap bytes_for (append_assoc (entry_numbers kind t) (each (entry_numbers kind) ts) ns))
        (λ q e₂. then-then (several_at one (suc i) (length ts) q) (λ l r. taken (value t ∷ l) r) F
        ∙ several-on ts (λ l r. F (value t ∷ l) r) ns cs G (suc i) q e₂ on)
        ∙ ap (λ (l : List Check). first_fault p l G) (sym (append_assoc (entry_checks kind n k i t) (entries_checks (entry_checks kind n k) (suc i) ts) cs))

    section-on : (s : Section) (F : List A → ℕ → Read Sheet) (ns : List ℕ) (cs : List Check) (G : ℕ → Read Sheet) (p : ℕ) → Rest p (section_numbers kind s ns)
        → ((q : ℕ) → Rest q ns → F (map value (triples s)) q ≡ first_fault q cs G)
        → then (counted_at bs (most_of kind) one p) F ≡ first_fault p (section_checks kind n k s cs) G
    unfolding section_numbers section_checks
    section-on s F ns cs G p e on =
        then-then (below_at bs (suc (most_of kind)) 3 p) (λ c q. several_at one 0 c q) F
        ∙ number-on p s.count (suc (most_of kind)) 3 (cond (leb s.count most_lines) (each (entry_numbers kind) (triples s) ++ ns) [])
        (λ c q. then (several_at one 0 c q) F) (cond (leb s.count most_lines) (entries_checks (entry_checks kind n k) 0 (triples s) ++ cs) []) G e
        (λ q h e₂.
        let held : leb s.count most_lines ≡ true = le-leb s.count most_lines (omega (arith, most-fits kind)) in
        ap (λ (c : ℕ). then (several_at one 0 c q) F) (sym (triple-count s))
        ∙ several-on (triples s) F ns cs G 0 q (e₂ ∙ ap (λ (b : Bool). bytes_for (cond b (each (entry_numbers kind) (triples s) ++ ns) [])) held) on
        ∙ ap (λ (b : Bool). first_fault q (cond b (entries_checks (entry_checks kind n k) 0 (triples s) ++ cs) []) G) (sym held))

-- ---- the whole form
module _ (f : form.Sheet) where
  abbrev bytes : List ℕ
  bytes = bytes_for (numbers_of f)

  -- `sections_at` section by section, with n lines
  abbrev roles_on : List Line → List Rule → ℕ → List ClassAssertion → ℕ → Read Sheet
  roles_on ls rs k cs u =
      then (counted_at bytes most_roles (role_at bytes k) u) (λ es v. taken (record { lines = ls; rules = rs; individuals = k; classes = cs; roles = es }) v)

  abbrev facts_on : List Line → ℕ → List Rule → ℕ → Read Sheet
  facts_on ls n rs q =
      then (below_at bytes (suc most_individuals) 3 q) (λ k t. then (counted_at bytes most_classes (class_at bytes n k) t) (λ cs u. roles_on ls rs k cs u))

  abbrev rules_on : List Line → ℕ → ℕ → Read Sheet
  rules_on ls n p = then (counted_at bytes most_rules (rule_at bytes n) p) (λ rs q. facts_on ls n rs q)

  -- bytes left over
  abbrev whole : Sheet → ℕ → Read Sheet
  whole s p = elim (ltb p (length bytes)) [ true ↦ refused 6 p | false ↦ taken s p ]

  read-parts : read_sheet bytes ≡ then (then (counted_at bytes most_lines (line_at bytes) 0) (λ ls p. rules_on ls (length ls) p)) whole
  unfolding read_sheet sections_at
  read-parts = refl

  abbrev n : ℕ
  n = f.lines.count

  abbrev k : ℕ
  k = f.individuals

  abbrev L : List Line
  L = map line_of (triples f.lines)

  abbrev R : List Rule
  R = map rule_of (triples f.rules)

  abbrev C : List ClassAssertion
  C = map class_of (triples f.classes)

  -- nothing is left over behind the last number
  at-end : (s : Sheet) (v : ℕ) → Rest bytes v [] → whole s v ≡ taken s v
  unfolding bytes_for
  at-end s v e = rw (le-ltb v (length bytes) (omega (arith, length-drop v bytes, ap length e)), whole) refl

  -- "A form that breaks a limit (or needs a third byte) gets the number a reader would give, with the place that number would have had"
  pub reads-form : read_sheet bytes ≡ form_verdict f
  unfolding numbers_of form_checks form_verdict sheet_of
  reads-form =
      let G : ℕ → Read Sheet = λ p. taken (sheet_of f) p in
      let role_checks : List Check = section_checks Roles n k f.roles [] in
      let class_checks : List Check = section_checks Classes n k f.classes role_checks in
      let fact_checks : List Check = check k (suc most_individuals) 3 ∷ class_checks in
      let role_numbers : List ℕ = section_numbers Roles f.roles [] in
      let class_numbers : List ℕ = section_numbers Classes f.classes role_numbers in
      read-parts
      ∙ then-then (counted_at bytes most_lines (line_at bytes) 0) (λ ls p. rules_on ls (length ls) p) whole
      ∙ section-on bytes Lines n k (line_at bytes) line_of (line_on bytes n k) f.lines (λ ls p. then (rules_on ls (length ls) p) whole)
      (section_numbers Rules f.rules (k ∷ class_numbers)) (section_checks Rules n k f.rules fact_checks) G 0 refl (λ p e₁.
      ap (λ (m : ℕ). then (rules_on L m p) whole) (entry-count line_of f.lines)
      ∙ then-then (counted_at bytes most_rules (rule_at bytes n) p) (λ rs q. facts_on L n rs q) whole
      ∙ section-on bytes Rules n k (rule_at bytes n) rule_of (rule-on bytes n k) f.rules (λ rs q. then (facts_on L n rs q) whole)
      (k ∷ class_numbers) fact_checks G p e₁ (λ q e₂.
      then-then (below_at bytes (suc most_individuals) 3 q) (λ k t. then (counted_at bytes most_classes (class_at bytes n k) t) (λ cs u. roles_on L R k cs u)) whole
      ∙ number-on bytes q k (suc most_individuals) 3 class_numbers
      (λ k t. then (then (counted_at bytes most_classes (class_at bytes n k) t) (λ cs u. roles_on L R k cs u)) whole) class_checks G e₂ (λ t _ e₃.
      then-then (counted_at bytes most_classes (class_at bytes n k) t) (λ cs u. roles_on L R k cs u) whole
      ∙ section-on bytes Classes n k (class_at bytes n k) class_of (class-on bytes n k) f.classes (λ cs u. then (roles_on L R k cs u) whole)
      role_numbers role_checks G t e₃ (λ u e₄.
      then-then (counted_at bytes most_roles (role_at bytes k) u)
      (λ es v. taken (record { lines = L; rules = R; individuals = k; classes = C; roles = es }) v) whole
      ∙ section-on bytes Roles n k (role_at bytes k) role_of (role-on bytes n k) f.roles
      (λ es v. whole (record { lines = L; rules = R; individuals = k; classes = C; roles = es }) v) [] [] G u e₄ (λ v e₅. at-end (sheet_of f) v e₅)))))
