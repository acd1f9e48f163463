-- A plan with some of its rules: what the loop that moves them to the front keeps, and that the plan is prepared as before.
use Rattle.std.specs.Prelude.{ℕ, zero, suc, ◌+◌, ◌-◌, ◌≤◌, ◌<◌, Bool, true, false, ◌&&◌, cond, ◌≡◌, refl, List, [], ◌∷◌, ◌++◌, map, length, get_or, set, ltb}
use Rattle.std.proofs.Common.{sym, ◌∙◌, ap, ap₂, arith, length-append, length-set, append-nil}
use Rattle.std.proofs.Math.Decide.{dec_lt}
use Rattle.std.proofs.Math.ListN.{get_or-eq_default}
use Rattle.std.proofs.Math.Seq.{get_or-set_same, get_or-set_other, set_out}
use Rattle.std.proofs.lemmas.Bool.{ltb-true, lt-ltb}
use Rattle.std.proofs.lemmas.Simd.{map-map}
use Rattle.alc.specs.Bits.{bit}
use Rattle.alc.specs.Lists.{from, up_to}
use Rattle.alc.specs.declared.Masks.{Masks}
use Rattle.alc.specs.declared.Rule.{Rule}
use Rattle.alc.specs.Sheet.{Sheet, count, well_formed, lines_well, rules_well, classes_well, roles_well, in_limits, most_rules}
use Rattle.alc.specs.Causes.{keep_rules, with_rules}
use Rattle.alc.proofs.Theorems.Lists.{and_left, and_right, and_both, all-intro, map_same}
use Rattle.alc.proofs.Theorems.Masks.{masks-moved}
use Rattle.alc.proofs.Theorems.Sheet.{well-formed}
use Rattle.alc.proofs.Theorems.Causes.{kept-well-formed}
use Rattle.sheet.specs.declared.Entry.{Entry as Triple}
use Rattle.sheet.specs.declared.Section.{Section}
use Rattle.sheet.specs.declared.Sheet.{Sheet as Form}
use Rattle.sheet.specs.Form.{triple, entry_of, triples, rule_of, sheet_of}
use Rattle.plan.specs.Prepared.{Prepared}

-- ---- ranges
-- what stands first behind a range is its next
map_next : {A : Type 0} (f : ℕ → A) (a k : ℕ) (xs : List A) → map f (from a k) ++ (f (a + k) ∷ xs) ≡ map f (from a (suc k)) ++ xs
map_next f a zero xs = let e : a + 0 ≡ a = omega arith in rw e refl
map_next {A} f a (suc k) xs = let e : a + suc k ≡ suc a + k = omega arith in rw e (ap (λ (ys : List A). f a ∷ ys) (map_next f (suc a) k xs))

-- ---- the sheet with some of its rules
one-or-none : (b : Bool) (r : Rule) → length (cond b (r ∷ []) []) ≤ 1
one-or-none true r = omega arith
one-or-none false r = omega arith

-- they are no more than before
kept-length : (n i : ℕ) (rs : List Rule) → length (keep_rules n i rs) ≤ length rs
kept-length n i [] = omega arith
kept-length n i (r ∷ rs) =
    let kept = keep_rules n (suc i) rs in
    omega (arith, length-append (cond (bit n i) (r ∷ []) []) kept, one-or-none (bit n i) r, kept-length n (suc i) rs)

module _ (s : Sheet) (n : ℕ) where
  -- the sheet is well-formed still
  kept-well : well_formed s ≡ true → well_formed (with_rules s n) ≡ true
  unfolding lines_well rules_well classes_well roles_well
  kept-well e =
      let wf = kept-well-formed s (well-formed s e) n in
      let few : rules_well (with_rules s n) ≡ true =
      all-intro (λ (r : Rule). ltb r.sub (count s) && ltb r.sup (count s)) (keep_rules n 0 s.rules) (λ r m.
      let (a, b) = wf.rules r m in
      and_both (ltb r.sub (count s)) (ltb r.sup (count s)) (lt-ltb r.sub (count s) a) (lt-ltb r.sup (count s) b)) in
      let many : rules_well s ≡ true = search (and_left, and_right) in
      let same : rules_well (with_rules s n) ≡ rules_well s = few ∙ sym many in
      ap (λ (t : Bool). lines_well s && t && classes_well s && roles_well s) same ∙ e

  -- and within the limits
  kept-limited : in_limits s ≡ true → in_limits (with_rules s n) ≡ true
  unfolding in_limits
  kept-limited e =
      let many : ltb (length s.rules) (suc most_rules) ≡ true = search (and_left, and_right) in
      let few : ltb (length (keep_rules n 0 s.rules)) (suc most_rules) ≡ true =
      lt-ltb (length (keep_rules n 0 s.rules)) (suc most_rules) (omega (arith, ltb-true (length s.rules) (suc most_rules) many, kept-length n 0 s.rules)) in
      let same : ltb (length (keep_rules n 0 s.rules)) (suc most_rules) ≡ ltb (length s.rules) (suc most_rules) = few ∙ sym many in
      rw same e

-- ---- the loop
-- rule i of a section
abbrev rule_at : Section → ℕ → Rule
rule_at p i = rule_of (entry_of p i)

rules-are : (p : Section) → map rule_of (triples p) ≡ map (rule_at p) (up_to p.count)
unfolding triples
rules-are p = map-map rule_of (entry_of p) (up_to p.count)

-- of the rules below i those in n stand in front
pub record KeptTo (p : Section) (n i kept : ℕ) (q : Section) : Type 0 where
  pub fewer : kept ≤ i
  pub size : length q.entries ≡ length p.entries
  pub whole : map (rule_at q) (up_to kept) ++ keep_rules n i (map (rule_at p) (from i (p.count - i))) ≡ keep_rules n 0 (map rule_of (triples p))

-- before the first turn
pub begin : (p : Section) (n : ℕ) → KeptTo p n 0 0 p
begin p n = record {
  fewer = omega arith;
  size = refl;
  whole = let e : p.count - 0 ≡ p.count = omega arith in rw (e, rules-are p) refl;
}

-- an entry that is stored stands there, also where the list is too short for it: then it is no entry, and 0 stands in
stored : (xs ys : List Triple) (i kept : ℕ) → length ys ≡ length xs → kept ≤ i → get_or (set ys kept (get_or xs i (triple 0 0 0))) kept (triple 0 0 0) ≡ get_or xs i (triple 0 0 0)
stored xs ys i kept size fewer =
    elim (dec_lt kept (length ys)) [
      | yes b ↦ get_or-set_same ys kept (get_or xs i (triple 0 0 0)) (triple 0 0 0) b
      | no b ↦ ap (λ (l : List Triple). get_or l kept (triple 0 0 0)) (set_out ys kept (get_or xs i (triple 0 0 0)) (omega arith))
          ∙ get_or-eq_default ys (triple 0 0 0) (omega arith) ∙ sym (get_or-eq_default xs (triple 0 0 0) (omega (arith, size)))
    ]

module _ {p : Section} {n i kept : ℕ} {q : Section} (t : KeptTo p n i kept q) (turn : i < p.count) where
  -- what is left of the rules begins with rule i
  left : keep_rules n i (map (rule_at p) (from i (p.count - i))) ≡ cond (bit n i) (rule_at p i ∷ []) [] ++ keep_rules n (i + 1) (map (rule_at p) (from (i + 1) (p.count - (i + 1))))
  left =
      let e : p.count - i ≡ suc (p.count - (i + 1)) = omega arith in
      let f : suc i ≡ i + 1 = omega arith in
      ap (λ (k : ℕ). keep_rules n i (map (rule_at p) (from i k))) e
      ∙ ap (λ (k : ℕ). cond (bit n i) (rule_at p i ∷ []) [] ++ keep_rules n k (map (rule_at p) (from k (p.count - (i + 1))))) f

  -- a rule that is not in the set
  pub passed : bit n i ≡ false → KeptTo p n (i + 1) kept q
  passed e = record {
    fewer = omega (arith, t.fewer);
    size = t.size;
    whole = ap (λ (rs : List Rule). map (rule_at q) (up_to kept) ++ rs) (sym (left ∙ rw e refl)) ∙ t.whole;
  }

  -- a rule that is in it goes behind those that stand in front
  pub taken : (k : ℕ) → bit n i ≡ true → KeptTo p n (i + 1) (kept + 1) (record { entries = set q.entries kept (entry_of p i); count = k })
  taken k e =
      let r : Section = record { entries = set q.entries kept (entry_of p i); count = k } in
      let new : rule_at r (0 + kept) ≡ rule_at p i =
      let z : 0 + kept ≡ kept = omega arith in rw z (ap rule_of (stored p.entries q.entries i kept t.size t.fewer)) in
      let old : map (rule_at r) (up_to kept) ≡ map (rule_at q) (up_to kept) =
      map_same (rule_at r) (rule_at q) 0 kept (λ j l. ap rule_of (get_or-set_other q.entries kept j (entry_of p i) (triple 0 0 0) (λ g. omega arith))) in
      let rest : List Rule = keep_rules n (i + 1) (map (rule_at p) (from (i + 1) (p.count - (i + 1)))) in
      record {
        fewer = omega (arith, t.fewer);
        size = length-set q.entries kept (entry_of p i) ∙ t.size;
        whole =
            let f : kept + 1 ≡ suc kept = omega arith in
            ap (λ (j : ℕ). map (rule_at r) (up_to j) ++ rest) f
            ∙ sym (map_next (rule_at r) 0 kept rest)
            ∙ ap₂ (λ (rs : List Rule) (x : Rule). rs ++ (x ∷ rest)) old new
            ∙ ap (λ (rs : List Rule). map (rule_at q) (up_to kept) ++ rs) (sym (left ∙ rw e refl))
            ∙ t.whole;
      }

-- at the end their count is written
pub finished : {p : Section} {n i kept : ℕ} {q : Section} → KeptTo p n i kept q → p.count ≤ i → map rule_of (triples (record { entries = q.entries; count = kept })) ≡ keep_rules n 0 (map rule_of (triples p))
finished {p} {n} {i} {kept} {q} t end =
    let none : p.count - i ≡ 0 = omega arith in
    rules-are (record { entries = q.entries; count = kept })
    ∙ sym (append-nil (map (rule_at q) (up_to kept)))
    ∙ ap (λ (k : ℕ). map (rule_at q) (up_to kept) ++ keep_rules n i (map (rule_at p) (from i k))) (sym none)
    ∙ t.whole

-- ---- the plan
-- a form with other rules
abbrev pub with_section : Form → Section → Form
with_section f q = record { lines = f.lines; rules = q; individuals = f.individuals; classes = f.classes; roles = f.roles }

module _ (f : Form) (n : ℕ) (q : Section) (is : map rule_of (triples q) ≡ keep_rules n 0 (map rule_of (triples f.rules))) where
  pub sheet-kept : sheet_of (with_section f q) ≡ with_rules (sheet_of f) n
  unfolding sheet_of
  sheet-kept = λ x. record { lines = (sheet_of f).lines; rules = is x; individuals = f.individuals; classes = (sheet_of f).classes; roles = (sheet_of f).roles }

  -- what is prepared speaks of the lines alone, and these stay
  pub prepared-kept : {working asking : ℕ} {operands : List ℕ} {m : Masks} → Prepared f working asking operands m → Prepared (with_section f q) working asking operands m
  prepared-kept {m = m} h = record {
    well = rw sheet-kept (kept-well (sheet_of f) n h.well);
    limited = rw sheet-kept (kept-limited (sheet_of f) n h.limited);
    working = λ k. rw sheet-kept (h.working k);
    asking = λ k. rw sheet-kept (h.asking k);
    operands = λ k b. rw sheet-kept (h.operands k (rw sheet-kept at b));
    masks = masks-moved (sheet_of (with_section f q)) m h.masks (ap (λ (x : Sheet). x.lines) sheet-kept) record { lines = refl; bottoms = refl; tops = refl; shared = refl; groups = λ i. refl };
  }
