-- There and back: a form that is written is read as the sheet that it says, and writing what was read gives the same bytes. Assumes nothing.
use Rattle.std.specs.Prelude.{ℕ, ◌+◌, ◌≤◌, Bool, true, false, cond, ◌≡◌, refl, take, drop, ltb, Ok}
use Rattle.std.proofs.Common.{sym, ◌∙◌, ap, arith, le-leb}
use Rattle.std.proofs.Math.Path.{ap₂}
use mathlib.Core.List.{List, [], ◌∷◌, ◌++◌, map, append_assoc, append-nil}
use Rattle.std.proofs.Math.ListN.{length, length-map}
use Rattle.alc.specs.Lists.{each}
use Rattle.alc.specs.declared.Line.{Line}
use Rattle.alc.specs.declared.Line.TheVariants.{Top as top, Bottom as bottom, Name as name, Not as negation, And as and, Or as or, Some as some, Only as only}
use Rattle.alc.specs.Sheet.{most_lines, count}
use Rattle.alc.specs.Sheet as theory
use Rattle.alc.specs.Bytes.{Read, refused, taken, read_sheet, bytes_of, line_bytes, rule_bytes, class_bytes, role_bytes}
use Rattle.alc.specs.Writing.{groups, bytes_for, Wrote, write_reply, WritePromise}
use Rattle.alc.proofs.Theorems.Writing.{writes-back, written_back}
use Rattle.sheet.specs.declared.Kind.{Kind}
use Rattle.sheet.specs.declared.Kind.TheVariants.{Lines, Rules, Classes, Roles}
use Rattle.sheet.specs.declared.Section.{Section}
use Rattle.sheet.specs.declared.Sheet.{Sheet}
use Rattle.sheet.specs.declared.Entry.{Entry as Triple}
use Rattle.sheet.specs.Form.{triples, section_form, entry_numbers, section_numbers, numbers_of, line_triple, rule_triple, class_triple, role_triple}
use Rattle.sheet.specs.Form.{sheet_of, form_of}
use Rattle.numbers.proofs.Reading.{given}
use Rattle.reader.specs.Promise.{ReadPromise}
use Rattle.reader.proofs.Reading.{Counts, sheet-gives}
use Rattle.reader.proofs.Theorems.{triples-form}
use Rattle.writer.specs.Checks.{Check, form_checks, first_fault, form_verdict}
use Rattle.writer.specs.Promise.{FormPromise}
use Rattle.writer.proofs.Theorems.{reads-form}

-- ---- what is read from a form's numbers
-- where no check fails, what is said behind them is said
module _ {A : Type 0} (a s : A) (q : ℕ) where
  by_tests : (p why : ℕ) (b c : Bool) (r : Read A) → (r ≡ taken s q → s ≡ a)
      → elim b as (λ _. Read A) [ false ↦ refused 2 p | true ↦ elim c [ true ↦ r | false ↦ refused why p ] ] ≡ taken s q → s ≡ a
  by_tests p why false c r k e = absurd (let z : ◌≡◌ {A = ℕ} 0 1 = cc in omega arith)
  by_tests p why true true r k e = k e
  by_tests p why true false r k e = absurd (let z : ◌≡◌ {A = ℕ} 0 1 = cc in omega arith)

  said : (p : ℕ) (cs : List Check) → first_fault p cs (λ r. taken a r) ≡ taken s q → s ≡ a
  said p [] e = cc
  said p (c ∷ cs) e =
      let next : ℕ = p + length (groups c.value) in
      by_tests p c.why (ltb c.value 16384) (ltb c.value c.below) (first_fault next cs (λ r. taken a r)) (said next cs) e

-- a form whose numbers the reader takes is read as the sheet that it says
pub form-read : (f : Sheet) (s : theory.Sheet) (p : ℕ) → read_sheet (bytes_for (numbers_of f)) ≡ taken s p → s ≡ sheet_of f
unfolding form_verdict
form-read f s p e = said (sheet_of f) s p 0 (form_checks f) (sym (reads-form f) ∙ e)

-- what is promised of the numbers is promised of the form
pub form-promise : (f : Sheet) (buf : List ℕ) (o : Wrote) → WritePromise (numbers_of f) buf o → FormPromise f buf o
form-promise f buf o w = record {
  written = w;
  first-fault = λ n p low high. let (there, back) = w.faults n p low high in (λ h. sym (reads-form f) ∙ there h, λ v. back (reads-form f ∙ v));
  read_back = λ z.
      let (s, same, read) = w.read_back z in
      let bytes : bytes_for (numbers_of f) ≡ take o.carries o.out = ap bytes_for (sym same) ∙ writes-back (take o.carries o.out) s o.carries read in
      read ∙ ap (λ (t : theory.Sheet). taken t o.carries) (form-read f s o.carries (ap read_sheet bytes ∙ read));
}

-- ---- the numbers of a sheet's form are its bytes
-- a section within what a form holds
pub section-entries : (kind : Kind) (s : Section) (more : List ℕ) → s.count ≤ most_lines
    → section_numbers kind s more ≡ s.count ∷ (each (entry_numbers kind) (triples s) ++ more)
unfolding section_numbers
section-entries kind s more h = ap (λ (b : Bool). s.count ∷ cond b (each (entry_numbers kind) (triples s) ++ more) []) (le-leb s.count most_lines h)

module _ {A : Type 0} (kind : Kind) (f : A → Triple) (g : A → List ℕ) (same : (a : A) → entry_numbers kind (f a) ≡ g a) where
  each_same : (l : List A) → each (entry_numbers kind) (map f l) ≡ each g l
  each_same [] = refl
  each_same (a ∷ l) = ap₂ {C = List ℕ} (λ x r. x ++ r) (same a) (each_same l)

  section-bytes : (l : List A) (more : List ℕ) → length l ≤ most_lines → section_numbers kind (section_form (map f l)) more ≡ (length l ∷ each g l) ++ more
  unfolding section_form
  section-bytes l more h =
      let many : length (map f l) ≡ length l = length-map l f in
      section-entries kind (section_form (map f l)) more (omega arith)
      ∙ ap₂ {C = List ℕ} (λ n xs. n ∷ (xs ++ more)) many (ap (each (entry_numbers kind)) (triples-form (map f l)) ∙ each_same l)

line-bytes : (l : Line) → entry_numbers Lines (line_triple l) ≡ line_bytes l
line-bytes top = refl
line-bytes bottom = refl
line-bytes (name a) = refl
line-bytes (negation i) = refl
line-bytes (and i j) = refl
line-bytes (or i j) = refl
line-bytes (some r i) = refl
line-bytes (only r i) = refl

pub form-numbers : (s : theory.Sheet) → Counts s → numbers_of (form_of s) ≡ bytes_of s
unfolding numbers_of form_of bytes_of
form-numbers s c =
    let L : List ℕ = count s ∷ each line_bytes s.lines in
    let R : List ℕ = length s.rules ∷ each rule_bytes s.rules in
    let C : List ℕ = length s.classes ∷ each class_bytes s.classes in
    let E : List ℕ = length s.roles ∷ each role_bytes s.roles in
    section-bytes Lines line_triple line_bytes line-bytes s.lines _ (omega (arith, c.lines))
    ∙ ap (λ (l : List ℕ). L ++ l)
    (section-bytes Rules rule_triple rule_bytes (λ _. refl) s.rules _ (omega (arith, c.rules))
    ∙ ap (λ (l : List ℕ). R ++ (s.individuals ∷ l))
    (section-bytes Classes class_triple class_bytes (λ _. refl) s.classes _ (omega (arith, c.classes))
    ∙ ap (λ (l : List ℕ). C ++ l) (section-bytes Roles role_triple role_bytes (λ _. refl) s.roles [] (omega (arith, c.roles)) ∙ append-nil E)))
    ∙ sym (append_assoc L R ((s.individuals ∷ C) ++ E))
    ∙ sym (append_assoc (L ++ R) (s.individuals ∷ C) E)

-- writing what was read gives the same bytes
pub written-again : (bs buf : List ℕ) (f : Sheet) → ReadPromise bs (Ok f) → length bs ≤ length buf
    → write_reply (numbers_of f) buf ≡ record { number = 0; carries = length bs; out = bs ++ drop (length bs) buf }
written-again bs buf f p h =
    let s : theory.Sheet = sheet_of f in
    let read : read_sheet bs ≡ taken s (length bs) = sym p.exact in
    ap (λ (l : List ℕ). write_reply l buf) (ap numbers_of p.tidy ∙ form-numbers s (given (sheet-gives bs) read))
    ∙ written_back bs s (length bs) buf read h
