-- The whole sheet in the reader's own words: sections of forms, one behind the other. Assumes nothing.
use Rattle.std.specs.Prelude.{◌≡◌, refl, Bool, true, false, List, map, length, ltb, Result, Ok, Err}
use Rattle.std.proofs.Common.{sym, ap, ap₂, ◌∙◌}
use Rattle.std.proofs.lemmas.List.{length-map}
use Prim.Native.Nat.{ℕ}
use Rattle.alc.specs.Sheet as theory
use Rattle.alc.specs.Sheet.{most_lines, most_rules, most_classes, most_roles}
use Rattle.alc.specs.Bytes.{Read, refused, taken, then, below_at, line_at, rule_at, class_at, role_at, counted_at, sections_at, read_sheet}
use Rattle.alc.proofs.Theorems.Bytes.{accepted-is}
use Rattle.sheet.specs.declared.Refusal.{Refusal}
use Rattle.sheet.specs.declared.Sheet.{Sheet}
use Rattle.sheet.specs.declared.Kind.{Kind}
use Rattle.sheet.specs.declared.Kind.TheVariants.{Lines, Rules, Classes, Roles}
use Rattle.sheet.specs.declared.Section.{Section}
use Rattle.sheet.specs.declared.Entry.{Entry as Triple}
use Rattle.sheet.specs.Form.{reason_number, section_form, line_triple, rule_triple, class_triple, role_triple, sheet_of, form_of}
use Rattle.reader.specs.Parts.{reading, section_at, facts_at}
use Rattle.reader.specs.Promise.{ReadPromise}
use Rattle.reader.proofs.Reading.{then-then, counted-map}
use Rattle.reader.proofs.Theorems.{read_kept, sheet-form}

-- no bytes are left over
unfoldable whole : List ℕ → theory.Sheet → ℕ → Read theory.Sheet
whole bs s p = elim (ltb p (length bs)) [ true ↦ refused 6 p | false ↦ taken s p ]

as-whole : (bs : List ℕ) → read_sheet bs ≡ then (sections_at bs) (whole bs)
unfolding read_sheet whole
as-whole bs = refl

whole-then : {B : Type 0} (bs : List ℕ) (s : theory.Sheet) (p : ℕ) (f : theory.Sheet → ℕ → Read B)
    → then (whole bs s p) f ≡ elim (ltb p (length bs)) [ true ↦ refused 6 p | false ↦ f s p ]
unfolding whole
whole-then {B} bs s p f = go (ltb p (length bs))
  where
    go : (b : Bool) → then (elim b [ true ↦ refused 6 p | false ↦ taken s p ]) f ≡ elim b [ true ↦ refused 6 p | false ↦ f s p ]
    go true = refl
    go false = refl

-- a section as the code reads it: the numbers of its entries, with zeros behind them
unfoldable pub form_at : Kind → List ℕ → ℕ → ℕ → ℕ → Read Section
form_at kind bs n k p = reading section_form (section_at kind bs n k p)

module _ {A : Type 0} (bs : List ℕ) (m : ℕ) (f : A → Triple) (one : ℕ → ℕ → Read A) (p : ℕ) where
  form-map : reading section_form (counted_at bs m (λ i p. reading f (one i p)) p) ≡ reading (λ l. section_form (map f l)) (counted_at bs m one p)
  form-map = rw (counted-map f bs m one p) (then-then (counted_at bs m one p) _ _)

module _ (bs : List ℕ) (n k p : ℕ) where
  lines-form : form_at Lines bs n k p ≡ reading (λ l. section_form (map line_triple l)) (counted_at bs most_lines (line_at bs) p)
  unfolding form_at section_at
  lines-form = form-map bs most_lines line_triple (line_at bs) p

  rules-form : form_at Rules bs n k p ≡ reading (λ l. section_form (map rule_triple l)) (counted_at bs most_rules (rule_at bs n) p)
  unfolding form_at section_at
  rules-form = form-map bs most_rules rule_triple (rule_at bs n) p

  classes-form : form_at Classes bs n k p ≡ reading (λ l. section_form (map class_triple l)) (counted_at bs most_classes (class_at bs n k) p)
  unfolding form_at section_at
  classes-form = form-map bs most_classes class_triple (class_at bs n k) p

  roles-form : form_at Roles bs n k p ≡ reading (λ l. section_form (map role_triple l)) (counted_at bs most_roles (role_at bs k) p)
  unfolding form_at section_at
  roles-form = form-map bs most_roles role_triple (role_at bs k) p

-- a sheet is its lines, its rules, and the facts behind them
pub by-facts : (bs : List ℕ)
    → read_sheet bs ≡ then (counted_at bs most_lines (line_at bs) 0) (λ ls p. then (counted_at bs most_rules (rule_at bs (length ls)) p) (λ rs q. facts_at bs ls rs q))
unfolding read_sheet sections_at facts_at
by-facts bs = simp then-then

-- the form of a sheet is its sections' forms
pub by_sections : (bs : List ℕ) → reading form_of (read_sheet bs)
    ≡ then (form_at Lines bs 0 0 0) (λ lines p.
    then (form_at Rules bs lines.count 0 p) (λ rules q.
    then (below_at bs 9 3 q) (λ k t.
    then (form_at Classes bs lines.count k t) (λ classes u.
    then (form_at Roles bs lines.count k u) (λ roles v.
    elim (ltb v (length bs)) [ true ↦ refused 6 v | false ↦ taken (record { lines = lines; rules = rules; individuals = k; classes = classes; roles = roles }) v ])))))
unfolding sections_at section_form form_of
by_sections bs = simp (as-whole, whole-then, lines-form, rules-form, classes-form, roles-form, then-then, length-map)

-- ---- an answer that reads as this keeps the promise
abbrev pub form_read : Result Sheet Refusal → ℕ → Read Sheet
form_read (Ok f) v = taken f v
form_read (Err e) v = refused (reason_number e.why) e.at

module _ (bs : List ℕ) where
  by-read : (r : Result Sheet Refusal) (v : ℕ) (w : Read theory.Sheet) → read_sheet bs ≡ w → form_read r v ≡ reading form_of w → ReadPromise bs r
  by-read (Err e) v (refused n p) is h = read_kept bs (Err e) (sym (is ∙ (cc))) tt
  by-read (Err e) v (taken s p) is h = cc
  by-read (Ok f) v (refused n p) is h = cc
  by-read (Ok f) v (taken s p) is h =
      let same : f ≡ form_of s = cc in
      let said : sheet_of f ≡ s = ap sheet_of same ∙ sheet-form s in
      let all : p ≡ length bs = ((accepted-is bs s p).0 is).3 in
      read_kept bs (Ok f) (ap₂ {C = Read theory.Sheet} taken said (sym all) ∙ sym is) (same ∙ ap form_of (sym said))

  pub kept : (r : Result Sheet Refusal) (v : ℕ) → form_read r v ≡ reading form_of (read_sheet bs) → ReadPromise bs r
  kept r v h = by-read r v (read_sheet bs) refl h
