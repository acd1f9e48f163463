-- The form and the sheet: neither loses anything, and what the reader promises settles its answer. Assumes nothing.
use Rattle.std.specs.Prelude.{◌≡◌, get_or, take, replicate, Result, Ok, Err, IfOk, IsOkAnd}
use Rattle.std.proofs.Math.Path.{refl, ap}
use Rattle.std.proofs.Common.{sym, ap₂, ◌∙◌, arith, length-append}
use Rattle.std.proofs.Math.Seq.{take-append_seam}
use mathlib.Core.List.{List, [], ◌∷◌, ◌++◌, map}
use Prim.Native.Nat.{ℕ, zero, suc, ◌-◌, ◌≤◌}
use Rattle.std.proofs.Math.ListN.{length}
use Rattle.std.proofs.lemmas.List.{length-map}
use Rattle.alc.specs.Lists.{from, up_to}
use Rattle.alc.specs.declared.Line.{Line}
use Rattle.alc.specs.declared.Line.TheVariants.{Top as top, Bottom as bottom, Name as name, Not as negation, And as and, Or as or, Some as some, Only as only}
use Rattle.alc.specs.Sheet.{most_lines, most_rules, most_individuals, most_classes, most_roles}
use Rattle.alc.specs.Sheet as theory
use Rattle.alc.specs.Bytes.{taken, read_sheet}
use Rattle.alc.proofs.Theorems.Bytes.{laid-read, faults-of}
use Rattle.sheet.specs.declared.Reason.{Reason}
use Rattle.sheet.specs.declared.Reason.TheVariants.{Cut, BadlyFormed, OverLimit, TooLarge, NotThere, LeftOver, LentBadly, OffSheet}
use Rattle.sheet.specs.declared.Section.{Section}
use Rattle.sheet.specs.declared.Sheet.{Sheet}
use Rattle.sheet.specs.declared.Refusal.{Refusal}
use Rattle.sheet.specs.declared.Entry.{Entry as Triple}
use Rattle.sheet.specs.Form.{reason_number, triple, padded, section_form, triples, line_of, line_triple, rule_of, rule_triple, class_of}
use Rattle.sheet.specs.Form.{class_triple, role_of, role_triple, sheet_of, form_of}
use Rattle.numbers.proofs.Reading.{given}
use Rattle.reader.specs.Promise.{readout_read, ReadPromise}
use Rattle.reader.proofs.Reading.{Counts, sheet-gives}

-- ---- a list by its places
module _ {A : Type 0} where
  from_suc : (f : ℕ → A) (a k : ℕ) → map f (from (suc a) k) ≡ map (λ i. f (suc i)) (from a k)
  from_suc f a zero = refl
  from_suc f a (suc k) = ap (λ (l : List A). f (suc a) ∷ l) (from_suc f (suc a) k)

  by-places : (l : List A) (d : A) (n : ℕ) → n ≤ length l → map (λ i. get_or l i d) (up_to n) ≡ take n l
  by-places l d zero h = refl
  by-places [] d (suc n) h = absurd (omega arith)
  by-places (x ∷ l) d (suc n) h = ap (λ (r : List A). x ∷ r) (from_suc (λ i. get_or (x ∷ l) i d) 0 n ∙ by-places l d n (omega arith))

-- ---- zeros behind a list are what `get_or` says there anyway
get_or-zeros : (n i : ℕ) → ◌≡◌ {A = ℕ} (get_or (replicate n 0) i 0) 0
get_or-zeros zero i = refl
get_or-zeros (suc n) zero = refl
get_or-zeros (suc n) (suc i) = get_or-zeros n i

get_or-behind : (xs : List ℕ) (n i : ℕ) → get_or (xs ++ replicate n 0) i 0 ≡ get_or xs i 0
get_or-behind [] n i = get_or-zeros n i
get_or-behind (x ∷ xs) n zero = refl
get_or-behind (x ∷ xs) n (suc i) = get_or-behind xs n i

-- the entries of a section are the first that it holds
pub triples-front : (s : Section) → s.count ≤ length s.entries → triples s ≡ take s.count s.entries
unfolding triples
triples-front s h = by-places s.entries (triple 0 0 0) s.count h

-- the entries of the form of a section are those that it was made of
pub triples-form : (ts : List Triple) → triples (section_form ts) ≡ ts
unfolding section_form padded
triples-form ts =
    triples-front (section_form ts) (simp length-append (omega arith)) ∙ take-append_seam ts (replicate (most_lines - length ts) (triple 0 0 0))

-- as many entries as the section counts
length_from : (a k : ℕ) → length (from a k) ≡ k
length_from a zero = refl
length_from a (suc k) = ap suc (length_from (suc a) k)

pub entry-count : {A : Type 0} (g : Triple → A) (s : Section) → length (map g (triples s)) ≡ s.count
unfolding triples
entry-count g s = length-map (triples s) g ∙ length-map (up_to s.count) _ ∙ length_from 0 s.count

-- ---- an entry from its numbers and back
module _ {A : Type 0} (f : A → Triple) (g : Triple → A) (back : (a : A) → g (f a) ≡ a) where
  pub map_back : (l : List A) → map g (map f l) ≡ l
  map_back [] = refl
  map_back (a ∷ l) = ap₂ {C = List A} (λ x r. x ∷ r) (back a) (map_back l)

  pub form-back : (l : List A) → map g (triples (section_form (map f l))) ≡ l
  form-back l = ap (map g) (triples-form (map f l)) ∙ map_back l

pub line-back : (l : Line) → line_of (line_triple l) ≡ l
line-back top = refl
line-back bottom = refl
line-back (name a) = refl
line-back (negation i) = refl
line-back (and i j) = refl
line-back (or i j) = refl
line-back (some r i) = refl
line-back (only r i) = refl

-- no sheet is lost in its form
pub sheet-form : (s : theory.Sheet) → sheet_of (form_of s) ≡ s
unfolding sheet_of form_of
sheet-form s = λ i. record {
  lines = form-back line_triple line_of line-back s.lines i;
  rules = form-back rule_triple rule_of (λ r. refl) s.rules i;
  individuals = s.individuals;
  classes = form-back class_triple class_of (λ c. refl) s.classes i;
  roles = form-back role_triple role_of (λ e. refl) s.roles i;
}

-- ---- what is promised settles the answer
-- a reason by its number
reason_of : ℕ → Reason
reason_of zero = Cut
reason_of (suc zero) = Cut
reason_of (suc (suc zero)) = BadlyFormed
reason_of (suc (suc (suc zero))) = OverLimit
reason_of (suc (suc (suc (suc zero)))) = TooLarge
reason_of (suc (suc (suc (suc (suc zero))))) = NotThere
reason_of (suc (suc (suc (suc (suc (suc zero)))))) = LeftOver
reason_of (suc (suc (suc (suc (suc (suc (suc zero))))))) = LentBadly
reason_of (suc (suc (suc (suc (suc (suc (suc (suc k)))))))) = OffSheet

reason-back : (r : Reason) → reason_of (reason_number r) ≡ r
unfolding reason_of
reason-back Cut = refl
reason-back BadlyFormed = refl
reason-back OverLimit = refl
reason-back TooLarge = refl
reason-back NotThere = refl
reason-back LeftOver = refl
reason-back LentBadly = refl
reason-back OffSheet = refl

-- two reasons of one number are one
pub reason-one : (r t : Reason) → reason_number r ≡ reason_number t → r ≡ t
reason-one r t e = sym (reason-back r) ∙ ap reason_of e ∙ reason-back t

-- ---- what reads as alc's reading keeps the promise
module _ (bs : List ℕ) (r : Result Sheet Refusal) (exact : readout_read bs r ≡ read_sheet bs) (tidy : IfOk r (λ f. f ≡ form_of (sheet_of f))) where
  accepted-as : (s : theory.Sheet) (a : Result Sheet Refusal) → readout_read bs a ≡ taken s (length bs) → IsOkAnd a (λ f. sheet_of f ≡ s)
  accepted-as s (Ok f) e = cc
  accepted-as s (Err x) e = cc

  pub read_kept : ReadPromise bs r
  read_kept = record {
    exact = exact;
    tidy = tidy;
    faults = faults-of bs _ (λ n p _. ((λ e. sym exact ∙ e), λ e. exact ∙ e));
    accepted = λ s h. accepted-as s r (exact ∙ laid-read bs s h);
  }

-- two answers that keep the promise are one
pub read_one : (bs : List ℕ) (r t : Result Sheet Refusal) → ReadPromise bs r → ReadPromise bs t → r ≡ t
read_one bs (Ok f) (Ok g) p q =
    let e : sheet_of f ≡ sheet_of g = let same = p.exact ∙ sym q.exact in cc in
    ap {B = Result Sheet Refusal} Ok (p.tidy ∙ ap form_of e ∙ sym q.tidy)
read_one bs (Ok f) (Err y) p q = let same = p.exact ∙ sym q.exact in cc
read_one bs (Err x) (Ok g) p q = let same = p.exact ∙ sym q.exact in cc
read_one bs (Err x) (Err y) p q =
    let same = p.exact ∙ sym q.exact in
    let n : reason_number x.why ≡ reason_number y.why = cc in
    let m : x.at ≡ y.at = cc in
    let w = reason-one x.why y.why n in
    λ i. Err (record { why = w i; at = m i })

-- ---- the counts of the form that the reader gives: within the limits, so within the arrays
pub record FormCounts (s : Sheet) : Type 0 where
  pub lines : s.lines.count ≤ most_lines
  pub rules : s.rules.count ≤ most_rules
  pub individuals : s.individuals ≤ most_individuals
  pub classes : s.classes.count ≤ most_classes
  pub roles : s.roles.count ≤ most_roles

form-counts : (s : Sheet) → Counts (sheet_of s) → FormCounts s
unfolding sheet_of
form-counts s c = record {
  lines = omega (arith, entry-count line_of s.lines, c.lines);
  rules = omega (arith, entry-count rule_of s.rules, c.rules);
  individuals = c.individuals;
  classes = omega (arith, entry-count class_of s.classes, c.classes);
  roles = omega (arith, entry-count role_of s.roles, c.roles);
}

pub read-counts : (bs : List ℕ) (r : Result Sheet Refusal) → ReadPromise bs r → (s : Sheet) → r ≡ Ok s → FormCounts s
read-counts bs r p s e = form-counts s (given (sheet-gives bs) (sym p.exact ∙ ap (readout_read bs) e))
