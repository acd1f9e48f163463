-- The numbers of a section, and of what stands behind it. Assumes nothing.
use Rattle.std.proofs.Common.{◌≡◌, ℕ, ◌+◌, ◌≤◌, ◌<◌, List, [], ◌∷◌, ◌++◌, length, get_or, take, refl, ap, sym, ◌∙◌, append_assoc, append-nil}
use Rattle.std.proofs.lemmas.List.{take_more}
use borrow.Author.Tests.{lt-leb}
use Rattle.alc.specs.Lists.{each}
use Rattle.alc.specs.Sheet.{most_lines}
use Rattle.alc.proofs.Theorems.Lists.{each_append}
use Rattle.sheet.specs.declared.Kind.{Kind}
use Rattle.sheet.specs.declared.Section.{Section}
use Rattle.sheet.specs.declared.Entry.{Entry as Triple}
use Rattle.sheet.specs.Form.{triple, triples, entry_numbers, section_numbers}
use Rattle.writer.proofs.Back.{section-entries}

-- one entry more
pub entries-more : (kind : Kind) (ts : List Triple) (i : ℕ) → i < length ts
    → each (entry_numbers kind) (take (i + 1) ts) ≡ each (entry_numbers kind) (take i ts) ++ entry_numbers kind (get_or ts i (triple 0 0 0))
entries-more kind ts i h = rw (take_more ts i (triple 0 0 0) h, each_append (entry_numbers kind), append-nil) refl

-- ---- a section, and what stands behind it
module _ (kind : Kind) (s : Section) where
  -- a count that no form can hold: nothing stands behind it
  pub section-stops : most_lines < s.count → (more : List ℕ) → section_numbers kind s more ≡ s.count ∷ []
  unfolding section_numbers
  section-stops h more = rw (lt-leb s.count most_lines h) refl

  -- a count that a form can hold, and so many entries
  pub section-whole : s.count ≤ most_lines → section_numbers kind s [] ≡ (s.count ∷ []) ++ each (entry_numbers kind) (triples s)
  section-whole h = section-entries kind s [] h ∙ ap (λ (l : List ℕ). s.count ∷ l) (append-nil (each (entry_numbers kind) (triples s)))

  module _ (old now more : List ℕ) (laid : now ≡ old ++ section_numbers kind s []) where
    pub section-last : most_lines < s.count → old ++ section_numbers kind s more ≡ now
    section-last h = ap (λ (l : List ℕ). old ++ l) (section-stops h more ∙ sym (section-stops h [])) ∙ sym laid

    pub section-goes-on : s.count ≤ most_lines → old ++ section_numbers kind s more ≡ now ++ more
    section-goes-on h =
        let entries : List ℕ = each (entry_numbers kind) (triples s) in
        rw (laid, section-whole h, section-entries kind s more h) (sym (append_assoc old (s.count ∷ entries) more))

-- a number, and what stands behind it
pub number-goes-on : (old now : List ℕ) (n : ℕ) (more : List ℕ) → now ≡ old ++ n ∷ [] → old ++ n ∷ more ≡ now ++ more
number-goes-on old now n more e = rw e (sym (append_assoc old (n ∷ []) more))
