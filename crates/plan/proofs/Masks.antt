-- The sets of a plan: what is told of the entries of a form is told of the lines of its sheet; a group has another line where the line shares its name.
use Rattle.std.specs.Prelude.{ℕ, ◌*◌, ◌%◌, ◌^◌, ◌≤◌, ◌<◌, Bool, false, not as flip, ◌&&◌, ◌≡◌, List, get_or, eqb, ltb}
use Rattle.std.proofs.Common.{sym, ◌∙◌, ap, ⊎_elim, arith, eq-eqb, ne_eqb}
use Rattle.std.proofs.Math.Decide.{dec_lt}
use Rattle.std.proofs.Math.ListN.{get_or-eq_default}
use Rattle.std.proofs.lemmas.Bool.{lt-ltb, le-ltb}
use Rattle.std.specs.Int.Bits.{bit_or}
use Rattle.alc.specs.Bits.{bit, put}
use Rattle.alc.specs.declared.Line.{Line}
use Rattle.alc.specs.declared.Line.TheVariants.{Top as top}
use Rattle.alc.specs.Sheet.{Sheet, count, line}
use Rattle.alc.specs.Label.{same_name}
use Rattle.alc.specs.Masks.{shares_name}
use Rattle.alc.proofs.Theorems.Bits.{bit-none, bit-put, bit-put-other}
use Rattle.alc.proofs.Theorems.Lists.{cases, clashing, same?}
use Rattle.alc.proofs.Theorems.Masks.{nameless, shares-intro, shares-elim, shares-inside}
use Rattle.sheet.specs.declared.Sheet.{Sheet as Form}
use Rattle.sheet.specs.Form.{entry_of, line_of, sheet_of}
use Rattle.plan.specs.Prepared.{IsGroup}
use Rattle.plan.proofs.Lines.{line-count, line-is, within, absorbs}
use Rattle.plan.proofs.Told.{own-word, told-test}

-- behind the last line `top` stands in
line-behind : (s : Sheet) (i : ℕ) → count s ≤ i → line s i ≡ top
line-behind s i b = get_or-eq_default s.lines top b

-- a test that `top` does not pass is a test of lines below the count
test-inside : (s : Sheet) (q : Line → Bool) → q top ≡ false → (i : ℕ) → q (line s i) ≡ (ltb i (count s) && q (line s i))
test-inside s q none i =
    elim (dec_lt i (count s)) [
      | yes b ↦ sym (ap (λ (x : Bool). x && q (line s i)) (lt-ltb i (count s) b))
      | no b ↦ ap q (line-behind s i (omega arith)) ∙ none ∙ sym (ap (λ (x : Bool). x && q (line s i)) (le-ltb i (count s) (omega arith)))
    ]

module _ (f : Form) where
  -- a set of the entries that pass is the set of the lines that do
  pub told-inside : (q : Line → Bool) (t : ℕ) → ((i : ℕ) → i < f.lines.count → bit t i ≡ q (line_of (entry_of f.lines i))) → ((i : ℕ) → f.lines.count ≤ i → bit t i ≡ false)
      → (i : ℕ) → bit t i ≡ (ltb i (count (sheet_of f)) && q (line (sheet_of f) i))
  told-inside q t below behind i =
      told-test (count (sheet_of f)) i (bit t i) (q (line (sheet_of f) i))
      (λ b. below i (omega (arith, line-count f)) ∙ sym (ap q (line-is f i b)))
      (λ b. behind i (omega (arith, line-count f)))

  pub told-lines : (q : Line → Bool) → q top ≡ false → (t : ℕ) → ((i : ℕ) → i < f.lines.count → bit t i ≡ q (line_of (entry_of f.lines i)))
      → ((i : ℕ) → f.lines.count ≤ i → bit t i ≡ false) → (i : ℕ) → bit t i ≡ q (line (sheet_of f) i)
  told-lines q none t below behind i = told-inside q t below behind i ∙ sym (test-inside (sheet_of f) q none i)

  -- so is a group
  pub group-is : (i t : ℕ) → i < count (sheet_of f) → IsGroup f.lines i t → (j : ℕ) → bit t j ≡ same_name (line (sheet_of f) i) (line (sheet_of f) j)
  group-is i t b g =
      rw (line-is f i b)
      (told-lines (same_name (line_of (entry_of f.lines i))) (nameless (line_of (entry_of f.lines i))) t
      (λ j c. g j ∙ ap (λ (x : Bool). x && same_name (line_of (entry_of f.lines i)) (line_of (entry_of f.lines j))) (lt-ltb j f.lines.count c))
      (λ j c. g j ∙ ap (λ (x : Bool). x && same_name (line_of (entry_of f.lines i)) (line_of (entry_of f.lines j))) (le-ltb j f.lines.count c)))

-- the machine's test of a group, and of all lines
module _ (s : Sheet) (few : count s ≤ 32) (groups : List ℕ) (is : (i j : ℕ) → i < count s → bit (get_or groups i 0) j ≡ same_name (line s i) (line s j)) where
  abbrev pub shares_at : ℕ → Bool
  shares_at i = flip (eqb (bit_or (1 * 2 ^ i % 2 ^ 32) (get_or groups i 0)) (1 * 2 ^ i % 2 ^ 32))

  shares-is : (i : ℕ) → i < count s → shares_at i ≡ shares_name s i
  shares-is i b =
      rw (own-word i (omega arith))
      (⊎_elim
      (λ e.
      let (k, ne, same) = shares-elim s i e in
      ap flip (ne_eqb (bit_or (put 0 i) (get_or groups i 0)) (put 0 i) (λ a.
      clashing (bit (put 0 i) k) (within (put 0 i) (get_or groups i 0) (eq-eqb _ _ a) k (is i k b ∙ same)) (bit-put-other 0 i k ne ∙ bit-none k)))
      ∙ sym e)
      (λ e. ap flip (absorbs (put 0 i) (get_or groups i 0) (λ k m.
      ⊎_elim
      (λ (q : i ≡ k). rw (← q) (bit-put 0 i))
      (λ q. clashing (shares_name s i) (shares-intro s i k q (sym (is i k b) ∙ m)) e)
      (same? i k)))
      ∙ sym e)
      (cases (shares_name s i)))

  pub told-shares : (t : ℕ) → ((i : ℕ) → i < count s → bit t i ≡ shares_at i) → ((i : ℕ) → count s ≤ i → bit t i ≡ false) → (i : ℕ) → bit t i ≡ shares_name s i
  told-shares t below behind i =
      elim (dec_lt i (count s)) [
        | yes b ↦ below i b ∙ shares-is i b
        | no b ↦ behind i (omega arith) ∙ ⊎_elim (λ e. absurd (omega (arith, shares-inside s i e))) (λ e. sym e) (cases (shares_name s i))
      ]
