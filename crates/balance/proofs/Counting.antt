-- Counting the some and only lines of a form, and the bound e·2^(e-1) as the code computes it. Assumes nothing.
use Rattle.std.specs.Prelude.{◌≡◌, refl, Bool, true, false, cond, List, [], ◌∷◌, map, length, get_or, take, count_by}
use Rattle.std.proofs.Common.{sym, ap, ◌∙◌, zero-add, arith}
use Rattle.std.proofs.lemmas.List.{take_all}
use Rattle.std.proofs.lemmas.List.Sums.{sum_by-cons}
use Prim.Native.Nat.{ℕ, zero, suc, ◌+◌, ◌-◌, ◌*◌, ◌%◌, ◌^◌, ◌≤◌, ◌<◌}
use native.Mathlib.Nat.{mul-le-mul, one-mul}
use lib.ListN.{get_or-map}
use lib.Pow.{pow_mono, shl_exact}
use Rattle.alc.specs.Lists.{filter, from, up_to}
use Rattle.alc.specs.declared.Line.TheVariants.{Top as top}
use Rattle.alc.specs.Sheet.{line}
use Rattle.alc.specs.Seeds.{is_quantified, quantified, quantifiers}
use Rattle.sheet.specs.declared.Section.{Section}
use Rattle.sheet.specs.declared.Sheet.{Sheet}
use Rattle.sheet.specs.Form.{triple, triples, entry_of, line_of, sheet_of}
use Rattle.reader.proofs.Theorems.{entry-count}

-- ---- those of the first n that pass, by their places and one by one; behind its end a list holds what does not pass
module _ {A : Type 0} (p : A → Bool) (d : A) (no : p d ≡ false) where
  pub by-places : (q : ℕ → Bool) (l : List A) (n a : ℕ) → ((i : ℕ) → i < n → q (a + i) ≡ p (get_or l i d))
      → length (filter q (from a n)) ≡ count_by p (take n l)
  by-places q l zero a h = refl
  by-places q [] (suc n) a h =
      let first : q a ≡ false = ap q (omega arith) ∙ h 0 (omega arith) ∙ no in
      rw (first, filter) (by-places q [] n (suc a) (λ i k. ap q (omega arith) ∙ h (suc i) (omega arith)) ∙ ap (count_by p) (take_all n [] (omega arith)))
  by-places q (x ∷ l) (suc n) a h =
      let first : q a ≡ p x = ap q (omega arith) ∙ h 0 (omega arith) in
      let rest : length (filter q (from (suc a) n)) ≡ count_by p (take n l) = by-places q l n (suc a) (λ i k. ap q (omega arith) ∙ h (suc i) (omega arith)) in
      rw (sum_by-cons (λ x. cond (p x) 1 0) x (take n l), first, filter) (one (p x) _ _ rest)
    where
      one : (b : Bool) (r : List ℕ) (c : ℕ) → length r ≡ c → length (elim b as (λ _. List ℕ) [ true ↦ a ∷ r | false ↦ r ]) ≡ cond b 1 0 + c
      one true r c e = omega (arith, e)
      one false r c e = omega (arith, e)

module _ {A : Type 0} (f : ℕ → A) (d : A) where
  get_or-from : (a n i : ℕ) → i < n → get_or (map f (from a n)) i d ≡ f (a + i)
  get_or-from a zero i h = absurd (omega arith)
  get_or-from a (suc n) zero h = ap f (omega arith)
  get_or-from a (suc n) (suc i) h = get_or-from (suc a) n i (omega arith) ∙ ap f (omega arith)

line_at : (s : Section) (i : ℕ) → i < s.count → get_or (map line_of (triples s)) i top ≡ line_of (entry_of s i)
unfolding triples
line_at s i h =
    get_or-map line_of (triples s) i (triple 0 0 0) ∙ ap line_of (get_or-from (entry_of s) (triple 0 0 0) 0 s.count i h ∙ ap (entry_of s) (zero-add i))

-- the lines that the code counts are those of the sheet
pub by_entries : (s : Sheet) → count_by (λ e. is_quantified (line_of e)) (take s.lines.count s.lines.entries) ≡ quantifiers (sheet_of s)
unfolding quantified sheet_of
by_entries s =
    sym (ap (λ n. length (filter (λ i. is_quantified (line (sheet_of s) i)) (up_to n))) (entry-count line_of s.lines)
    ∙ by-places (λ e. is_quantified (line_of e)) (triple 0 0 0) refl (λ i. is_quantified (line (sheet_of s) i)) s.lines.entries s.lines.count 0
    (λ i k. ap (λ j. is_quantified (line (sheet_of s) j)) (zero-add i) ∙ ap is_quantified (line_at s.lines i k)))

-- ---- e·2^(e-1) for at most 32 lines, and as the code has it
pub worst-le : (e : ℕ) → e ≤ 32 → e * 2 ^ (e - 1) ≤ 68719476736
worst-le e h = mul-le-mul {n₂ = 32} {m₂ = 2 ^ 31} h (pow_mono {i = e - 1} {j = 31} (omega arith))

pub as_code : (e : ℕ) → e ≤ 32 → e * ((1 * 2 ^ (e - 1)) % 2 ^ 64) ≡ e * 2 ^ (e - 1)
as_code e h = ap (λ (n : ℕ). e * n) (shl_exact 1 (e - 1) 64 (omega arith) (omega arith) ∙ one-mul (2 ^ (e - 1)))
