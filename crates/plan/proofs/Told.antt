-- Sets of the lines that pass a test, told line after line: what a loop over the lines has put into a set so far.
use Rattle.std.specs.Prelude.{ℕ, ◌+◌, ◌*◌, ◌%◌, ◌^◌, ◌≤◌, ◌<◌, Bool, true, false, ◌&&◌, ◌≡◌, List, length, get_or, set, ltb}
use Rattle.std.proofs.Common.{sym, ◌∙◌, ap, subst, ⊎_elim, arith, one-mul, lit<, shl_exact}
use Rattle.std.proofs.Math.Decide.{dec_lt}
use Rattle.std.proofs.lemmas.Bool.{lt-ltb, le-ltb}
use Rattle.std.proofs.Math.Seq.{get_or-set_same, get_or-set_other}
use Rattle.std.specs.Int.Bits.{bit_or}
use Rattle.alc.specs.Bits.{bit, put}
use Rattle.alc.proofs.Theorems.Bits.{bit-none, bit-put, bit-put-other, put-false, put_word}
use Rattle.alc.proofs.Theorems.Lists.{same?}

-- the set of one line
pub own-word : (i : ℕ) → i < 32 → 1 * 2 ^ i % 2 ^ 32 ≡ put 0 i
own-word i b = shl_exact 1 i 32 (lit< tt) (omega (arith, b)) ∙ one-mul (2 ^ i) ∙ omega (arith, put-false 0 i (bit-none i))

module _ (P : ℕ → Bool → Type 0) where
  -- bit i says P of each line below n; behind them there is none
  abbrev pub Told : ℕ → ℕ → Type 0
  Told n t = (i : ℕ) → (i < n → P i (bit t i)) × (n ≤ i → bit t i ≡ false)

  pub told-none : Told 0 0
  told-none i = (λ b. absurd (omega arith), λ b. bit-none i)

  -- the next passes, and is put in
  pub told-in : (n t : ℕ) → n < 32 → P n true → Told n t → Told (n + 1) (bit_or t (1 * 2 ^ n % 2 ^ 32))
  told-in n t b h told i =
      rw (put_word 32 n t b) (
        λ c. ⊎_elim
            (λ (e : n ≡ i). subst (λ (j : ℕ). P j (bit (put t n) j)) e (subst (P n) (sym (bit-put t n)) h))
            (λ e. subst (P i) (sym (bit-put-other t n i e)) ((told i).0 (omega arith)))
            (same? n i),
        λ c. bit-put-other t n i (λ e. omega arith) ∙ (told i).1 (omega arith),
      )

  -- it does not
  pub told-out : (n t : ℕ) → P n false → Told n t → Told (n + 1) t
  told-out n t h told i = (
    λ c. ⊎_elim
        (λ (e : n ≡ i). subst (λ (j : ℕ). P j (bit t j)) e (subst (P n) (sym ((told n).1 (omega arith))) h))
        (λ e. (told i).0 (omega arith))
        (same? n i),
    λ c. (told i).1 (omega arith),
  )

-- what a test says below n, and nothing behind it, as one test
pub told-test : (n j : ℕ) (b q : Bool) → (j < n → b ≡ q) → (n ≤ j → b ≡ false) → b ≡ (ltb j n && q)
told-test n j b q below behind =
    elim (dec_lt j n) [
      | yes h ↦ below h ∙ sym (ap (λ (x : Bool). x && q) (lt-ltb j n h))
      | no h ↦ behind (omega arith) ∙ sym (ap (λ (x : Bool). x && q) (le-ltb j n (omega arith)))
    ]

-- ---- a row with an entry for each line, filled line after line
module _ (Q : ℕ → ℕ → Type 0) where
  abbrev pub Filled : ℕ → List ℕ → Type 0
  Filled n xs = (i : ℕ) → i < n → Q i (get_or xs i 0)

  pub filled-more : (n x : ℕ) (xs : List ℕ) → n < length xs → Q n x → Filled n xs → Filled (n + 1) (set xs n x)
  filled-more n x xs b h filled i c =
      ⊎_elim
      (λ (e : n ≡ i). subst (λ (j : ℕ). Q j (get_or (set xs n x) j 0)) e (subst (Q n) (sym (get_or-set_same xs n x 0 b)) h))
      (λ e. subst (Q i) (sym (get_or-set_other xs n i x 0 (λ q. e (sym q)))) (filled i (omega arith)))
      (same? n i)
