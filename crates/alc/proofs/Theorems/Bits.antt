-- The laws of sets as numbers: members of a set that another member was put into or taken from, equality by members, the machine's words.
use Rattle.std.specs.Prelude.{ℕ, zero, suc, ◌+◌, ◌-◌, ◌*◌, ◌/◌, ◌%◌, ◌^◌, ◌≤◌, ◌<◌, min, max, Bool, true, false, ◌&&◌, ◌||◌, ◌≡◌, refl, eqb}
use Rattle.std.proofs.Common.{true≢false, sym, ◌∙◌, ap, ap₂, div-one, one-mul, arith, lit<, shl_exact, eqb-true, eq-eqb, ne_eqb, ⊎_elim}
use Rattle.std.proofs.Math.Nat.{div-div-eq-div-mul, pow-succ'}
use Rattle.std.proofs.Math.Decide.{dec_lt}
use Rattle.std.specs.Int.Bits.{bit_or, bit_and, or_step, or_zero_r, and_step}
use Rattle.std.proofs.lemmas.Bool.{eqb-false}
use Rattle.alc.specs.Bits.{bit, put}
use Rattle.alc.proofs.Theorems.Lists.{cases, tests_same, and_left, and_right, and_both, or_left, or_right, or_cases}

pub bit-suc : (s i : ℕ) → bit s (suc i) ≡ bit (s / 2) i
unfolding bit
bit-suc s i = ap (λ (x : ℕ). eqb (x % 2) 1) (ap (λ (x : ℕ). s / x) (pow-succ' 2 i) ∙ sym (div-div-eq-div-mul s 2 (2 ^ i)))

pub bit-zero : (s : ℕ) → bit s 0 ≡ eqb (s % 2) 1
unfolding bit
bit-zero s = ap (λ (x : ℕ). eqb (x % 2) 1) (div-one s)

pub put-true : (s i : ℕ) → bit s i ≡ true → put s i ≡ s
unfolding put
put-true s i e = rw (e, put)

pub put-false : (s i : ℕ) → bit s i ≡ false → put s i ≡ s + 2 ^ i
unfolding put
put-false s i e = rw (e, put)

put-suc : (s i : ℕ) → put s (suc i) ≡ put (s / 2) i * 2 + s % 2
put-suc s i = go (bit (s / 2) i) refl
  where
    go : (b : Bool) → bit (s / 2) i ≡ b → put s (suc i) ≡ put (s / 2) i * 2 + s % 2
    go true e = put-true s (suc i) (bit-suc s i ∙ e) ∙ omega (arith, put-true (s / 2) i e)
    go false e = put-false s (suc i) (bit-suc s i ∙ e) ∙ omega (arith, put-false (s / 2) i e, pow-succ' 2 i)

put-half : (s i : ℕ) → put s (suc i) / 2 ≡ put (s / 2) i
put-half s i = omega (arith, put-suc s i)

put_low : (s i : ℕ) → put s (suc i) % 2 ≡ s % 2
put_low s i = omega (arith, put-suc s i)

pub bit-put : (s i : ℕ) → bit (put s i) i ≡ true
bit-put s zero = go (bit s 0) refl
  where
    go : (b : Bool) → bit s 0 ≡ b → bit (put s 0) 0 ≡ true
    go true e = rw (put-true s 0 e) e
    go false e =
        let odd : s % 2 ≡ 1 → ⊥ = eqb-false (s % 2) 1 (sym (bit-zero s) ∙ e) in
        bit-zero (put s 0) ∙ eq-eqb (put s 0 % 2) 1 (omega (arith, put-false s 0 e))
bit-put s (suc i) = bit-suc (put s (suc i)) i ∙ rw (put-half s i) (bit-put (s / 2) i)

pub bit-put-other : (s i j : ℕ) → (i ≡ j → ⊥) → bit (put s i) j ≡ bit s j
bit-put-other s zero zero h = absurd (h refl)
bit-put-other s zero (suc j) h = bit-suc (put s 0) j ∙ rw (half) (sym (bit-suc s j))
  where
    go : (b : Bool) → bit s 0 ≡ b → put s 0 / 2 ≡ s / 2
    go true e = rw (put-true s 0 e)
    go false e =
        let odd : s % 2 ≡ 1 → ⊥ = eqb-false (s % 2) 1 (sym (bit-zero s) ∙ e) in
        omega (arith, put-false s 0 e)

    half : put s 0 / 2 ≡ s / 2
    half = go (bit s 0) refl
bit-put-other s (suc i) zero h = bit-zero (put s (suc i)) ∙ rw (put_low s i) (sym (bit-zero s))
bit-put-other s (suc i) (suc j) h =
    bit-suc (put s (suc i)) j ∙ rw (put-half s i) (bit-put-other (s / 2) i j (λ e. h (ap suc e))) ∙ sym (bit-suc s j)

pub bit-none : (i : ℕ) → bit 0 i ≡ false
bit-none zero = bit-zero 0
bit-none (suc i) = bit-suc 0 i ∙ bit-none i

-- a number below 2 ^ n has no bit from n on
pub bit-small : (n s i : ℕ) → s < 2 ^ n → n ≤ i → bit s i ≡ false
bit-small zero s i h g = let e : s ≡ 0 = omega arith in rw e (bit-none i)
bit-small (suc n) s zero h g = absurd (omega arith)
bit-small (suc n) s (suc i) h g = bit-suc s i ∙ bit-small n (s / 2) i (omega (arith, pow-succ' 2 n)) (omega arith)

low_bit : (s t : ℕ) → bit s 0 ≡ bit t 0 → s % 2 ≡ t % 2
low_bit s t e = go (eqb (s % 2) 1) refl
  where
    same : eqb (s % 2) 1 ≡ eqb (t % 2) 1
    same = sym (bit-zero s) ∙ e ∙ bit-zero t

    go : (b : Bool) → eqb (s % 2) 1 ≡ b → s % 2 ≡ t % 2
    go true p = eqb-true (s % 2) 1 p ∙ sym (eqb-true (t % 2) 1 (sym same ∙ p))
    go false p =
        let u : s % 2 ≡ 1 → ⊥ = eqb-false (s % 2) 1 p in
        let v : t % 2 ≡ 1 → ⊥ = eqb-false (t % 2) 1 (sym same ∙ p) in
        omega arith

ext-below : (n s t : ℕ) → s ≤ n → t ≤ n → ((i : ℕ) → bit s i ≡ bit t i) → s ≡ t
ext-below zero s t hs ht h = omega arith
ext-below (suc n) s t hs ht h =
    let halves : s / 2 ≡ t / 2 = ext-below n (s / 2) (t / 2) (omega arith) (omega arith) (λ i. sym (bit-suc s i) ∙ h (suc i) ∙ bit-suc t i) in
    let low : s % 2 ≡ t % 2 = low_bit s t (h 0) in
    omega arith

-- two sets with the same members are one number
pub bit-ext : (s t : ℕ) → ((i : ℕ) → bit s i ≡ bit t i) → s ≡ t
bit-ext s t h = ext-below (s + t) s t (omega arith) (omega arith) h

-- below 2 ^ n, the bits below n are enough
pub bit-ext-below : (n s t : ℕ) → s < 2 ^ n → t < 2 ^ n → ((i : ℕ) → i < n → bit s i ≡ bit t i) → s ≡ t
bit-ext-below n s t s< t< h =
    bit-ext s t (λ i. elim (dec_lt i n) [ yes b ↦ h i b | no b ↦ bit-small n s i s< (omega arith) ∙ sym (bit-small n t i t< (omega arith)) ])

half_pow : (i : ℕ) → 2 ^ suc i / 2 ≡ 2 ^ i
half_pow i = omega (arith, pow-succ' 2 i)

even-pow : (i : ℕ) → 2 ^ suc i % 2 ≡ 0
even-pow i = omega (arith, pow-succ' 2 i)

-- a member is worth no more than its set, which lacks it once that is taken away
without : (s i : ℕ) → bit s i ≡ true → (2 ^ i ≤ s) × (bit (s - 2 ^ i) i ≡ false)
without s zero e =
    let odd : s % 2 ≡ 1 = eqb-true (s % 2) 1 (sym (bit-zero s) ∙ e) in
    (omega arith, bit-zero (s - 1) ∙ ne_eqb ((s - 1) % 2) 1 (omega arith))
without s (suc i) e =
    let (le, none) = without (s / 2) i (sym (bit-suc s i) ∙ e) in
    let half : (s - 2 ^ suc i) / 2 ≡ s / 2 - 2 ^ i = omega (arith, pow-succ' 2 i) in
    (omega (arith, pow-succ' 2 i), bit-suc (s - 2 ^ suc i) i ∙ rw half none)

pub bit-without : (s i : ℕ) → bit s i ≡ true → bit (s - 2 ^ i) i ≡ false
bit-without s i e = (without s i e).1

pub bit_le : (s i : ℕ) → bit s i ≡ true → 2 ^ i ≤ s
bit_le s i e = (without s i e).0

-- the members of a set of numbers below k
pub bit_below : (s k i : ℕ) → s < 2 ^ k → bit s i ≡ true → i < k
bit_below s k i h e = elim (dec_lt i k) [ yes l ↦ l | no l ↦ absurd (true≢false (sym e ∙ bit-small k s i h (omega arith))) ]

-- a set without one member has the others
pub bit-without-other : (s i j : ℕ) → bit s i ≡ true → (i ≡ j → ⊥) → bit (s - 2 ^ i) j ≡ bit s j
bit-without-other s i j e ne =
    let (le, none) = without s i e in
    let back : put (s - 2 ^ i) i ≡ s = put-false (s - 2 ^ i) i none ∙ omega arith in
    sym (bit-put-other (s - 2 ^ i) i j ne) ∙ ap (λ (x : ℕ). bit x j) back

-- how a program puts a bit
pub put-or : (i s : ℕ) → bit_or s (2 ^ i) ≡ put s i
put-or zero s = or_step s 1 ∙ go (bit s 0) refl
  where
    go : (b : Bool) → bit s 0 ≡ b → bit_or (s / 2) 0 * 2 + max (s % 2) 1 ≡ put s 0
    go true e =
        let odd : s % 2 ≡ 1 = eqb-true (s % 2) 1 (sym (bit-zero s) ∙ e) in
        omega (arith, put-true s 0 e, or_zero_r (s / 2))
    go false e =
        let odd : s % 2 ≡ 1 → ⊥ = eqb-false (s % 2) 1 (sym (bit-zero s) ∙ e) in
        omega (arith, put-false s 0 e, or_zero_r (s / 2))
put-or (suc i) s =
    or_step s (2 ^ suc i)
    ∙ ap₂ (λ (x y : ℕ). bit_or (s / 2) x * 2 + max (s % 2) y) (half_pow i) (even-pow i)
    ∙ ap₂ (λ (x y : ℕ). x * 2 + y) (put-or i (s / 2)) (omega arith)
    ∙ sym (put-suc s i)

-- the machine's one, shifted: over the width, so that one law serves every word
pub put_word : (w i s : ℕ) → i < w → bit_or s (1 * 2 ^ i % 2 ^ w) ≡ put s i
put_word w i s h = ap (bit_or s) (shl_exact 1 i w (lit< tt) (omega arith) ∙ one-mul (2 ^ i)) ∙ put-or i s

-- ---- the machine's `|` is the union
test-max : (a b : ℕ) → a < 2 → b < 2 → eqb (max a b) 1 ≡ (eqb a 1 || eqb b 1)
test-max a b p q =
    tests_same (eqb (max a b) 1) (eqb a 1 || eqb b 1)
    (λ e. let m : max a b ≡ 1 = eqb-true (max a b) 1 e in
    ⊎_elim (λ t. or_left (eqb a 1) (eqb b 1) t) (λ t. or_right (eqb a 1) (eqb b 1) (eq-eqb b 1 (omega (arith, eqb-false a 1 t)))) (cases (eqb a 1)))
    (λ e. eq-eqb (max a b) 1 (⊎_elim (λ t. omega (arith, eqb-true a 1 t)) (λ t. omega (arith, eqb-true b 1 t)) (or_cases (eqb a 1) (eqb b 1) e)))

pub bit-or : (s t i : ℕ) → bit (bit_or s t) i ≡ (bit s i || bit t i)
bit-or s t zero =
    let low : bit_or s t % 2 ≡ max (s % 2) (t % 2) = omega (arith, or_step s t) in
    rw (bit-zero (bit_or s t), bit-zero s, bit-zero t, low) (test-max (s % 2) (t % 2) (omega arith) (omega arith))
bit-or s t (suc i) =
    let half : bit_or s t / 2 ≡ bit_or (s / 2) (t / 2) = omega (arith, or_step s t) in
    rw (bit-suc (bit_or s t) i, bit-suc s i, bit-suc t i, half) (bit-or (s / 2) (t / 2) i)

-- ---- the machine's `&` is the intersection
test-min : (a b : ℕ) → a < 2 → b < 2 → eqb (min a b) 1 ≡ (eqb a 1 && eqb b 1)
test-min a b p q =
    tests_same (eqb (min a b) 1) (eqb a 1 && eqb b 1)
    (λ e. let m : min a b ≡ 1 = eqb-true (min a b) 1 e in and_both (eqb a 1) (eqb b 1) (eq-eqb a 1 (omega arith)) (eq-eqb b 1 (omega arith)))
    (λ e. eq-eqb (min a b) 1 (omega (arith, eqb-true a 1 (and_left (eqb a 1) (eqb b 1) e), eqb-true b 1 (and_right (eqb a 1) (eqb b 1) e))))

pub bit-and : (s t i : ℕ) → bit (bit_and s t) i ≡ (bit s i && bit t i)
bit-and s t zero =
    let low : bit_and s t % 2 ≡ min (s % 2) (t % 2) = omega (arith, and_step s t) in
    rw (bit-zero (bit_and s t), bit-zero s, bit-zero t, low) (test-min (s % 2) (t % 2) (omega arith) (omega arith))
bit-and s t (suc i) =
    let half : bit_and s t / 2 ≡ bit_and (s / 2) (t / 2) = omega (arith, and_step s t) in
    rw (bit-suc (bit_and s t) i, bit-suc s i, bit-suc t i, half) (bit-and (s / 2) (t / 2) i)
