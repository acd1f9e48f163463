-- Members of sets: the lowest; one that two sets have in common. Walking a set by its lowest member first is walking the list of its members: one law
-- for every loop that does so.
use Rattle.std.specs.Prelude.{ℕ, zero, suc, ◌+◌, ◌-◌, ◌*◌, ◌/◌, ◌%◌, ◌^◌, ◌≤◌, ◌<◌, Bool, true, false, not as flip, ◌&&◌, ◌≡◌, refl, List, [], ◌∷◌, ◌++◌, eqb}
use Rattle.std.proofs.Common.{sym, subst, ◌∙◌, ap, ap₂, ⊎_elim, one-mul, arith, lit<, shl_exact, pow_pos, eq-eqb, ne_eqb}
use Rattle.std.proofs.Math.Nat.{pow-succ'}
use Rattle.std.specs.Int.Bits.{bit_and}
use Rattle.std.specs.Int.Count.{count_trailing_zeros, under}
use Rattle.std.proofs.lemmas.Bool.{eqb-false, not-true}
use Rattle.alc.specs.Bits.{bit, meets, members}
use Rattle.alc.specs.Lists.{◌∈◌, filter, each, from, up_to}
use Rattle.alc.proofs.Theorems.Bits.{bit-suc, bit-zero, bit-none, bit-and, bit_le, bit-without, bit-without-other}
use Rattle.alc.proofs.Theorems.Lists.{filter-step, filter-elim, up_to-elim, here, there, clashing, and_left, and_right, and_both, same?}

-- ---- the lowest member
pub record Lowest (n s t : ℕ) : Type 0 where
  pub inside : t < n
  pub member : bit s t ≡ true
  pub below : (j : ℕ) → j < t → bit s j ≡ false

under-lowest : (n s r : ℕ) → s % 2 ≡ r → (s % 2 ≡ 0 → Lowest n (s / 2) (count_trailing_zeros n (s / 2))) → Lowest (suc n) s (under r (count_trailing_zeros n (s / 2)))
under-lowest n s zero e h = record {
  inside = omega (arith, (h e).inside);
  member = bit-suc s (count_trailing_zeros n (s / 2)) ∙ (h e).member;
  below = low;
}
  where
    low : (j : ℕ) → j < suc (count_trailing_zeros n (s / 2)) → bit s j ≡ false
    low zero b = bit-zero s ∙ ne_eqb (s % 2) 1 (omega arith)
    low (suc j) b = bit-suc s j ∙ (h e).below j (omega arith)
under-lowest n s (suc r) e h = record { inside = omega arith; member = bit-zero s ∙ eq-eqb (s % 2) 1 (omega arith); below = λ j b. absurd (omega arith) }

pub lowest : (n s : ℕ) → 0 < s → s < 2 ^ n → Lowest n s (count_trailing_zeros n s)
unfolding count_trailing_zeros
lowest zero s h g = absurd (omega arith)
lowest (suc n) s h g = under-lowest n s (s % 2) refl (λ e. lowest n (s / 2) (omega arith) (omega (arith, pow-succ' 2 n)))

under-power : (n : ℕ) → n < 2 ^ n
under-power zero = omega arith
under-power (suc n) = omega (arith, under-power n, pow-succ' 2 n)

-- ---- a member of a set that is not empty; one that two sets have in common
pub some-member : (s : ℕ) → (s ≡ 0 → ⊥) → (j : ℕ) × (bit s j ≡ true)
some-member s some = (count_trailing_zeros s s, (lowest s s (omega arith) (under-power s)).member)

pub meets-intro : (s t j : ℕ) → bit s j ≡ true → bit t j ≡ true → meets s t ≡ true
meets-intro s t j a b =
    let both : bit (bit_and s t) j ≡ true = bit-and s t j ∙ and_both (bit s j) (bit t j) a b in
    ap flip (ne_eqb (bit_and s t) 0 (λ z. clashing (bit (bit_and s t) j) both (ap (λ (x : ℕ). bit x j) z ∙ bit-none j)))

pub meets-elim : (s t : ℕ) → meets s t ≡ true → (j : ℕ) × (bit s j ≡ true) × (bit t j ≡ true)
meets-elim s t e =
    let (j, is) = some-member (bit_and s t) (eqb-false (bit_and s t) 0 (not-true (eqb (bit_and s t) 0) e)) in
    let m : (bit s j && bit t j) ≡ true = sym (bit-and s t j) ∙ is in
    (j, and_left (bit s j) (bit t j) m, and_right (bit s j) (bit t j) m)

-- ---- a list that passes p is t and then what passes q, where t is the first that passes p and q passes all behind it
filter_same : (p q : ℕ → Bool) (a k : ℕ) → ((j : ℕ) → a ≤ j → p j ≡ q j) → filter p (from a k) ≡ filter q (from a k)
filter_same p q a zero h = refl
filter_same p q a (suc k) h =
    let rest = filter_same p q (suc a) k (λ j b. h j (omega arith)) in
    ⊎_elim
    (λ s. ⊎_elim
    (λ t. s.1 ∙ ap {B = List ℕ} (λ r. a ∷ r) rest ∙ sym t.1)
    (λ t. clashing (p a) s.0 (h a (omega arith) ∙ t.0))
    (filter-step q a (from (suc a) k)))
    (λ s. ⊎_elim (λ t. clashing (q a) t.0 (sym (h a (omega arith)) ∙ s.0)) (λ t. s.1 ∙ rest ∙ sym t.1) (filter-step q a (from (suc a) k)))
    (filter-step p a (from (suc a) k))

filter-first : (p q : ℕ → Bool) (t : ℕ) → p t ≡ true → ((j : ℕ) → j < t → p j ≡ false) → ((j : ℕ) → j ≤ t → q j ≡ false) → ((j : ℕ) → t < j → p j ≡ q j)
    → (a k : ℕ) → a ≤ t → t < a + k → filter p (from a k) ≡ t ∷ filter q (from a k)
filter-first p q t e below none more a zero b c = absurd (omega arith)
filter-first p q t e below none more a (suc k) b c =
    ⊎_elim
    (λ (d : a ≡ t).
    ⊎_elim
    (λ s. ⊎_elim
    (λ u. clashing (q a) u.0 (none a b))
    (λ u. s.1 ∙ ap₂ {C = List ℕ} (λ x r. x ∷ r) d (filter_same p q (suc a) k (λ j g. more j (omega arith)) ∙ sym u.1))
    (filter-step q a (from (suc a) k)))
    (λ s. clashing (p a) (ap p d ∙ e) s.0)
    (filter-step p a (from (suc a) k)))
    (λ d. let a< : a < t = omega arith in
    ⊎_elim
    (λ s. clashing (p a) s.0 (below a a<))
    (λ s. ⊎_elim
    (λ u. clashing (q a) u.0 (none a b))
    (λ u. s.1 ∙ filter-first p q t e below none more (suc a) k (omega arith) (omega arith) ∙ ap {B = List ℕ} (λ r. t ∷ r) (sym u.1))
    (filter-step q a (from (suc a) k)))
    (filter-step p a (from (suc a) k)))
    (same? a t)

-- the turn of the loop: the lowest member, and then the members of the set without it
pub members_step : (n s : ℕ) → 0 < s → s < 2 ^ n → members n s ≡ count_trailing_zeros n s ∷ members n (s - 2 ^ count_trailing_zeros n s)
unfolding members
members_step n s h g =
    let t = count_trailing_zeros n s in
    let l = lowest n s h g in
    filter-first (bit s) (bit (s - 2 ^ t)) t l.member l.below
    (λ j b. ⊎_elim
    (λ (e : t ≡ j). ap (bit (s - 2 ^ t)) (sym e) ∙ bit-without s t l.member)
    (λ e. bit-without-other s t j l.member e ∙ l.below j (omega arith))
    (same? t j))
    (λ j b. sym (bit-without-other s t j l.member (λ e. omega arith)))
    0 n (omega arith) (omega (arith, l.inside))

-- its end
pub members-none : (n : ℕ) → members n 0 ≡ []
unfolding members
members-none n = go 0 n
  where
    go : (a k : ℕ) → filter (bit 0) (from a k) ≡ []
    go a zero = refl
    go a (suc k) = ⊎_elim (λ s. clashing (bit 0 a) s.0 (bit-none a)) (λ s. s.1 ∙ go (suc a) k) (filter-step (bit 0) a (from (suc a) k))

-- the one that comes next is one of the lines
pub member-below : {n i : ℕ} {rest : List ℕ} (s : ℕ) → members n s ≡ i ∷ rest → i < n
unfolding members
member-below {n} {i} {rest} s e = up_to-elim n i (filter-elim (bit s) (up_to n) (subst (λ (xs : List ℕ). i ∈ xs) (sym e) here)).0

-- its start: f of each line is f of each member, where f of any other is nothing
module _ {A B : Type 0} where
  pub each-filter : (f : A → List B) (p : A → Bool) (l : List A) → ((x : A) → x ∈ l → p x ≡ false → f x ≡ []) → each f (filter p l) ≡ each f l
  each-filter f p [] h = refl
  each-filter f p (x ∷ l) h =
      let rest = each-filter f p l (λ y i. h y (there i)) in
      ⊎_elim
      (λ s. rw s.1 (ap (λ (r : List B). f x ++ r) rest))
      (λ s. rw s.1 (rest ∙ sym (ap (λ (r : List B). r ++ each f l) (h x here s.0))))
      (filter-step p x l)

-- ---- walking over a set of 32 lines, the lowest first: that line, and what the machine leaves without it
abbrev pub lowest-of : ℕ → ℕ
lowest-of left = count_trailing_zeros 32 left

abbrev pub rest_of : ℕ → ℕ
rest_of left = left - 1 * 2 ^ count_trailing_zeros 32 left % 2 ^ 32

module _ {left : ℕ} (small : left < 2 ^ 32) (h : 0 < left) where
  low : Lowest 32 left (lowest-of left)
  low = lowest 32 left h small

  word : 1 * 2 ^ lowest-of left % 2 ^ 32 ≡ 2 ^ lowest-of left
  word = shl_exact 1 (lowest-of left) 32 (lit< tt) (omega (arith, low.inside)) ∙ one-mul (2 ^ lowest-of left)

  pub low-le : 1 * 2 ^ lowest-of left % 2 ^ 32 ≤ left
  low-le = rw word (bit_le left (lowest-of left) low.member)

  pub rest-members : members 32 left ≡ lowest-of left ∷ members 32 (rest_of left)
  rest-members = rw word (members_step 32 left h small)

-- ---- a set of lines of a sheet with k lines
pub record Inside (k left : ℕ) : Type 0 where
  pub small : left < 2 ^ 32
  pub below : (i : ℕ) → bit left i ≡ true → i < k

-- what a turn of such a walk keeps
module _ {k left : ℕ} (g : Inside k left) (h : 0 < left) where
  lowest-is : Lowest 32 left (lowest-of left)
  lowest-is = lowest 32 left h g.small

  pub low-line : lowest-of left < k
  low-line = g.below (lowest-of left) lowest-is.member

  pub low_small : lowest-of left < 32
  low_small = lowest-is.inside

  pub rest-less : rest_of left < left
  rest-less = omega (arith, word g.small h, pow_pos (lowest-of left))

  pub rest-each : {B : Type 0} (f : ℕ → List B) → each f (members 32 left) ≡ f (lowest-of left) ++ each f (members 32 (rest_of left))
  rest-each {B} f = ap {B = List B} (each f) (rest-members g.small h)

  pub rest-inside : Inside k (rest_of left)
  rest-inside = rw (word g.small h) record {
    small = omega (arith, g.small);
    below = λ i e. ⊎_elim
        (λ (q : lowest-of left ≡ i). clashing (bit (left - 2 ^ lowest-of left) i) e
        (ap (bit (left - 2 ^ lowest-of left)) (sym q) ∙ bit-without left (lowest-of left) lowest-is.member))
        (λ q. g.below i (sym (bit-without-other left (lowest-of left) i lowest-is.member q) ∙ e))
        (same? (lowest-of left) i);
  }
