-- The laws of labels: what is in a label once a mark is added, and in two labels joined.
use Rattle.std.specs.Prelude.{ℕ, true, false, ◌||◌, ◌≡◌, ◌⊎◌}
use Rattle.std.proofs.Common.{sym, ◌∙◌, ap, inl, inr, ⊎_elim}
use Rattle.alc.specs.Bits.{bit, put}
use Rattle.alc.specs.Label.{add, blank, Label, holds, Mark, has, fails, join}
use Rattle.alc.proofs.Theorems.Bits.{bit-none, bit-put-other, bit-put, bit-or}
use Rattle.alc.proofs.Theorems.Lists.{same?}

pub has-blank : (m : Mark) → has blank m ≡ false
has-blank (holds i) = bit-none i
has-blank (fails i) = bit-none i

pub has-add : (l : Label) (m : Mark) → has (add l m) m ≡ true
has-add l (holds i) = bit-put l.holding i
has-add l (fails i) = bit-put l.failing i

bit-put-cases : (s i j : ℕ) → bit (put s i) j ≡ true → (i ≡ j) ⊎ (bit s j ≡ true)
bit-put-cases s i j e = ⊎_elim (λ q. inl q) (λ q. inr (sym (bit-put-other s i j q) ∙ e)) (same? i j)

pub has-add-cases : (l : Label) (m n : Mark) → has (add l m) n ≡ true → (n ≡ m) ⊎ (has l n ≡ true)
has-add-cases l (holds i) (holds j) e = ⊎_elim (λ q. inl (ap holds (sym q))) (λ q. inr q) (bit-put-cases l.holding i j e)
has-add-cases l (holds i) (fails j) e = inr e
has-add-cases l (fails i) (holds j) e = inr e
has-add-cases l (fails i) (fails j) e = ⊎_elim (λ q. inl (ap fails (sym q))) (λ q. inr q) (bit-put-cases l.failing i j e)

bit-put-keeps : (s i j : ℕ) → bit s j ≡ true → bit (put s i) j ≡ true
bit-put-keeps s i j e = ⊎_elim (λ q. rw q (bit-put s j)) (λ q. bit-put-other s i j q ∙ e) (same? i j)

pub has-add-keeps : (l : Label) (m n : Mark) → has l n ≡ true → has (add l m) n ≡ true
has-add-keeps l (holds i) (holds j) e = bit-put-keeps l.holding i j e
has-add-keeps l (holds i) (fails j) e = e
has-add-keeps l (fails i) (holds j) e = e
has-add-keeps l (fails i) (fails j) e = bit-put-keeps l.failing i j e

pub has_join : (l k : Label) (m : Mark) → has (join l k) m ≡ (has l m || has k m)
has_join l k (holds i) = bit-or l.holding k.holding i
has_join l k (fails i) = bit-or l.failing k.failing i
