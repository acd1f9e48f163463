-- Laws of alc's readers (specs/Bytes.antt): what a reading can give, and that a number which is taken keeps its limit. Assumes nothing.
use Rattle.std.specs.Prelude.{◌≡◌, refl, Bool, true, false, ◌||◌, List, ℕ, suc, ◌≤◌, ◌<◌, length, get_or, eqb}
use Rattle.std.proofs.Common.{subst, ltb-true}
use Rattle.std.proofs.Math.Dec.{ltb}
use Rattle.alc.specs.Bytes.{Read, refused, taken, then, number_at, below_at}

-- ---- what a reading gives, where it does not refuse
pub data Gives {A : Type 0} (P : A → ℕ → Type 0) : Read A → Type 0 where
  none : {n p : ℕ} → Gives P (refused n p)
  gives : {a : A} {p : ℕ} → P a p → Gives P (taken a p)

module _ {A : Type 0} {P : A → ℕ → Type 0} where
  out : {a : A} {p : ℕ} → Gives P (taken a p) → P a p
  out (gives h) = h

  pub given : {r : Read A} → Gives P r → {a : A} {p : ℕ} → r ≡ taken a p → P a p
  given h e = out (subst (Gives P) e h)

  pub gives-if : {r t : Read A} (b : Bool) → (b ≡ true → Gives P r) → (b ≡ false → Gives P t) → Gives P (elim b [ true ↦ r | false ↦ t ])
  gives-if true f g = f refl
  gives-if false f g = g refl

  pub gives_then : {B : Type 0} {Q : B → ℕ → Type 0} {r : Read B} {f : B → ℕ → Read A} → Gives Q r
      → ((b : B) (p : ℕ) → Q b p → Gives P (f b p)) → Gives P (then r f)
  gives_then none k = none
  gives_then (gives {a = b} {p = p} h) k = k b p h

  pub gives_more : {Q : A → ℕ → Type 0} {r : Read A} → Gives Q r → ((a : A) (p : ℕ) → Q a p → P a p) → Gives P r
  gives_more none k = none
  gives_more (gives {a = a} {p = p} h) k = gives (k a p h)

module _ (bs : List ℕ) where
  -- no place is behind the end
  abbrev pub Inside : {A : Type 0} → A → ℕ → Type 0
  Inside a p = p ≤ length bs

  number-gives : (p : ℕ) → Gives Inside (number_at bs p)
  unfolding number_at
  number-gives p =
      gives-if (ltb p (length bs))
      (λ h. gives-if (ltb (get_or bs p 0) 128)
      (λ _. gives (ltb-true p (length bs) h))
      (λ _. gives-if (ltb (suc p) (length bs))
      (λ k. gives-if (eqb (get_or bs (suc p) 0) 0 || ltb 127 (get_or bs (suc p) 0)) (λ _. none) (λ _. gives (ltb-true (suc p) (length bs) k))) (λ _. none)))
      (λ _. none)

  -- a number that is taken is below its limit
  pub below-gives : (n why p : ℕ) → Gives (λ v q. (v < n) × (q ≤ length bs)) (below_at bs n why p)
  unfolding below_at
  below-gives n why p = gives_then (number-gives p) (λ v q h. gives-if (ltb v n) (λ l. gives (ltb-true v n l, h)) (λ _. none))
