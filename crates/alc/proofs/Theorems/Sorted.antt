-- Lists sorted by any order: each member before all that stand behind it.
use Rattle.std.specs.Prelude.{ℕ, zero, suc, ◌+◌, ◌<◌, Bool, true, false, cond, ◌≡◌, refl, ◌↔◌, List, [], ◌∷◌, ◌++◌, map, length, get_or}
use Rattle.std.proofs.Common.{sym, ◌∙◌, subst, subst₂, ⊎_elim, arith}
use mathlib.Core.List.Memᴰ
use Rattle.alc.specs.Lists.{◌∈◌, from, each}
use Rattle.alc.proofs.Theorems.Lists.{here, there, each-elim, from-elim, get_or-in}

module _ {A : Type 0} (R : A → A → Type 0) where
  abbrev pub Sorted : List A → Type 0
  Sorted [] = Unit {0}
  Sorted (x ∷ xs) = ((y : A) → y ∈ xs → R x y) × Sorted xs

  pub sorted-at : (l : List A) (d : A) → Sorted l → (j k : ℕ) → j < k → k < length l → R (get_or l j d) (get_or l k d)
  sorted-at [] d h j k p q = absurd (omega arith)
  sorted-at (x ∷ xs) d h j zero p q = absurd (omega arith)
  sorted-at (x ∷ xs) d h zero (suc k) p q = h.0 (get_or xs k d) (get_or-in xs k d (omega arith))
  sorted-at (x ∷ xs) d h (suc j) (suc k) p q = sorted-at xs d h.1 j k (omega arith) (omega arith)

  sorted-append : (l m : List A) → Sorted l → Sorted m → ((x y : A) → x ∈ l → y ∈ m → R x y) → Sorted (l ++ m)
  sorted-append [] m p q h = q
  sorted-append (x ∷ xs) m p q h = (
    λ y i. ⊎_elim (λ k. p.0 y k) (λ k. h x y here k) (Memᴰ.append_cases xs i),
    sorted-append xs m p.1 q (λ y z i k. h y z (there i) k),
  )

  -- sorted lists for each number of a range, all of a smaller number's before those of a larger one
  pub each-sorted : (f : ℕ → List A) (a k : ℕ) → ((i : ℕ) → i < a + k → Sorted (f i))
      → ((i j : ℕ) → i < j → j < a + k → (x y : A) → x ∈ f i → y ∈ f j → R x y) → Sorted (each f (from a k))
  each-sorted f a zero h g = tt
  each-sorted f a (suc k) h g =
      sorted-append (f a) (each f (from (suc a) k)) (h a (omega arith))
      (each-sorted f (suc a) k (λ i b. h i (omega arith)) (λ i j b c. g i j b (omega arith)))
      (λ x y p q. let (j, j-in, r) = each-elim f (from (suc a) k) q in let (b, c) = from-elim (suc a) k j j-in in g a j (omega arith) (omega arith) x y p r)

  pub map-sorted : (f : ℕ → A) (a k : ℕ) → ((i j : ℕ) → i < j → j < a + k → R (f i) (f j)) → Sorted (map f (from a k))
  map-sorted f a zero h = tt
  map-sorted f a (suc k) h = (
    λ y m. let (j, j-in, e) = Memᴰ.of_map f (from (suc a) k) m in let (b, c) = from-elim (suc a) k j j-in in
        subst (R (f a)) e (h a j (omega arith) (omega arith)),
    map-sorted f (suc a) k (λ i j b c. h i j b (omega arith)),
  )

  pub cond-sorted : (b : Bool) (x : A) → Sorted (cond b (x ∷ []) [])
  cond-sorted true x = ((λ y m. absurd (Memᴰ.not-nil m)), tt)
  cond-sorted false x = tt

  -- sorted lists with the same members are equal
  pub sorted-unique : ((x y : A) → R x y → R y x → ⊥) → (l m : List A) → Sorted l → Sorted m → ((x : A) → (x ∈ l) ↔ (x ∈ m)) → l ≡ m
  sorted-unique asym [] [] p q h = refl
  sorted-unique asym [] (y ∷ ys) p q h = absurd (Memᴰ.not-nil ((h y).1 here))
  sorted-unique asym (x ∷ xs) [] p q h = absurd (Memᴰ.not-nil ((h x).0 here))
  sorted-unique asym (x ∷ xs) (y ∷ ys) p q h =
      let e : x ≡ y =
      ⊎_elim
      (λ e. e)
      (λ m. ⊎_elim (λ e. sym e) (λ k. absurd (asym x y (p.0 y k) (q.0 x m))) (Memᴰ.cases_cons ((h y).1 here)))
      (Memᴰ.cases_cons ((h x).0 here)) in
      let rest : xs ≡ ys = sorted-unique asym xs ys p.1 q.1 (λ z. (
        λ m. ⊎_elim (λ (t : z ≡ y). absurd (twice x z (sym (t ∙ sym e)) (p.0 z m))) (λ k. k) (Memᴰ.cases_cons ((h z).0 (there m))),
        λ m. ⊎_elim (λ (t : z ≡ x). absurd (twice y z (sym (t ∙ e)) (q.0 z m))) (λ k. k) (Memᴰ.cases_cons ((h z).1 (there m))),
      )) in
      λ i. e i ∷ rest i
    where
      twice : (a b : A) → a ≡ b → R a b → ⊥
      twice a b t r = asym a b r (subst₂ R t (sym t) r)
