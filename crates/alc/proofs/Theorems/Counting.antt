-- Counting: sublists, distinct lists, and that a distinct list is no longer than a list that has all its members.
use Rattle.std.specs.Prelude.{ℕ, suc, ◌*◌, ◌^◌, ◌≤◌, Bool, true, false, cond, ◌≡◌, refl, ◌⊎◌, length, eqb}
use Rattle.std.proofs.Common.{sym, ◌∙◌, ap, inl, inr, ⊎_elim, length-append, eqb-true, arith}
use mathlib.Core.List.Memᴰ
use mathlib.Core.List.{List, [], ◌∷◌, ◌++◌, map}
use Rattle.std.proofs.lemmas.List.{length-map}
use Rattle.std.proofs.lemmas.Bool.{eqb-false}
use Rattle.std.proofs.Math.Nat.{two-pow-succ}
use Rattle.alc.specs.Lists.{filter, ◌∈◌, each, sublists, remove_one, Distinct}
use Rattle.alc.proofs.Theorems.Lists.{cases, clashing, here, filter-step, there}

module _ {A : Type 0} where
  pub distinct_snoc : (l : List A) (x : A) → Distinct l → (x ∈ l → ⊥) → Distinct (l ++ (x ∷ []))
  distinct_snoc [] x d h = (λ m. Memᴰ.not-nil m, tt)
  distinct_snoc (y ∷ ys) x d h = (
    λ m. ⊎_elim (λ i. d.0 i) (λ i. h (Memᴰ.head (sym (mathlib.Core.List.Memᴰ.eq_of_singleton i)))) (Memᴰ.append_cases ys m),
    distinct_snoc ys x d.1 (λ m. h (there m)),
  )

  -- l without one x
  without : {x : A} (l : List A) → x ∈ l → (r : List A) × (length l ≡ suc (length r)) × ((y : A) → y ∈ l → (y ≡ x) ⊎ (y ∈ r))
  without [] h = absurd (Memᴰ.not-nil h)
  without {x} (z ∷ zs) h =
      ⊎_elim
      (λ q. (zs, refl, λ y i. ⊎_elim (λ e. inl (e ∙ sym q)) (λ m. inr m) (Memᴰ.cases_cons i)))
      (λ m. let (r, e, k) = without zs m in
      (z ∷ r, ap suc e, λ y i. ⊎_elim (λ q. inr (Memᴰ.head q)) (λ j. ⊎_elim (λ q. inl q) (λ w. inr (there w)) (k y j)) (Memᴰ.cases_cons i)))
      (Memᴰ.cases_cons h)

  pub pigeon : (C U : List A) → Distinct C → ((x : A) → x ∈ C → x ∈ U) → length C ≤ length U
  pigeon [] U d h = omega arith
  pigeon (x ∷ xs) U d h =
      let (r, e, k) = without U (h x here) in
      let fewer : length xs ≤ length r =
      pigeon xs r d.1 (λ y i. ⊎_elim (λ q. absurd (d.0 (mathlib.Core.List.Memᴰ.cast (sym q) i))) (λ m. m) (k y (h y (there i)))) in
      omega arith

  pub length-sublists : (l : List A) → length (sublists l) ≡ 2 ^ length l
  length-sublists [] = refl
  length-sublists (x ∷ xs) =
      length-append (map (λ l. x ∷ l) (sublists xs)) (sublists xs)
      ∙ omega (arith, length-map (sublists xs) (λ (l : List A). x ∷ l), length-sublists xs, two-pow-succ (length xs))

  pub filter-sublist : (p : A → Bool) (l : List A) → filter p l ∈ sublists l
  filter-sublist p [] = here
  filter-sublist p (x ∷ xs) =
      ⊎_elim
      (λ s. rw s.1 (Memᴰ.append_left (sublists xs) (Memᴰ.map (λ l. x ∷ l) (filter-sublist p xs))))
      (λ s. rw s.1 (Memᴰ.append_right (map (λ l. x ∷ l) (sublists xs)) (filter-sublist p xs)))
      (filter-step p x xs)

  -- what passes p and so passes r
  pub filter-filter : (p r : A → Bool) → ((x : A) → p x ≡ true → r x ≡ true) → (l : List A) → filter p (filter r l) ≡ filter p l
  filter-filter p r h [] = refl
  filter-filter p r h (x ∷ xs) =
      ⊎_elim
      (λ s. ⊎_elim
      (λ t. rw (s.1, t.1) (⊎_elim (λ u. u.1 ∙ ap {B = List A} (λ w. x ∷ w) (filter-filter p r h xs)) (λ u. clashing (p x) t.0 u.0)
      (filter-step p x (filter r xs))))
      (λ t. rw (s.1, t.1) (⊎_elim (λ u. clashing (p x) u.0 t.0) (λ u. u.1 ∙ filter-filter p r h xs) (filter-step p x (filter r xs))))
      (filter-step p x xs))
      (λ s. ⊎_elim
      (λ t. clashing (r x) (h x t.0) s.0)
      (λ t. rw (s.1, t.1) (filter-filter p r h xs))
      (filter-step p x xs))
      (filter-step r x xs)

module _ {A B : Type 0} where
  pub each-cond : (p : A → Bool) (g : A → B) (l : List A) → each (λ x. cond (p x) (g x ∷ []) []) l ≡ map g (filter p l)
  each-cond p g [] = refl
  each-cond p g (x ∷ xs) =
      ⊎_elim
      (λ s. rw (s.1, s.0) (ap {B = List B} (λ w. g x ∷ w) (each-cond p g xs)))
      (λ s. rw (s.1, s.0) (each-cond p g xs))
      (filter-step p x xs)

  pub length-each : (f : A → List B) (n : ℕ) (l : List A) → ((x : A) → x ∈ l → length (f x) ≡ n) → length (each f l) ≡ length l * n
  length-each f n [] h = omega arith
  length-each f n (x ∷ xs) h = length-append (f x) (each f xs) ∙ omega (arith, h x here, length-each f n xs (λ y i. h y (there i)))

remove-step : (i x : ℕ) (xs : List ℕ) → ((x ≡ i) × (remove_one i (x ∷ xs) ≡ xs)) ⊎ ((x ≡ i → ⊥) × (remove_one i (x ∷ xs) ≡ x ∷ remove_one i xs))
remove-step i x xs =
    ⊎_elim
    (λ e. inl (eqb-true x i e, rw (e, remove_one)))
    (λ e. inr (eqb-false x i e, rw (e, remove_one)))
    (cases (eqb x i))

pub length-remove_one : (i : ℕ) (l : List ℕ) → i ∈ l → length l ≡ suc (length (remove_one i l))
length-remove_one i [] h = absurd (Memᴰ.not-nil h)
length-remove_one i (x ∷ xs) h =
    ⊎_elim
    (λ s. rw s.1)
    (λ s. rw s.1 (⊎_elim (λ q. absurd (s.0 (sym q))) (λ m. ap suc (length-remove_one i xs m)) (Memᴰ.cases_cons h)))
    (remove-step i x xs)

pub filter-remove_one : (p : ℕ → Bool) (i : ℕ) → p i ≡ false → (l : List ℕ) → filter p (remove_one i l) ≡ filter p l
filter-remove_one p i e [] = refl
filter-remove_one p i e (x ∷ xs) =
    ⊎_elim
    (λ s. rw s.1 (⊎_elim (λ t. clashing (p x) t.0 (ap p s.0 ∙ e)) (λ t. sym t.1) (filter-step p x xs)))
    (λ s. rw s.1
    (⊎_elim
    (λ t. rw t.1 (⊎_elim (λ u. u.1 ∙ ap {B = List ℕ} (λ w. x ∷ w) (filter-remove_one p i e xs)) (λ u. clashing (p x) t.0 u.0)
    (filter-step p x (remove_one i xs))))
    (λ t. rw t.1 (⊎_elim (λ u. clashing (p x) u.0 t.0) (λ u. u.1 ∙ filter-remove_one p i e xs) (filter-step p x (remove_one i xs))))
    (filter-step p x xs)))
    (remove-step i x xs)
