-- The laws of tests and of the small tools on lists.
use Rattle.std.specs.Prelude.{ℕ, zero, suc, ◌+◌, ◌≤◌, ◌<◌, Bool, true, false, not, ◌&&◌, ◌||◌, cond, ◌≡◌, refl, ◌↔◌, ◌⊎◌, List, [], ◌∷◌, ◌++◌, map, length, get_or, eqb}
use Rattle.std.proofs.Common.{true≢false, sym, ◌∙◌, ap, subst, ap₂, inl, inr, ⊎_elim, append_assoc, eqb-true, arith}
use Rattle.std.proofs.lemmas.Bool.{false≢true, eqb-false}
use mathlib.Core.List.Memᴰ
use Rattle.alc.specs.Lists.{◌∈◌, from, all, nothing, up_to, Maybe, just, first, any, up_to_first, filter, each}

-- ---- tests
pub cases : (b : Bool) → (b ≡ true) ⊎ (b ≡ false)
cases true = inl refl
cases false = inr refl

-- a test cannot pass and fail
pub clashing {ℓ} : {C : Type ℓ} (b : Bool) → b ≡ true → b ≡ false → C
clashing b p q = absurd (true≢false (sym p ∙ q))

pub or_cases : (a b : Bool) → (a || b) ≡ true → (a ≡ true) ⊎ (b ≡ true)
or_cases true b e = inl refl
or_cases false b e = inr e

pub or_left : (a b : Bool) → a ≡ true → (a || b) ≡ true
or_left true b e = refl
or_left false b e = absurd (false≢true e)

pub or_right : (a b : Bool) → b ≡ true → (a || b) ≡ true
or_right true b e = refl
or_right false b e = e

pub or-false-left : (a b : Bool) → (a || b) ≡ false → a ≡ false
or-false-left true b e = e
or-false-left false b e = refl

pub or-false-right : (a b : Bool) → (a || b) ≡ false → b ≡ false
or-false-right true b e = absurd (true≢false e)
or-false-right false b e = e

pub or-false-both : (a b : Bool) → a ≡ false → b ≡ false → (a || b) ≡ false
or-false-both true b p q = p
or-false-both false b p q = q

pub and-false-left : (a b : Bool) → a ≡ false → (a && b) ≡ false
and-false-left true b e = absurd (true≢false e)
and-false-left false b e = refl

pub and-false-right : (a b : Bool) → b ≡ false → (a && b) ≡ false
and-false-right true b e = e
and-false-right false b e = refl

pub and_left : (a b : Bool) → (a && b) ≡ true → a ≡ true
and_left true b e = refl
and_left false b e = e

pub and_right : (a b : Bool) → (a && b) ≡ true → b ≡ true
and_right true b e = e
and_right false b e = absurd (false≢true e)

pub and_both : (a b : Bool) → a ≡ true → b ≡ true → (a && b) ≡ true
and_both true b p q = q
and_both false b p q = p

pub and-false-cases : (a b : Bool) → (a && b) ≡ false → (a ≡ false) ⊎ (b ≡ false)
and-false-cases true b e = inr e
and-false-cases false b e = inl refl

pub not_of_false : (a : Bool) → not a ≡ false → a ≡ true
not_of_false true e = refl
not_of_false false e = sym e

-- the tests of document 01's steps, by truth tables
pub one-true : (a : Bool) → a ≡ true → (a && true) ≡ true
one-true true e = refl
one-true false e = e

pub both_true : (a b : Bool) → (a && b) ≡ true → (a && (b && true)) ≡ true
both_true true b e = one-true b e
both_true false b e = e

pub not-and : (a b : Bool) → (a && b) ≡ false → (not a || not b) ≡ true
not-and true b e = ap not e
not-and false b e = refl

pub not-or : (a b : Bool) → (a || b) ≡ false → (not a && (not b && true)) ≡ true
not-or true b e = sym e
not-or false b e = one-true (not b) (ap not e)

pub not-and-left : (a b : Bool) → (a && b) ≡ false → a ≡ true → not b ≡ true
not-and-left true b e q = ap not e
not-and-left false b e q = absurd (false≢true q)

pub tests_same : (a b : Bool) → (a ≡ true → b ≡ true) → (b ≡ true → a ≡ true) → a ≡ b
tests_same true b h g = sym (h refl)
tests_same false true h g = g refl
tests_same false false h g = refl

pub implies : (a b : Bool) → (not a || b) ≡ true → a ≡ true → b ≡ true
implies true b e q = e
implies false b e q = absurd (false≢true q)

pub implied : (a b : Bool) → (a ≡ true → b ≡ true) → (not a || b) ≡ true
implied true b h = h refl
implied false b h = refl

module _ {A : Type 0} where
  pub here : {x : A} {xs : List A} → x ∈ (x ∷ xs)
  here = Memᴰ.head refl

  pub there : {x y : A} {xs : List A} → x ∈ xs → x ∈ (y ∷ xs)
  there h = Memᴰ.tail h

  pub cond-elim : {x y : A} (b : Bool) → x ∈ cond b (y ∷ []) [] → (b ≡ true) × (x ≡ y)
  cond-elim true h = (refl, Memᴰ.eq_of_singleton h)
  cond-elim false h = absurd (Memᴰ.not-nil h)

  pub cond-intro : {y : A} (b : Bool) → b ≡ true → y ∈ cond b (y ∷ []) []
  cond-intro true e = here
  cond-intro false e = absurd (false≢true e)

  pub any-intro : (p : A → Bool) {x : A} (l : List A) → x ∈ l → p x ≡ true → any p l ≡ true
  any-intro p [] h e = absurd (Memᴰ.not-nil h)
  any-intro p {x} (y ∷ ys) h e =
      ⊎_elim
      (λ q. or_left (p y) (any p ys) (ap p (sym q) ∙ e))
      (λ m. or_right (p y) (any p ys) (any-intro p ys m e))
      (Memᴰ.cases_cons h)

  pub any-elim : (p : A → Bool) (l : List A) → any p l ≡ true → (x : A) × x ∈ l × (p x ≡ true)
  any-elim p [] e = absurd (false≢true e)
  any-elim p (y ∷ ys) e = ⊎_elim (λ q. (y, here, q)) (λ q. let r = any-elim p ys q in (r.0, there r.1, r.2)) (or_cases (p y) (any p ys) e)

  pub any_none : (p : A → Bool) (l : List A) → any p l ≡ false → (x : A) → x ∈ l → p x ≡ false
  any_none p l e x h = ⊎_elim (λ q. clashing (any p l) (any-intro p l h q) e) (λ q. q) (cases (p x))

  pub any_false : (p : A → Bool) (l : List A) → ((x : A) → x ∈ l → p x ≡ false) → any p l ≡ false
  any_false p l h = ⊎_elim (λ e. let (x, i, q) = any-elim p l e in clashing (p x) q (h x i)) (λ e. e) (cases (any p l))

  pub all-elim : (p : A → Bool) (l : List A) → all p l ≡ true → (x : A) → x ∈ l → p x ≡ true
  all-elim p [] e x h = absurd (Memᴰ.not-nil h)
  all-elim p (y ∷ ys) e x h =
      ⊎_elim
      (λ q. ap p q ∙ and_left (p y) (all p ys) e)
      (λ m. all-elim p ys (and_right (p y) (all p ys) e) x m)
      (Memᴰ.cases_cons h)

  pub all-intro : (p : A → Bool) (l : List A) → ((x : A) → x ∈ l → p x ≡ true) → all p l ≡ true
  all-intro p [] h = refl
  all-intro p (y ∷ ys) h = and_both (p y) (all p ys) (h y here) (all-intro p ys (λ x m. h x (there m)))

  pub all-fails : (p : A → Bool) (l : List A) → all p l ≡ false → (x : A) × x ∈ l × (p x ≡ false)
  all-fails p [] e = absurd (true≢false e)
  all-fails p (y ∷ ys) e =
      ⊎_elim (λ q. (y, here, q)) (λ q. let r = all-fails p ys q in (r.0, there r.1, r.2)) (and-false-cases (p y) (all p ys) e)

  pub all-false : (p : A → Bool) {x : A} (l : List A) → x ∈ l → p x ≡ false → all p l ≡ false
  all-false p {x} l h e = ⊎_elim (λ t. clashing (p x) (all-elim p l t x h) e) (λ t. t) (cases (all p l))

  -- tests that agree on a list's members
  pub any-cong : (p q : A → Bool) (l : List A) → ((x : A) → x ∈ l → p x ≡ q x) → any p l ≡ any q l
  any-cong p q [] h = refl
  any-cong p q (x ∷ xs) h = ap₂ ◌||◌ (h x here) (any-cong p q xs (λ y m. h y (there m)))

  pub all-cong : (p q : A → Bool) (l : List A) → ((x : A) → x ∈ l → p x ≡ q x) → all p l ≡ all q l
  all-cong p q [] h = refl
  all-cong p q (x ∷ xs) h = ap₂ ◌&&◌ (h x here) (all-cong p q xs (λ y m. h y (there m)))

  pub get_or-in : (l : List A) (i : ℕ) (d : A) → i < length l → get_or l i d ∈ l
  get_or-in [] i d h = absurd (omega arith)
  get_or-in (x ∷ xs) zero d h = here
  get_or-in (x ∷ xs) (suc i) d h = there (get_or-in xs i d (omega arith))

  -- what `first` finds: the cases, for a proof
  pub data Found (p : A → Bool) (l : List A) : Maybe A → Type 0 where
    found : {x : A} → x ∈ l → p x ≡ true → Found p l (just x)
    missing : ((x : A) → x ∈ l → p x ≡ false) → Found p l nothing

  pub first-is : (p : A → Bool) (l : List A) → Found p l (first p l)
  first-is p [] = missing (λ x h. absurd (Memᴰ.not-nil h))
  first-is p (y ∷ ys) = step (p y) refl (first p ys) (first-is p ys)
    where
      step : (b : Bool) → p y ≡ b → (o : Maybe A) → Found p ys o → Found p (y ∷ ys) (elim b [ true ↦ just y | false ↦ o ])
      step true e o f = found here e
      step false e (just x) (found h q) = found (there h) q
      step false e nothing (missing h) = missing (λ x m. ⊎_elim (λ q. ap p q ∙ e) (h x) (Memᴰ.cases_cons m))

module _ {A : Type 0} where
  -- x stands in l, and none that stands before it passes
  abbrev pub NoneBefore : (A → Bool) → List A → A → Type 0
  NoneBefore p l x = (ys : List A) × (zs : List A) × (l ≡ ys ++ (x ∷ zs)) × ((y : A) → y ∈ ys → p y ≡ false)

  up_to_first-elim : (p : A → Bool) (l : List A) (x : A) → x ∈ up_to_first p l → NoneBefore p l x
  up_to_first-elim p [] x h = absurd (Memᴰ.not-nil h)
  up_to_first-elim p (y ∷ l) x h = go (p y) refl (up_to_first p l) (up_to_first-elim p l x) h
    where
      now : x ≡ y → NoneBefore p (y ∷ l) x
      now q = ([], l, ap (λ (z : A). z ∷ l) (sym q), λ z i. absurd (Memᴰ.not-nil i))

      go : (b : Bool) → p y ≡ b → (r : List A) → (x ∈ r → NoneBefore p l x) → x ∈ (y ∷ elim b [ true ↦ [] | false ↦ r ]) → NoneBefore p (y ∷ l) x
      go true e r k h = ⊎_elim now (λ m. absurd (Memᴰ.not-nil m)) (Memᴰ.cases_cons h)
      go false e r k h =
          ⊎_elim now
          (λ m. let (ys, zs, q, none) = k m in (y ∷ ys, zs, ap (λ (t : List A). y ∷ t) q, λ z i. ⊎_elim (λ w. ap p w ∙ e) (none z) (Memᴰ.cases_cons i)))
          (Memᴰ.cases_cons h)

  up_to_first-intro : (p : A → Bool) (ys zs : List A) (x : A) → ((y : A) → y ∈ ys → p y ≡ false) → x ∈ up_to_first p (ys ++ (x ∷ zs))
  up_to_first-intro p [] zs x h = here
  up_to_first-intro p (y ∷ ys) zs x h = rw (h y here) (there (up_to_first-intro p ys zs x (λ z i. h z (there i))))

  pub up_to_first-is : (p : A → Bool) (l : List A) (x : A) → (x ∈ up_to_first p l) ↔ NoneBefore p l x
  up_to_first-is p l x = (up_to_first-elim p l x, λ (ys, zs, e, none). rw e (up_to_first-intro p ys zs x none))

  pub up_to_first-in : (p : A → Bool) (l : List A) (x : A) → x ∈ up_to_first p l → x ∈ l
  up_to_first-in p l x h = let (ys, zs, e, none) = up_to_first-elim p l x h in rw e (Memᴰ.append_right ys here)

  -- the first that passes is there
  pub up_to_first-found : (p : A → Bool) (l : List A) (x : A) → first p l ≡ just x → x ∈ up_to_first p l
  up_to_first-found p [] x e = absurd (let z : ◌≡◌ {A = ℕ} 0 1 = cc in omega arith)
  up_to_first-found p (y ∷ l) x e = go (p y) (up_to_first-found p l x) e
    where
      go : (b : Bool) → (first p l ≡ just x → x ∈ up_to_first p l) → elim b as (λ _. Maybe A) [ true ↦ just y | false ↦ first p l ] ≡ just x
          → x ∈ (y ∷ elim b [ true ↦ [] | false ↦ up_to_first p l ])
      go true k e = let q : x ≡ y = cc in Memᴰ.head q
      go false k e = there (k e)

module _ {A : Type 0} where
  pub filter-step : (p : A → Bool) (x : A) (xs : List A) → ((p x ≡ true) × (filter p (x ∷ xs) ≡ x ∷ filter p xs))
      ⊎ ((p x ≡ false) × (filter p (x ∷ xs) ≡ filter p xs))
  filter-step p x xs = go (p x)
    where
      go : (b : Bool) → ((b ≡ true) × (elim b as (λ _. List A) [ true ↦ x ∷ filter p xs | false ↦ filter p xs ] ≡ x ∷ filter p xs))
          ⊎ ((b ≡ false) × (elim b as (λ _. List A) [ true ↦ x ∷ filter p xs | false ↦ filter p xs ] ≡ filter p xs))
      go true = inl (refl, refl)
      go false = inr (refl, refl)

  pub filter-intro : (p : A → Bool) {x : A} (l : List A) → x ∈ l → p x ≡ true → x ∈ filter p l
  filter-intro p [] h e = absurd (Memᴰ.not-nil h)
  filter-intro p {x} (y ∷ ys) h e =
      ⊎_elim
      (λ s. rw s.1 (⊎_elim (λ q. Memᴰ.head q) (λ m. there (filter-intro p ys m e)) (Memᴰ.cases_cons h)))
      (λ s. rw s.1 (⊎_elim (λ q. clashing (p x) e (ap p q ∙ s.0)) (λ m. filter-intro p ys m e) (Memᴰ.cases_cons h)))
      (filter-step p y ys)

  pub filter-elim : (p : A → Bool) {x : A} (l : List A) → x ∈ filter p l → (x ∈ l) × (p x ≡ true)
  filter-elim p [] h = absurd (Memᴰ.not-nil h)
  filter-elim p {x} (y ∷ ys) h =
      ⊎_elim
      (λ s. ⊎_elim (λ q. (Memᴰ.head q, ap p q ∙ s.0)) (λ m. let r = filter-elim p ys m in (there r.0, r.1)) (Memᴰ.cases_cons (rw s.1 at h)))
      (λ s. let r = filter-elim p ys (rw s.1 at h) in (there r.0, r.1))
      (filter-step p y ys)

  pub filter-append : (p : A → Bool) (l m : List A) → filter p (l ++ m) ≡ filter p l ++ filter p m
  filter-append p [] m = refl
  filter-append p (x ∷ xs) m =
      ⊎_elim
      (λ (e : p x ≡ true). rw (e, filter) (ap (λ (r : List A). x ∷ r) (filter-append p xs m)))
      (λ (e : p x ≡ false). rw (e, filter) (filter-append p xs m))
      (cases (p x))

  pub filter-length : (p : A → Bool) (l : List A) → length (filter p l) ≤ length l
  filter-length p [] = omega arith
  filter-length p (x ∷ xs) =
      ⊎_elim (λ s. rw s.1 (omega (arith, filter-length p xs))) (λ s. rw s.1 (omega (arith, filter-length p xs))) (filter-step p x xs)

  -- nothing was struck out, or the list is shorter
  pub filter_same : (p : A → Bool) (l : List A) → (filter p l ≡ l) ⊎ (length (filter p l) < length l)
  filter_same p [] = inl refl
  filter_same p (x ∷ xs) =
      ⊎_elim
      (λ s. ⊎_elim (λ q. inl (s.1 ∙ ap {B = List A} (λ r. x ∷ r) q)) (λ q. inr (rw s.1 (omega arith))) (filter_same p xs))
      (λ s. inr (rw s.1 (omega (arith, filter-length p xs))))
      (filter-step p x xs)

module _ {A B : Type 0} where
  pub each_append : (f : A → List B) (xs ys : List A) → each f (xs ++ ys) ≡ each f xs ++ each f ys
  each_append f [] ys = refl
  each_append f (x ∷ xs) ys = ap (λ (r : List B). f x ++ r) (each_append f xs ys) ∙ sym (append_assoc (f x) (each f xs) (each f ys))

  pub each-intro : (f : A → List B) {x : A} {y : B} (l : List A) → x ∈ l → y ∈ f x → y ∈ each f l
  each-intro f [] h m = absurd (Memᴰ.not-nil h)
  each-intro f {x} {y} (z ∷ zs) h m =
      ⊎_elim
      (λ q. Memᴰ.append_left (each f zs) (subst (λ w. y ∈ f w) q m))
      (λ q. Memᴰ.append_right (f z) (each-intro f zs q m))
      (Memᴰ.cases_cons h)

  pub each-elim : (f : A → List B) {y : B} (l : List A) → y ∈ each f l → (x : A) × x ∈ l × y ∈ f x
  each-elim f [] m = absurd (Memᴰ.not-nil m)
  each-elim f (z ∷ zs) m =
      ⊎_elim (λ q. (z, here, q)) (λ q. let r = each-elim f zs q in (r.0, there r.1, r.2)) (Memᴰ.append_cases (f z) m)

pub same? : (i j : ℕ) → (i ≡ j) ⊎ (i ≡ j → ⊥)
same? i j = ⊎_elim (λ e. inl (eqb-true i j e)) (λ e. inr (eqb-false i j e)) (cases (eqb i j))

pub from-intro : (a k i : ℕ) → a ≤ i → i < a + k → i ∈ from a k
from-intro a zero i h g = absurd (omega arith)
from-intro a (suc k) i h g = ⊎_elim (λ e. Memᴰ.head e) (λ e. there (from-intro (suc a) k i (omega arith) (omega arith))) (same? i a)

pub from-elim : (a k i : ℕ) → i ∈ from a k → (a ≤ i) × (i < a + k)
from-elim a zero i h = absurd (Memᴰ.not-nil h)
from-elim a (suc k) i h = ⊎_elim (λ e. (omega arith, omega arith)) (λ m. let r = from-elim (suc a) k i m in (omega arith, omega arith)) (Memᴰ.cases_cons h)

pub up_to-intro : (n i : ℕ) → i < n → i ∈ up_to n
up_to-intro n i h = from-intro 0 n i (omega arith) (omega arith)

pub up_to-elim : (n i : ℕ) → i ∈ up_to n → i < n
up_to-elim n i m = let r = from-elim 0 n i m in omega arith

pub length_from : (a k : ℕ) → length (from a k) ≡ k
length_from a zero = refl
length_from a (suc k) = ap suc (length_from (suc a) k)

-- place i of f over a range
pub map-from : {A : Type 0} (f : ℕ → A) (d : A) (a k i : ℕ) → i < k → get_or (map f (from a k)) i d ≡ f (a + i)
map-from f d a zero i h = absurd (omega arith)
map-from f d a (suc k) zero h = ap f (omega arith)
map-from f d a (suc k) (suc i) h = map-from f d (suc a) k i (omega arith) ∙ ap f (omega arith)

-- two functions that agree below the end of a range
pub map_same : {A : Type 0} (f g : ℕ → A) (a k : ℕ) → ((i : ℕ) → i < a + k → f i ≡ g i) → map f (from a k) ≡ map g (from a k)
map_same f g a zero h = refl
map_same f g a (suc k) h = rw (h a (omega arith), map_same f g (suc a) k (λ i b. h i (omega arith)))

-- one more of a range
from_more : (a k : ℕ) → from a (suc k) ≡ from a k ++ ((a + k) ∷ [])
from_more a zero = ap (λ (n : ℕ). n ∷ []) (omega arith)
from_more a (suc k) =
    let e : suc a + k ≡ a + suc k = omega arith in
    ap (λ (l : List ℕ). a ∷ l) (from_more (suc a) k ∙ ap (λ (n : ℕ). from (suc a) k ++ (n ∷ [])) e)

pub up_to-more : (n : ℕ) → up_to (n + 1) ≡ up_to n ++ (n ∷ [])
up_to-more n = let e : n + 1 ≡ suc n = omega arith in let z : 0 + n ≡ n = omega arith in rw e (from_more 0 n ∙ ap (λ (k : ℕ). up_to n ++ (k ∷ [])) z)
