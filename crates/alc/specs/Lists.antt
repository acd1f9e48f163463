-- Small tools on lists that compute: tests of all and any, the first that passes, what passes, f of each, ranges, order.
-- Definitions only; the laws are in proofs/Theorems/Lists.antt and Counting.antt.
use Rattle.std.specs.Prelude.{ℕ, zero, suc, ◌<◌, Bool, true, false, ◌&&◌, ◌||◌, eqb}
use mathlib.Core.List.{List, [], ◌∷◌, ◌++◌, map, Memᴰ}
-- what is found, or nothing
pub use Rattle.std.specs.Prelude.{Option as Maybe, None as nothing, Some as just}

infix 50 ◌∈◌
abbrev pub ◌∈◌ : {A : Type 0} → A → List A → Type 0
◌∈◌ a l = Memᴰ a l

module _ {A : Type 0} where
  -- a recursive result is bound by `let`, so that it is computed only where it is asked for
  abbrev pub any : (A → Bool) → List A → Bool
  any p [] = false
  any p (x ∷ xs) = let r = any p xs in p x || r

  abbrev pub all : (A → Bool) → List A → Bool
  all p [] = true
  all p (x ∷ xs) = let r = all p xs in p x && r

  -- the first that passes
  abbrev pub first : (A → Bool) → List A → Maybe A
  first p [] = nothing
  first p (x ∷ xs) = let r = first p xs in elim (p x) [ true ↦ just x | false ↦ r ]

  -- up to and including the first that passes; all, if none does
  abbrev pub up_to_first : (A → Bool) → List A → List A
  up_to_first p [] = []
  up_to_first p (x ∷ xs) = let r = up_to_first p xs in x ∷ elim (p x) [ true ↦ [] | false ↦ r ]

  -- those that pass
  abbrev pub filter : (A → Bool) → List A → List A
  filter p [] = []
  filter p (x ∷ xs) = elim (p x) [ true ↦ x ∷ filter p xs | false ↦ filter p xs ]

  -- all lists that leave out some members and keep the order
  abbrev pub sublists : List A → List (List A)
  sublists [] = [] ∷ []
  sublists (x ∷ xs) = map (λ l. x ∷ l) (sublists xs) ++ sublists xs

  -- no member twice
  abbrev pub Distinct : List A → Type 0
  Distinct [] = Unit {0}
  Distinct (x ∷ xs) = (x ∈ xs → ⊥) × Distinct xs

module _ {A B : Type 0} where
  -- f of each, joined
  abbrev pub each : (A → List B) → List A → List B
  each f [] = []
  each f (x ∷ xs) = f x ++ each f xs

-- a, a + 1, .. : k of them
abbrev pub from : ℕ → ℕ → List ℕ
from a zero = []
from a (suc k) = a ∷ from (suc a) k

-- 0, 1, .. n - 1
abbrev pub up_to : ℕ → List ℕ
up_to n = from 0 n

-- l without its first i
abbrev pub remove_one : ℕ → List ℕ → List ℕ
remove_one i [] = []
remove_one i (x ∷ xs) = elim (eqb x i) [ true ↦ xs | false ↦ x ∷ remove_one i xs ]

-- each below all that stand behind it
abbrev pub Ascending : List ℕ → Type 0
Ascending [] = Unit {0}
Ascending (x ∷ xs) = ((y : ℕ) → y ∈ xs → x < y) × Ascending xs
