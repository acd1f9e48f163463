-- The seeds that are reached, in the order first asked for, each once; and that they are all there and at most e·2^(e-1).
use Rattle.std.specs.Prelude.{ℕ, zero, suc, ◌+◌, ◌≤◌, ◌<◌, true, false, ◌≡◌, refl, ◌⊎◌, List, [], ◌∷◌, ◌++◌, length, ltb}
use Rattle.std.proofs.Common.{sym, ◌∙◌, ap, subst, inl, inr, ⊎_elim, append-nil, append_assoc, ltb-true, ltb-false, arith}
use mathlib.Core.List.Memᴰ
use Rattle.std.proofs.Math.ListN.{get_or-append}
use Rattle.alc.specs.Lists.{◌∈◌, Distinct}
use Rattle.alc.specs.Sheet.{Sheet}
use Rattle.alc.specs.Label.{blank, Label}
use Rattle.alc.specs.Settle.{label}
use Rattle.alc.specs.Seeds.{seeds, bound, asks, reach, successors, Ask, include_all, include, expansions, among, universe}
use Rattle.alc.proofs.Theorems.Lists.{cases, clashing, each-elim, same?, here, there, each-intro}
use Rattle.alc.proofs.Theorems.Counting.{distinct_snoc, pigeon}
use Rattle.alc.proofs.Theorems.Moves.{label-of, label-in}
use Rattle.alc.proofs.Theorems.Seeds.{seeds-in, among_in, among-true}
use Rattle.alc.proofs.Theorems.Expand.{expand-finds}
use Rattle.alc.proofs.Theorems.Survive.{Closed}
use Rattle.alc.proofs.Theorems.Bound.{length-universe, seed-in-universe}

-- C has all that is after what it has
abbrev pub ClosedBy : (Label → List Label) → List Label → Type 0
ClosedBy after C = (l : Label) → l ∈ C → (q : Label) → q ∈ after l → q ∈ C

-- ---- laws of `include`
pub include-step : (C : List Label) (l : Label) → ((l ∈ C) × (include C l ≡ C)) ⊎ ((l ∈ C → ⊥) × (include C l ≡ C ++ (l ∷ [])))
include-step C l =
    ⊎_elim
    (λ e. inl (among-true l C e, rw (e, include)))
    (λ e. inr ((λ m. clashing (among l C) (among_in l C m) e), rw (e, include)))
    (cases (among l C))

pub include_all-append : (C xs ys : List Label) → include_all C (xs ++ ys) ≡ include_all (include_all C xs) ys
include_all-append C [] ys = refl
include_all-append C (x ∷ xs) ys = include_all-append (include C x) xs ys

-- what holds of all that is there and of all that comes after what is there holds of all that is reached
include-all : (P : Label → Type 0) (C : List Label) (k : Label) → ((l : Label) → l ∈ C → P l) → P k → (l : Label) → l ∈ include C k → P l
include-all P C k h p l i =
    ⊎_elim
    (λ t. h l (rw t.1 at i))
    (λ t. ⊎_elim (λ m. h l m) (λ m. subst P (sym (Memᴰ.eq_of_singleton m)) p) (Memᴰ.append_cases C (rw t.1 at i)))
    (include-step C k)

pub include_all-all : (P : Label → Type 0) (C ls : List Label) → ((l : Label) → l ∈ C → P l) → ((l : Label) → l ∈ ls → P l) → (l : Label) → l ∈ include_all C ls
    → P l
include_all-all P C [] h p = h
include_all-all P C (k ∷ ls) h p = include_all-all P (include C k) ls (include-all P C k h (p k here)) (λ l i. p l (there i))

pub reach-all : (P : Label → Type 0) (after : Label → List Label) → ((l : Label) → P l → (q : Label) → q ∈ after l → P q)
    → (f i : ℕ) (C : List Label) → ((l : Label) → l ∈ C → P l) → (l : Label) → l ∈ reach after f i C → P l
reach-all P after h zero i C p = p
reach-all P after h (suc f) i C p =
    ⊎_elim
    (λ (e : ltb i (length C) ≡ true). rw (e, reach)
    (reach-all P after h f (suc i) (include_all C (after (label C i)))
    (include_all-all P C (after (label C i)) p (h (label C i) (p (label C i) (label-in C i (ltb-true i (length C) e)))))))
    (λ (e : ltb i (length C) ≡ false). rw (e, reach) p)
    (cases (ltb i (length C)))

-- D is C with more behind it; each once; and from the universe
pub record Grows (s : Sheet) (C D : List Label) : Type 0 where
  pub rest : List Label
  pub is : D ≡ C ++ rest
  pub distinct : Distinct D
  pub known : (l : Label) → l ∈ D → l ∈ universe s

pub grown-in : (s : Sheet) (C D : List Label) → Grows s C D → (l : Label) → l ∈ C → l ∈ D
grown-in s C D g l h = rw g.is (Memᴰ.append_left g.rest h)

pub grown-at : (s : Sheet) (C D : List Label) → Grows s C D → (i : ℕ) → i < length C → label D i ≡ label C i
grown-at s C D g i h = rw g.is (get_or-append C g.rest blank i h)

pub grown-bound : (s : Sheet) (C D : List Label) → Grows s C D → length D ≤ bound s
grown-bound s C D g = omega (arith, pigeon D (universe s) g.distinct g.known, length-universe s)

pub grown-refl : (s : Sheet) (C : List Label) → Distinct C → ((l : Label) → l ∈ C → l ∈ universe s) → Grows s C C
grown-refl s C d k = record { rest = []; is = sym (append-nil C); distinct = d; known = k }

pub grown-trans : (s : Sheet) (C D E : List Label) → Grows s C D → Grows s D E → Grows s C E
grown-trans s C D E g h = record {
  rest = g.rest ++ h.rest;
  is = h.is ∙ ap (λ (x : List Label). x ++ h.rest) g.is ∙ append_assoc C g.rest h.rest;
  distinct = h.distinct;
  known = h.known;
}

module _ (s : Sheet) where
  include-grown : (C : List Label) (l : Label) → Grows s C C → l ∈ universe s → Grows s C (include C l) × (l ∈ include C l)
  include-grown C l g u =
      ⊎_elim
      (λ t. rw t.1 (g, t.0))
      (λ t. rw t.1 (
        record {
          rest = l ∷ [];
          is = refl;
          distinct = distinct_snoc C l g.distinct t.0;
          known = λ k i. ⊎_elim (λ m. g.known k m) (λ m. Memᴰ.cast (Memᴰ.eq_of_singleton m) u) (Memᴰ.append_cases C i);
        },
        Memᴰ.append_right C here,
      ))
      (include-step C l)

  pub again : (C D : List Label) → Grows s C D → Grows s D D
  again C D g = grown-refl s D g.distinct g.known

  pub include_all-grown : (C ls : List Label) → Grows s C C → ((l : Label) → l ∈ ls → l ∈ universe s) → Grows s C (include_all C ls)
      × ((l : Label) → l ∈ ls → l ∈ include_all C ls)
  include_all-grown C [] g u = (g, λ l i. absurd (Memᴰ.not-nil i))
  include_all-grown C (k ∷ ls) g u =
      let (g₁, k-in) = include-grown C k g (u k here) in
      let (g₂, all_in) = include_all-grown (include C k) ls (again C (include C k) g₁) (λ l i. u l (there i)) in (
        grown-trans s C (include C k) (include_all (include C k) ls) g₁ g₂,
        λ l i. ⊎_elim
            (λ q. grown-in s (include C k) (include_all (include C k) ls) g₂ l (Memᴰ.cast q k-in))
            (λ m. all_in l m)
            (Memᴰ.cases_cons i),
      )

  -- the seeds of a settled label are in the universe
  pub successors-known : (l q : Label) → q ∈ successors s l → q ∈ universe s
  unfolding successors
  successors-known l q h =
      let (k, k-in, i) = each-elim (seeds s) (expansions s l) h in
      let (a, a_in, e) = Memᴰ.of_map (λ (a : Ask). a.seed) (asks s k) i in
      let (quiet, more) = expand-finds s l k k-in in
      Memᴰ.cast (sym e) (seed-in-universe s k quiet.clear a a_in)

  pub closed-by-successors : (C : List Label) → ClosedBy (successors s) C → Closed s C
  unfolding successors
  closed-by-successors C cl l h k k-in q q-in = cl l h q.seed (each-intro (seeds s) (expansions s l) k-in (seeds-in s k q q-in))

  module _ (after : Label → List Label) (after-known : (l q : Label) → q ∈ after l → q ∈ universe s) where
    -- the places below i are done
    abbrev pub Done : ℕ → List Label → Type 0
    Done i C = (j : ℕ) → j < i → j < length C → (q : Label) → q ∈ after (label C j) → q ∈ C

    done-closed : (i : ℕ) (C : List Label) → length C ≤ i → Done i C → ClosedBy after C
    done-closed i C h d l l-in q q-in =
        let (j, j<, e) = label-of C l l-in in
        d j (omega arith) j< q (rw e q-in)

    pub reach-closed : (f i : ℕ) (C : List Label) → Grows s C C → Done i C → bound s ≤ i + f → Grows s C (reach after f i C)
        × ClosedBy after (reach after f i C)
    reach-closed zero i C g d b = (g, done-closed i C (omega (arith, grown-bound s C C g)) d)
    reach-closed (suc f) i C g d b =
        ⊎_elim
        (λ (e : ltb i (length C) ≡ true). let (g₁, all_in) = include_all-grown C (after (label C i)) g (after-known (label C i)) in
        let D = include_all C (after (label C i)) in
        let i< : i < length C = ltb-true i (length C) e in
        let d₁ : Done (suc i) D = λ j j< j<D q q-in.
        ⊎_elim
        (λ (p : j ≡ i). all_in q (rw (grown-at s C D g₁ j (omega arith), p) at q-in))
        (λ p. grown-in s C D g₁ q (d j (omega arith) (omega arith) q (rw (grown-at s C D g₁ j (omega arith)) at q-in)))
        (same? j i) in
        let (g₂, cl) = reach-closed f (suc i) D (again C D g₁) d₁ (omega arith) in
        rw (e, reach) (grown-trans s C D (reach after f (suc i) D) g₁ g₂, cl))
        (λ (e : ltb i (length C) ≡ false). rw (e, reach) (g, done-closed i C (ltb-false i (length C) e) d))
        (cases (ltb i (length C)))
