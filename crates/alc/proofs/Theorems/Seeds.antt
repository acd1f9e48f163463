-- Who asks for a seed, and what a seed has; labels that are the same.
use Rattle.std.specs.Prelude.{ℕ, ◌<◌, true, ◌≡◌, refl, eqb, ◌⊎◌}
use Rattle.std.proofs.Common.{sym, subst, eqb-true, eq-eqb, ⊎_elim}
use mathlib.Core.List.Memᴰ
use mathlib.Core.List.{List, ◌∷◌}
use Rattle.alc.specs.Lists.{◌∈◌, up_to}
use Rattle.alc.specs.Sheet.{some, count, top, Line, or, negation, bottom, only, and, name, line, Sheet}
use Rattle.alc.specs.Label.{blank, Label, has, holds, pushed, Mark, fails}
use Rattle.alc.specs.Seeds.{seeds, same, asks_of, asks, seed_of, Ask, among}
use Rattle.alc.proofs.Theorems.Lists.{and_both, and_right, cond-elim, clashing, each-elim, there, any-elim, any-intro, and_left, up_to-elim}
use Rattle.alc.proofs.Theorems.Label.{has-blank}
use Rattle.alc.proofs.Theorems.Moves.{add_all-has, add_all-cases}

pub same_true : (l k : Label) → same l k ≡ true → l ≡ k
same_true l k e =
    let p : l.holding ≡ k.holding = eqb-true _ _ (and_left (eqb l.holding k.holding) (eqb l.failing k.failing) e) in
    let q : l.failing ≡ k.failing = eqb-true _ _ (and_right (eqb l.holding k.holding) (eqb l.failing k.failing) e) in
    λ i. record { holding = p i; failing = q i }

pub same_refl : (l : Label) → same l l ≡ true
same_refl l = and_both (eqb l.holding l.holding) _ (eq-eqb l.holding l.holding refl) (eq-eqb l.failing l.failing refl)

pub among-true : (l : Label) (ls : List Label) → among l ls ≡ true → l ∈ ls
among-true l ls e = let (k, i, q) = any-elim (same l) ls e in Memᴰ.cast (same_true l k q) i

pub among_in : (l : Label) (ls : List Label) → l ∈ ls → among l ls ≡ true
among_in l ls h = any-intro (same l) ls h (same_refl l)

pub seeds-in : (s : Sheet) (l : Label) (q : Ask) → q ∈ asks s l → q.seed ∈ seeds s l
seeds-in s l q h = Memᴰ.map (λ (q : Ask). q.seed) h

-- line `by` asks for the mark `mark`: it is a "some" that holds, or an "only" that fails
pub data Asking (s : Sheet) (l : Label) (by r : ℕ) (m : Mark) : Type 0 where
  by-some : (j : ℕ) → line s by ≡ some r j → has l (holds by) ≡ true → m ≡ holds j → Asking s l by r m
  by_only : (j : ℕ) → line s by ≡ only r j → has l (fails by) ≡ true → m ≡ fails j → Asking s l by r m

pub record Asker (s : Sheet) (l : Label) (q : Ask) : Type 0 where
  pub by : ℕ
  pub below : by < count s
  pub mark : Mark
  pub asking : Asking s l by q.role mark
  pub seed : q.seed ≡ seed_of s l q.role mark

module _ (s : Sheet) (l : Label) (i : ℕ) (i< : i < count s) (q : Ask) where
  asker-of : (c : Line) → line s i ≡ c → q ∈ asks_of s l (has l (holds i)) (has l (fails i)) c → Asker s l q
  asker-of top e k = absurd (Memᴰ.not-nil k)
  asker-of bottom e k = absurd (Memᴰ.not-nil k)
  asker-of (name a) e k = absurd (Memᴰ.not-nil k)
  asker-of (negation j) e k = absurd (Memᴰ.not-nil k)
  asker-of (and j j') e k = absurd (Memᴰ.not-nil k)
  asker-of (or j j') e k = absurd (Memᴰ.not-nil k)
  asker-of (some r j) e k =
      let (h, p) = cond-elim (has l (holds i)) k in
      subst (Asker s l) (sym p) (record { by = i; below = i<; mark = holds j; asking = by-some j e h refl; seed = refl })
  asker-of (only r j) e k =
      let (h, p) = cond-elim (has l (fails i)) k in
      subst (Asker s l) (sym p) (record { by = i; below = i<; mark = fails j; asking = by_only j e h refl; seed = refl })

pub asks-elim : (s : Sheet) (l : Label) (q : Ask) → q ∈ asks s l → Asker s l q
unfolding asks
asks-elim s l q h =
    let (i, i-in, k) = each-elim (λ i. asks_of s l (has l (holds i)) (has l (fails i)) (line s i)) (up_to (count s)) h in
    asker-of s l i (up_to-elim (count s) i i-in) q (line s i) refl k

-- the marks of a seed
pub seed-cases : (s : Sheet) (l : Label) (r : ℕ) (n m : Mark) → has (seed_of s l r n) m ≡ true → (m ≡ n) ⊎ (m ∈ pushed s r l)
unfolding seed_of
seed-cases s l r n m e =
    ⊎_elim
    (λ k. mathlib.Core.List.Memᴰ.cases_cons k)
    (λ k. clashing (has blank m) k (has-blank m))
    (add_all-cases blank (n ∷ pushed s r l) m e)

pub seed-pushed : (s : Sheet) (l : Label) (q : Ask) → q ∈ asks s l → (m : Mark) → m ∈ pushed s q.role l → has q.seed m ≡ true
unfolding seed_of
seed-pushed s l q h m i =
    let a = asks-elim s l q h in
    rw a.seed (add_all-has blank (a.mark ∷ pushed s q.role l) m (there i))

-- the empty label asks for nothing
pub blank-asks : (s : Sheet) (q : Ask) → q ∈ asks s blank → ⊥
blank-asks s q h = go (asks-elim s blank q h).asking
  where
    go : Asking s blank (asks-elim s blank q h).by q.role (asks-elim s blank q h).mark → ⊥
    go (by-some j e k p) = clashing _ k (has-blank (holds (asks-elim s blank q h).by))
    go (by_only j e k p) = clashing _ k (has-blank (fails (asks-elim s blank q h).by))
