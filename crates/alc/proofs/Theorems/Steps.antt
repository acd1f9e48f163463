-- Each step adds a mark, so that the bound on the number of steps is never met.
use Rattle.std.specs.Prelude.{ℕ, zero, suc, ◌+◌, ◌*◌, ◌≤◌, ◌<◌, Bool, true, false, ◌&&◌, ◌≡◌, refl, List, [], ◌∷◌, length, set, ltb, eqb}
use Rattle.std.proofs.lemmas.Bool.{false≢true}
use Rattle.std.proofs.Common.{true≢false, sym, subst, ⊎_elim, ltb-true, arith}
use mathlib.Core.List.Memᴰ
use Rattle.alc.specs.Lists.{nothing, Maybe, just, ◌∈◌, first}
use Rattle.alc.specs.Sheet.{some, or, RoleAssertion, and, operands_below, Line, only, negation, name, Sheet, top, bottom}
use Rattle.alc.specs.Label.{when_fails, every, when_holds, Mark, fails, handed, line_of, ◌⊆◌, Demand, either, Label, holds, has, add_all}
use Rattle.alc.specs.Settle.{who, settled, moves, label, next, Move, meet, adds, clashed, closes, Joint, wanted, mark_at}
use Rattle.alc.proofs.Theorems.Lists.{first-is, and_left, and_right, same?, Found, cond-elim, missing, found}
use Rattle.alc.proofs.Theorems.Moves.{moves-elim, add_all-has, Listed, add_all-keeps, moves-intro}

-- ---- the number of marks still unset, of lines below n
abbrev pub unset : Bool → ℕ
unset true = 0
unset false = 1

pub unset_in : ℕ → Label → ℕ
unset_in zero l = 0
unset_in (suc n) l = unset (has l (holds n)) + unset (has l (fails n)) + unset_in n l

pub unset_all : ℕ → Joint → ℕ
unset_all n [] = 0
unset_all n (l ∷ J) = unset_in n l + unset_all n J

unset-le : (a b : Bool) → (a ≡ true → b ≡ true) → unset b ≤ unset a
unset-le true true h = omega arith
unset-le true false h = absurd (false≢true (h refl))
unset-le false true h = omega arith
unset-le false false h = omega arith

unset-lt : (a b : Bool) → a ≡ false → b ≡ true → unset b < unset a
unset-lt true b p q = absurd (true≢false p)
unset-lt false true p q = omega arith
unset-lt false false p q = absurd (false≢true q)

unset-in-le : (n : ℕ) (l k : Label) → l ⊆ k → unset_in n k ≤ unset_in n l
unfolding unset_in
unset-in-le zero l k h = omega arith
unset-in-le (suc n) l k h =
    omega (arith, unset-in-le n l k h, unset-le (has l (holds n)) (has k (holds n)) (h (holds n)), unset-le (has l (fails n)) (has k (fails n)) (h (fails n)))

pub unset-in-lt : (n : ℕ) (l k : Label) (m : Mark) → l ⊆ k → line_of m < n → has l m ≡ false → has k m ≡ true → unset_in n k < unset_in n l
unfolding unset_in
unset-in-lt zero l k m h b p q = absurd (omega arith)
unset-in-lt (suc n) l k (holds i) h b p q =
    let hf = unset-le (has l (fails n)) (has k (fails n)) (h (fails n)) in
    ⊎_elim
    (λ e. let hh : unset (has k (holds n)) < unset (has l (holds n)) = rw (← e) (unset-lt (has l (holds i)) (has k (holds i)) p q) in
    omega (arith, unset-in-le n l k h))
    (λ e. let hh = unset-le (has l (holds n)) (has k (holds n)) (h (holds n)) in
    omega (arith, unset-in-lt n l k (holds i) h (omega arith) p q))
    (same? i n)
unset-in-lt (suc n) l k (fails i) h b p q =
    let hh = unset-le (has l (holds n)) (has k (holds n)) (h (holds n)) in
    ⊎_elim
    (λ e. let hf : unset (has k (fails n)) < unset (has l (fails n)) = rw (← e) (unset-lt (has l (fails i)) (has k (fails i)) p q) in
    omega (arith, unset-in-le n l k h))
    (λ e. let hf = unset-le (has l (fails n)) (has k (fails n)) (h (fails n)) in
    omega (arith, unset-in-lt n l k (fails i) h (omega arith) p q))
    (same? i n)

unset-bound : (a : Bool) → unset a ≤ 1
unset-bound true = omega arith
unset-bound false = omega arith

unset-in-bound : (n : ℕ) (l : Label) → unset_in n l ≤ 2 * n
unfolding unset_in
unset-in-bound zero l = omega arith
unset-in-bound (suc n) l = omega (arith, unset-in-bound n l, unset-bound (has l (holds n)), unset-bound (has l (fails n)))

pub unset_all-bound : (n : ℕ) (J : Joint) → unset_all n J ≤ 2 * n * length J
unfolding unset_all
unset_all-bound n [] = omega arith
unset_all-bound n (l ∷ J) = omega (arith, unset-in-bound n l, unset_all-bound n J)

unset_all-set : (n : ℕ) (J : Joint) (a : ℕ) (k : Label) → a < length J → unset_all n (set J a k) + unset_in n (label J a) ≡ unset_all n J + unset_in n k
unfolding unset_all
unset_all-set n [] a k h = absurd (omega arith)
unset_all-set n (l ∷ J) zero k h = omega arith
unset_all-set n (l ∷ J) (suc a) k h = omega (arith, unset_all-set n J a k (omega arith))

-- marks that are new lessen what is left
pub mark-less : (n : ℕ) (J : Joint) (a : ℕ) (ms : List Mark) (m : Mark) → a < length J → m ∈ ms → line_of m < n → has (label J a) m ≡ false
    → unset_all n (mark_at J a ms) < unset_all n J
mark-less n J a ms m h i b e =
    omega (
      arith,
      unset_all-set n J a (add_all (label J a) ms) h,
      unset-in-lt n (label J a) (add_all (label J a) ms) m (add_all-keeps (label J a) ms) b e (add_all-has (label J a) ms m i),
    )

-- ---- the marks that a demand may add are of lines below n
abbrev pub DemandBelow : ℕ → Demand → Type 0
DemandBelow n (every ms) = (m : Mark) → m ∈ ms → line_of m < n
DemandBelow n (either m k) = (line_of m < n) × (line_of k < n)

pub none_below : (n : ℕ) → DemandBelow n (every [])
none_below n m h = absurd (Memᴰ.not-nil h)

one_below : (n : ℕ) (m : Mark) → line_of m < n → DemandBelow n (every (m ∷ []))
one_below n m b k h = ⊎_elim (λ q. subst (λ (x : Mark). line_of x < n) (sym q) b) (λ g. none_below n k g) (Memᴰ.cases_cons h)

two-below : (n : ℕ) (m m' : Mark) → line_of m < n → line_of m' < n → DemandBelow n (every (m ∷ m' ∷ []))
two-below n m m' b b' k h = ⊎_elim (λ q. subst (λ (x : Mark). line_of x < n) (sym q) b) (λ g. one_below n m' b' k g) (Memᴰ.cases_cons h)

pub holds-below : (n : ℕ) (c : Line) → operands_below n c ≡ true → DemandBelow n (when_holds c)
holds-below n top e = none_below n
holds-below n bottom e = none_below n
holds-below n (name a) e = none_below n
holds-below n (negation i) e = one_below n (fails i) (ltb-true i n e)
holds-below n (and i j) e = two-below n (holds i) (holds j) (ltb-true i n (and_left (ltb i n) (ltb j n) e)) (ltb-true j n (and_right (ltb i n) (ltb j n) e))
holds-below n (or i j) e = (ltb-true i n (and_left (ltb i n) (ltb j n) e), ltb-true j n (and_right (ltb i n) (ltb j n) e))
holds-below n (some r i) e = none_below n
holds-below n (only r i) e = none_below n

pub fails-below : (n : ℕ) (c : Line) → operands_below n c ≡ true → DemandBelow n (when_fails c)
fails-below n top e = none_below n
fails-below n bottom e = none_below n
fails-below n (name a) e = none_below n
fails-below n (negation i) e = one_below n (holds i) (ltb-true i n e)
fails-below n (and i j) e = (ltb-true i n (and_left (ltb i n) (ltb j n) e), ltb-true j n (and_right (ltb i n) (ltb j n) e))
fails-below n (or i j) e = two-below n (fails i) (fails j) (ltb-true i n (and_left (ltb i n) (ltb j n) e)) (ltb-true j n (and_right (ltb i n) (ltb j n) e))
fails-below n (some r i) e = none_below n
fails-below n (only r i) e = none_below n

pub handed-below : (n : ℕ) (c : Line) → operands_below n c ≡ true → (r : ℕ) (h f : Bool) (m : Mark) → m ∈ handed r h f c → line_of m < n
handed-below n top e r h f m k = absurd (Memᴰ.not-nil k)
handed-below n bottom e r h f m k = absurd (Memᴰ.not-nil k)
handed-below n (name a) e r h f m k = absurd (Memᴰ.not-nil k)
handed-below n (negation i) e r h f m k = absurd (Memᴰ.not-nil k)
handed-below n (and i j) e r h f m k = absurd (Memᴰ.not-nil k)
handed-below n (or i j) e r h f m k = absurd (Memᴰ.not-nil k)
handed-below n (some t i) e r h f m k = subst (λ (x : Mark). line_of x < n) (sym (cond-elim (eqb t r && f) k).1) (ltb-true i n e)
handed-below n (only t i) e r h f m k = subst (λ (x : Mark). line_of x < n) (sym (cond-elim (eqb t r && h) k).1) (ltb-true i n e)

pub below-mono : (n k : ℕ) (d : Demand) → n ≤ k → DemandBelow n d → DemandBelow k d
below-mono n k (every ms) h b = λ m i. let g = b m i in omega arith
below-mono n k (either x y) h b = omega arith

-- ---- the cases of a step
pub record Settled (s : Sheet) (es : List RoleAssertion) (J : Joint) : Type 0 where
  pub clear : closes s J ≡ false
  pub done : (m : Move) → Listed s es (length J) m → adds s J m ≡ false

pub data View (s : Sheet) (es : List RoleAssertion) (J : Joint) : Type 0 where
  is-clashed : closes s J ≡ true → next s es J ≡ clashed → View s es J
  is-settled : Settled s es J → next s es J ≡ settled → View s es J
  is-step : (m : Move) → Listed s es (length J) m → adds s J m ≡ true → next s es J ≡ meet J (who m) (wanted s J m) → View s es J

pub view : (s : Sheet) (es : List RoleAssertion) (J : Joint) → View s es J
unfolding next
view s es J = go (closes s J) refl (first (adds s J) (moves s es (length J))) refl (first-is (adds s J) (moves s es (length J)))
  where
    go : (b : Bool) → closes s J ≡ b → (o : Maybe Move) → first (adds s J) (moves s es (length J)) ≡ o → Found (adds s J) (moves s es (length J)) o
        → View s es J
    go true e o q f = is-clashed e (rw (e, next))
    go false e nothing q (missing h) = is-settled (record { clear = e; done = λ m g. h m (moves-intro s es (length J) m g) }) (rw (e, next, q))
    go false e (just m) q (found i a) = is-step m (moves-elim s es (length J) m i) a (rw (e, next, q))
