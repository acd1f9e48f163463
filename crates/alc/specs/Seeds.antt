-- Seeds: what a settled label asks for, which seeds are reached from which, how many there can be, and which are satisfiable.
-- Document 01, "Labels and the order of the rules", from "A settled label asks for seeds" on. `Ask` is the type of src/lib.rt. Definitions only.
use Rattle.std.specs.Prelude.{ℕ, zero, suc, ◌-◌, ◌*◌, ◌^◌, ◌<◌, Bool, true, false, cond, ◌&&◌, ◌≡◌, List, [], ◌∷◌, ◌++◌, map, length, eqb, ltb}
use Rattle.alc.specs.Lists.{any, all, filter, up_to, each, sublists, remove_one}
use Rattle.alc.specs.Sheet.{Line, top, bottom, name, negation, and, or, some, only, Sheet, count, line}
use Rattle.alc.specs.Meaning.{Interpretation, meets_rules}
use Rattle.alc.specs.Label.{Mark, holds, fails, Label, blank, has, add_all, pushed, TrueAt}
use Rattle.alc.specs.Settle.{label, settle}
-- the role along which a seed is asked for, and the seed
pub use Rattle.alc.specs.declared.Ask.{Ask}

-- the mark that is asked for, "together with" all that goes along the role
unfoldable pub seed_of : Sheet → Label → ℕ → Mark → Label
seed_of s l r m = add_all blank (m ∷ pushed s r l)

-- "for each some r i that holds, i holds; for each only r i that fails, i fails"
abbrev pub asks_of : Sheet → Label → Bool → Bool → Line → List Ask
asks_of s l h f top = []
asks_of s l h f bottom = []
asks_of s l h f (name a) = []
asks_of s l h f (negation i) = []
asks_of s l h f (and i j) = []
asks_of s l h f (or i j) = []
asks_of s l h f (some r i) = cond h (record { role = r; seed = seed_of s l r (holds i) } ∷ []) []
asks_of s l h f (only r i) = cond f (record { role = r; seed = seed_of s l r (fails i) } ∷ []) []

-- what a settled label asks for, "asking lines ascending"
unfoldable pub asks : Sheet → Label → List Ask
asks s l = each (λ i. asks_of s l (has l (holds i)) (has l (fails i)) (line s i)) (up_to (count s))

abbrev pub seeds : Sheet → Label → List Label
seeds s l = map (λ (q : Ask). q.seed) (asks s l)

-- the settled expansions of a seed, first branch first
unfoldable pub expansions : Sheet → Label → List Label
expansions s l = map (λ K. label K 0) (settle s [] (l ∷ []))

-- ---- "A seed is satisfiable if some finite interpretation that meets the rules has an element where all its marks are true"
pub record SeedSatisfiable (s : Sheet) (l : Label) : Type 0 where
  pub interpretation : Interpretation
  pub meets : meets_rules s interpretation ≡ true
  pub element : ℕ
  pub inside : element < interpretation.size
  pub true-there : TrueAt s interpretation l element

-- ---- lists of labels as sets
abbrev pub same : Label → Label → Bool
same l k = eqb l.holding k.holding && eqb l.failing k.failing

abbrev pub among : Label → List Label → Bool
among l ls = any (same l) ls

-- l at the end of C, unless it is there
abbrev pub include : List Label → Label → List Label
include C l = elim (among l C) [ true ↦ C | false ↦ C ++ (l ∷ []) ]

abbrev pub include_all : List Label → List Label → List Label
include_all C [] = C
include_all C (l ∷ ls) = include_all (include C l) ls

-- go through C from place i on, at most so many places, adding at its end what is new of `after` each: breadth first, "in the order first asked for"
abbrev pub reach : (Label → List Label) → ℕ → ℕ → List Label → List Label
reach after zero i C = C
reach after (suc f) i C = elim (ltb i (length C)) [ true ↦ reach after f (suc i) (include_all C (after (label C i))) | false ↦ C ]

-- the seeds of "every settled expansion" of a seed
unfoldable pub successors : Sheet → Label → List Label
successors s l = each (seeds s) (expansions s l)

-- ---- "e the number of some and only lines", and e·2^(e-1)
abbrev pub is_quantified : Line → Bool
is_quantified top = false
is_quantified bottom = false
is_quantified (name a) = false
is_quantified (negation i) = false
is_quantified (and i j) = false
is_quantified (or i j) = false
is_quantified (some r i) = true
is_quantified (only r i) = true

unfoldable pub quantified : Sheet → List ℕ
quantified s = filter (λ i. is_quantified (line s i)) (up_to (count s))

abbrev pub quantifiers : Sheet → ℕ
quantifiers s = length (quantified s)

unfoldable pub bound : Sheet → ℕ
bound s = quantifiers s * 2 ^ (quantifiers s - 1)

-- ---- "Why e·2^(e-1) suffices: a seed is fixed by the line that asked for it and by which other some and only lines contributed"
-- what a some or only line asks for, and what it hands on; other lines do neither, and any mark stands in
abbrev pub asked_mark : Line → Mark
asked_mark top = holds 0
asked_mark bottom = holds 0
asked_mark (name a) = holds 0
asked_mark (negation i) = holds 0
asked_mark (and i j) = holds 0
asked_mark (or i j) = holds 0
asked_mark (some r i) = holds i
asked_mark (only r i) = fails i

abbrev pub handed_mark : Line → Mark
handed_mark top = holds 0
handed_mark bottom = holds 0
handed_mark (name a) = holds 0
handed_mark (negation i) = holds 0
handed_mark (and i j) = holds 0
handed_mark (or i j) = holds 0
handed_mark (some r i) = fails i
handed_mark (only r i) = holds i

-- the seed that line i asks for where the lines of S contribute
unfoldable pub seed_from : Sheet → ℕ → List ℕ → Label
seed_from s i S = add_all blank (asked_mark (line s i) ∷ map (λ j. handed_mark (line s j)) S)

-- all that line i can ask for
unfoldable pub universe_of : Sheet → ℕ → List Label
universe_of s i = map (seed_from s i) (sublists (remove_one i (quantified s)))

-- all that any line can ask for: of these there are e·2^(e-1) (`length-universe`)
unfoldable pub universe : Sheet → List Label
universe s = each (universe_of s) (quantified s)

-- ---- which seeds are satisfiable, by computation: of all that a seed reaches, strike out those none of whose settled expansions has all its
-- seeds left, until nothing changes; the seed is satisfiable if it is left over (`seed-test` is the theorem)
-- all seeds of the settled label k are in A
abbrev pub served : Sheet → List Label → Label → Bool
served s A k = all (λ q. among q A) (seeds s k)

abbrev pub good : Sheet → List Label → Label → Bool
good s A l = any (served s A) (expansions s l)

abbrev pub strike : Sheet → List Label → List Label
strike s A = filter (good s A) A

abbrev pub strikes : Sheet → ℕ → List Label → List Label
strikes s zero A = A
strikes s (suc n) A = strikes s n (strike s A)

unfoldable pub survivors : Sheet → List Label → List Label
survivors s C = strikes s (length C) C

unfoldable pub seed_survives : Sheet → Label → Bool
seed_survives s l = among l (survivors s (reach (successors s) (bound s) 0 (l ∷ [])))

-- all seeds of a settled label are satisfiable
unfoldable pub fine : Sheet → Label → Bool
fine s k = all (seed_survives s) (seeds s k)
