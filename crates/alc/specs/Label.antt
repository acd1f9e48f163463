-- Labels: sets of marks. What a mark asks for, what clashes, what goes along a role; and where a label is true.
-- Document 01, "Labels and the order of the rules". `Label` and `Mark` are the types of src/lib.rt. Definitions only.
use Rattle.std.specs.Prelude.{ℕ, ◌<◌, Bool, true, false, not as flip, ◌&&◌, ◌||◌, cond, ◌≡◌, List, [], ◌∷◌, eqb}
use Rattle.std.specs.Int.Bits.{bit_or}
use Rattle.alc.specs.Bits.{bit, put}
use Rattle.alc.specs.Lists.{any, all, up_to, each}
use Rattle.alc.specs.Sheet.{Line, top, bottom, name, negation, and, or, some, only, Sheet, count, line}
use Rattle.alc.specs.Meaning.{Interpretation, truth}
-- bit i of `holding` is the mark that line i holds, bit i of `failing` that it fails
pub use Rattle.alc.specs.declared.Label.{Label}
-- "Each line may be marked holds or fails"
pub use Rattle.alc.specs.declared.Mark.{Mark}
pub use Rattle.alc.specs.declared.Mark.TheVariants.{Holds as holds, Fails as fails}

abbrev pub line_of : Mark → ℕ
line_of (holds i) = i
line_of (fails i) = i

-- "a label is a set of such marks, a value of its own"
abbrev pub blank : Label
blank = record { holding = 0; failing = 0 }

abbrev pub has : Label → Mark → Bool
has l (holds i) = bit l.holding i
has l (fails i) = bit l.failing i

-- "adding a mark gives a new label"
abbrev pub add : Label → Mark → Label
add l (holds i) = record { holding = put l.holding i; failing = l.failing }
add l (fails i) = record { holding = l.holding; failing = put l.failing i }

abbrev pub add_all : Label → List Mark → Label
add_all l [] = l
add_all l (m ∷ ms) = add_all (add l m) ms

-- the marks of both
abbrev pub join : Label → Label → Label
join l k = record { holding = bit_or l.holding k.holding; failing = bit_or l.failing k.failing }

-- all marks of l are in k
infix 50 ◌⊆◌
abbrev pub ◌⊆◌ : Label → Label → Type 0
l ⊆ k = (m : Mark) → has l m ≡ true → has k m ≡ true

-- ---- "It clashes if it has both marks of one line, a name holding on one line and failing on another, bottom holding or top failing"
abbrev pub is_top : Line → Bool
is_top top = true
is_top bottom = false
is_top (name a) = false
is_top (negation i) = false
is_top (and i j) = false
is_top (or i j) = false
is_top (some r i) = false
is_top (only r i) = false

abbrev pub is_bottom : Line → Bool
is_bottom top = false
is_bottom bottom = true
is_bottom (name a) = false
is_bottom (negation i) = false
is_bottom (and i j) = false
is_bottom (or i j) = false
is_bottom (some r i) = false
is_bottom (only r i) = false

abbrev pub is_name : ℕ → Line → Bool
is_name a top = false
is_name a bottom = false
is_name a (name b) = eqb a b
is_name a (negation i) = false
is_name a (and i j) = false
is_name a (or i j) = false
is_name a (some r i) = false
is_name a (only r i) = false

abbrev pub same_name : Line → Line → Bool
same_name top d = false
same_name bottom d = false
same_name (name a) d = is_name a d
same_name (negation i) d = false
same_name (and i j) d = false
same_name (or i j) d = false
same_name (some r i) d = false
same_name (only r i) d = false

unfoldable pub clashes_at : Sheet → Label → ℕ → Bool
clashes_at s l i =
    has l (holds i) && is_bottom (line s i)
    || has l (fails i) && is_top (line s i)
    || has l (holds i) && has l (fails i)
    || has l (holds i) && any (λ j. has l (fails j) && same_name (line s i) (line s j)) (up_to (count s))

unfoldable pub clashes : Sheet → Label → Bool
clashes s l = any (clashes_at s l) (up_to (count s))

-- ---- what a mark demands of the label that has it: every mark of a list, or one of two (a split)
pub data Demand : Type 0 where
  every : List Mark → Demand
  either : Mark → Mark → Demand

-- "not i holds: i fails", "and holds: both hold", "or holds: split, first operand holds or second holds"
abbrev pub when_holds : Line → Demand
when_holds top = every []
when_holds bottom = every []
when_holds (name a) = every []
when_holds (negation i) = every (fails i ∷ [])
when_holds (and i j) = every (holds i ∷ holds j ∷ [])
when_holds (or i j) = either (holds i) (holds j)
when_holds (some r i) = every []
when_holds (only r i) = every []

-- "not i fails: i holds", "or fails: both fail", "And fails: split likewise with fails"
abbrev pub when_fails : Line → Demand
when_fails top = every []
when_fails bottom = every []
when_fails (name a) = every []
when_fails (negation i) = every (holds i ∷ [])
when_fails (and i j) = either (fails i) (fails j)
when_fails (or i j) = every (fails i ∷ fails j ∷ [])
when_fails (some r i) = every []
when_fails (only r i) = every []

abbrev pub demand : Sheet → Mark → Demand
demand s (holds i) = when_holds (line s i)
demand s (fails i) = when_fails (line s i)

-- a demand adds nothing where every mark of it is there; a split, where one of the two is ("unless c fails or d holds already")
abbrev pub met : Label → Demand → Bool
met l (every ms) = all (has l) ms
met l (either m n) = has l m || has l n

-- ---- what goes along a role: "j holds for every only r j that holds and j fails for every some r j that fails, same r"
abbrev pub handed : ℕ → Bool → Bool → Line → List Mark
handed r h f top = []
handed r h f bottom = []
handed r h f (name a) = []
handed r h f (negation i) = []
handed r h f (and i j) = []
handed r h f (or i j) = []
handed r h f (some q i) = cond (eqb q r && f) (fails i ∷ []) []
handed r h f (only q i) = cond (eqb q r && h) (holds i ∷ []) []

unfoldable pub pushed : Sheet → ℕ → Label → List Mark
pushed s r l = each (λ i. handed r (has l (holds i)) (has l (fails i)) (line s i)) (up_to (count s))

-- ---- a mark is true at an element where its line is, or is not; a label, where all its marks are
abbrev pub mark_true : Sheet → Interpretation → Mark → ℕ → Bool
mark_true s I (holds i) x = truth s I i x
mark_true s I (fails i) x = flip (truth s I i x)

abbrev pub TrueAt : Sheet → Interpretation → Label → ℕ → Type 0
TrueAt s I l x = (m : Mark) → line_of m < count s → has l m ≡ true → mark_true s I m x ≡ true
