-- The model that is written, as words; and words read back as an interpretation.
-- Document 01, "The model that is written" and answers 10, 12 and 13. Definitions only.
use Rattle.std.specs.Prelude.{ℕ, zero, suc, ◌+◌, ◌-◌, ◌*◌, ◌^◌, ◌≤◌, ◌<◌, Bool, true, false, ◌&&◌, ◌||◌, cond, ◌≡◌, refl, ◌⊎◌, List, [], ◌∷◌, ◌++◌, map, length, get_or, ltb, leb, eqb}
use Rattle.std.proofs.Common.{ltb-true}
use Rattle.alc.specs.Bits.{bit}
use Rattle.alc.specs.Lists.{any, first, each, up_to, Maybe, nothing, just}
use Rattle.alc.specs.Sheet.{RoleAssertion, Sheet, count, line, name_count, role_count}
use Rattle.alc.specs.Meaning.{Interpretation, meets}
use Rattle.alc.specs.Label.{holds, Label, blank, has, is_name}
use Rattle.alc.specs.Settle.{Joint, label}
use Rattle.alc.specs.Seeds.{Ask, asks, seeds, expansions, same, include_all, reach, bound, fine}
use Rattle.alc.specs.Judge.{first_fine, records_needed}

-- ---- the elements: "individuals, or the unnamed one, with their labels in that first joint label; then seeds in the order first asked for
-- (elements ascending, asking lines ascending), each with its first settled expansion whose seeds are all satisfiable"
abbrev pub or_blank : Maybe Label → Label
or_blank nothing = blank
or_blank (just k) = k

unfoldable pub chosen : Sheet → Label → Label
chosen s l = or_blank (first (fine s) (expansions s l))

unfoldable pub model_seeds : Sheet → Joint → List Label
model_seeds s J = reach (λ l. seeds s (chosen s l)) (bound s) 0 (include_all [] (each (seeds s) J))

-- the label of element x, where J are the individuals, B the seeds, and `ch` chooses their expansions
unfoldable pub label_at : Joint → List Label → (Label → Label) → ℕ → Label
label_at J B ch x = cond (ltb x (length J)) (label J x) (ch (label B (x - length J)))

-- ---- the edges: "from each asker to its seed, and the role assertions"
-- y is the element of the seed that q asks for along r
unfoldable pub leads : Joint → List Label → ℕ → ℕ → Ask → Bool
leads J B r y q = eqb q.role r && (leb (length J) y && same q.seed (label B (y - length J)))

unfoldable pub asserted : ℕ → ℕ → ℕ → RoleAssertion → Bool
asserted r x y e = eqb e.role r && (eqb e.source x && eqb e.target y)

unfoldable pub edge_at : Sheet → List RoleAssertion → Joint → List Label → (Label → Label) → ℕ → ℕ → ℕ → Bool
edge_at s es J B ch r x y = any (leads J B r y) (asks s (label_at J B ch x)) || any (asserted r x y) es

-- "sorted by from, role, to; each once"
unfoldable pub model_edges : Sheet → Joint → List Label → (Label → Label) → List (List ℕ)
model_edges s J B ch =
    each (λ x. each (λ r. each (λ y. cond (edge_at s s.roles J B ch r x y) ((x ∷ r ∷ y ∷ []) ∷ []) []) (up_to (length J + length B))) (up_to role_count))
    (up_to (length J + length B))

-- ---- the words: "number of elements; a mask of true names for each; number of edges; each edge as from, role, to"
-- a name is true where some line of that name holds
unfoldable pub named : Sheet → Label → ℕ → Bool
named s l a = any (λ i. is_name a (line s i) && has l (holds i)) (up_to (count s))

-- bit a of the mask is name a, for the names below n
abbrev pub name_mask : Sheet → Label → ℕ → ℕ
name_mask s l zero = 0
name_mask s l (suc n) = name_mask s l n + cond (named s l n) (2 ^ n) 0

unfoldable pub model_words : Sheet → Joint → List ℕ
model_words s J =
    let B = model_seeds s J in
    let n = length J + length B in
    let es = model_edges s J B (chosen s) in
    n ∷ map (λ x. name_mask s (label_at J B (chosen s) x) name_count) (up_to n) ++ (length es ∷ each (λ e. e) es)

-- ---- 10 with the words, 12, or 13: "the records needed outnumber those lent"
pub record Finding : Type 0 where
  pub number : ℕ
  pub out : List ℕ

abbrev pub told : Sheet → Maybe Joint → Finding
told s nothing = record { number = 12; out = [] }
told s (just J) = record { number = 10; out = model_words s J }

unfoldable pub satisfy_answer : Sheet → ℕ → Finding
satisfy_answer s room = elim (ltb room (length (records_needed s []))) [ true ↦ record { number = 13; out = [] } | false ↦ told s (first_fine s []) ]

-- ---- words read back
-- individual a is element a; a number that is no element stands for element 0
unfoldable pub element_of : ℕ → ℕ → ℕ
element_of n a = cond (ltb a n) a 0

pub element-below : (n : ℕ) → 0 < n → (a : ℕ) → element_of n a < n
unfolding element_of
element-below n some_one a = go (ltb a n) refl
  where
    go : (b : Bool) → ltb a n ≡ b → cond b a 0 < n
    go true e = ltb-true a n e
    go false e = some_one

module _ (ws : List ℕ) where
  abbrev pub word : ℕ → ℕ
  word i = get_or ws i 0

  abbrev pub elements : ℕ
  elements = word 0

  abbrev pub mask : ℕ → ℕ
  mask x = word (1 + x)

  abbrev pub edges : ℕ
  edges = word (1 + elements)

  -- edge k: from, role, to
  abbrev pub edge_from : ℕ → ℕ
  edge_from k = word (2 + elements + 3 * k)

  abbrev pub edge_role : ℕ → ℕ
  edge_role k = word (3 + elements + 3 * k)

  abbrev pub edge_to : ℕ → ℕ
  edge_to k = word (4 + elements + 3 * k)

  unfoldable pub decoded : 0 < elements → Interpretation
  decoded some_one = record {
    size = elements;
    inhabited = some_one;
    in_name = λ a x. bit (mask x) a;
    in_role = λ r x y. any (λ k. eqb (edge_from k) x && eqb (edge_role k) r && eqb (edge_to k) y) (up_to edges);
    denotes = element_of elements;
    denoted = element-below elements some_one;
  }

-- edge j stands before edge k: by from, then role, then to
abbrev pub Before : List ℕ → ℕ → ℕ → Type 0
Before ws j k =
    (edge_from ws j < edge_from ws k)
    ⊎ ((edge_from ws j ≡ edge_from ws k) × ((edge_role ws j < edge_role ws k) ⊎ ((edge_role ws j ≡ edge_role ws k) × (edge_to ws j < edge_to ws k))))

-- the words have the shape that the document gives them
pub record Shaped (ws : List ℕ) : Type 0 where
  pub whole : length ws ≡ 2 + elements ws + 3 * edges ws
  pub masks : (x : ℕ) → x < elements ws → mask ws x < 2 ^ name_count
  pub inside : (k : ℕ) → k < edges ws → (edge_from ws k < elements ws) × (edge_role ws k < role_count) × (edge_to ws k < elements ws)
  pub sorted : (j k : ℕ) → j < k → k < edges ws → Before ws j k

-- what answer 10 promises of its words: they are a model of the sheet, in which different individuals are different elements
pub record TenMeans (s : Sheet) (ws : List ℕ) : Type 0 where
  pub shaped : Shaped ws
  pub inhabited : 0 < elements ws
  pub meets-all : meets s (decoded ws inhabited) ≡ true
  pub apart : s.individuals ≤ elements ws
